-- Readings that give a value, one after another.
use Rattle.std.proofs.Common.{◌≡◌, ℕ, suc, ◌+◌, List, [], ◌∷◌, ◌++◌, length, refl, sym, ap, subst, ◌∙◌, arith, Result, Ok, Err, inl, inr, ◌⊎◌}
use Rattle.std.proofs.lemmas.Grind.{common_steps}
use Rattle.adpcm_nums.specs.Outcome.{Gives}
use Rattle.host_files.specs.Outside.{World}
use Rattle.command_faults.specs.declared.status.Status.{Status}
use Rattle.command_faults.specs.declared.status.Status.TheVariants.{Done, Memory}
use Rattle.command_faults.specs.declared.status.HostCall.{HostCall}
use Rattle.command_plan.specs.Ending.{Declined, ending_of}
use Rattle.command_plan.specs.Reading.{Reading, fetched, decided, status_of, Declines}
use Rattle.command_plan.specs.Read.{Read, as_reading, given, fetched_for, read_on, ◌>>=◌, read_all, written_under, Reads}
use Rattle.command_plan.specs.Steps.{HasRead, Halts}
use Rattle.command_plan.proofs.Fronts.{length-append}
use Rattle.command_plan.proofs.Readings.{behind, halts_before, halts_behind, reads_behind, reads_on, halts_short, waits_none}
use Rattle.command_plan.proofs.Tests.{decides, decides_not}

-- where the first gave a value, the second comes after it
on-is : {A B : Type 0} (calls : List HostCall) (r : Result A Status) (f : A → Read B) (v : A) → r ≡ Ok v → read_on calls r f ≡ record { calls = calls ++ (f v).calls; gives = (f v).gives }
on-is calls (Ok w) f v e = let same : w ≡ v = cc in ap (λ z. record { calls = calls ++ (f z).calls; gives = (f z).gives }) same
on-is calls (Err s) f v e = absurd (cc)

then-is : {A B : Type 0} (c : Read A) (f : A → Read B) (v : A) → c.gives ≡ Ok v → c >>= f ≡ record { calls = c.calls ++ (f v).calls; gives = (f v).gives }
then-is c f v e = on-is c.calls c.gives f v e

-- so there are as many calls as both make
pub then-count : {A B : Type 0} (c : Read A) (f : A → Read B) (v : A) → c.gives ≡ Ok v → length (c >>= f).calls ≡ length c.calls + length (f v).calls
then-count {B = B} c f v e = ap (λ (x : Read B). length x.calls) (then-is c f v e) ∙ length-append c.calls (f v).calls

-- and what that gives is what both give
pub then-gives : {A B : Type 0} (c : Read A) (f : A → Read B) (v : A) → c.gives ≡ Ok v → (c >>= f).gives ≡ (f v).gives
then-gives {B = B} c f v e = ap (λ (x : Read B). x.gives) (then-is c f v e)

-- the reading that both are
pub then-reading : {A B : Type 0} (c : Read A) (f : A → Read B) (v : A) → c.gives ≡ Ok v → as_reading (c >>= f) ≡ behind c.calls (as_reading (f v))
then-reading {B = B} c f v e = ap (λ (x : Read B). as_reading x) (then-is c f v e)

on-gave : {A B : Type 0} (calls : List HostCall) (r : Result A Status) (f : A → Read B) (w : B) → (read_on calls r f).gives ≡ Ok w → (v : A) × (r ≡ Ok v) × ((f v).gives ≡ Ok w)
on-gave calls (Ok v) f w e = (v, refl, e)
on-gave calls (Err s) f w e = absurd (cc)

on-outcome : {A B : Type 0} (calls : List HostCall) (r : Result A Status) (f : A → Read B) → ((v : A) → status_of (f v).gives ≡ Done) → status_of (read_on calls r f).gives ≡ status_of r
on-outcome calls (Ok v) f all = all v
on-outcome calls (Err s) f all = refl

-- where both gave a value, the first did, and the second of it
pub then-gave : {A B : Type 0} (c : Read A) (f : A → Read B) (w : B) → (c >>= f).gives ≡ Ok w → (v : A) × (c.gives ≡ Ok v) × ((f v).gives ≡ Ok w)
then-gave c f w e = on-gave c.calls c.gives f w e

-- both were read
pub then_has : {A B : Type 0} (c : Read A) (f : A → Read B) (v : A) (a m b : World) → c.gives ≡ Ok v → HasRead (as_reading c) a m → HasRead (as_reading (f v)) m b → HasRead (as_reading (c >>= f)) a b
then_has c f v a m b e h k = subst (λ (x : Reading). HasRead x a b) (sym (then-reading c f v e)) (reads_behind (as_reading c) (as_reading (f v)) a m b h k)

-- the second halts
pub then_halts : {A B : Type 0} (c : Read A) (f : A → Read B) (v : A) (a m b : World) (s : Status) → c.gives ≡ Ok v → HasRead (as_reading c) a m → Halts (as_reading (f v)) m b s → Halts (as_reading (c >>= f)) a b s
then_halts c f v a m b s e h k = subst (λ (x : Reading). Halts x a b s) (sym (then-reading c f v e)) (halts_behind (as_reading c) (as_reading (f v)) a m b s h k)

on-halts : {A B : Type 0} (calls : List HostCall) (r : Result A Status) (f : A → Read B) (a b : World) (s : Status) → Halts (record { calls = calls; outcome = status_of r }) a b s → Halts (as_reading (read_on calls r f)) a b s
on-halts calls (Ok v) f a b s h = halts_before calls (as_reading (f v)) a b s h
on-halts calls (Err t) f a b s h = h

-- the first halts
pub first_halts : {A B : Type 0} (c : Read A) (f : A → Read B) (a b : World) (s : Status) → Halts (as_reading c) a b s → Halts (as_reading (c >>= f)) a b s
first_halts c f a b s h = on-halts c.calls c.gives f a b s h

-- one after another, as a function's result says it
pub then_reads : {A B X : Type 0} (c : Read A) (f : A → Read B) (v : A) (view : X → B) (a m b : World) (r : Result X Status) → c.gives ≡ Ok v → HasRead (as_reading c) a m → Reads view (f v) m b r → Reads view (c >>= f) a b r
then_reads c f v view a m b (Ok w) e h k = (then_has c f v a m b e h k.0, then-gives c f v e ∙ k.1)
then_reads c f v view a m b (Err s) e h k = then_halts c f v a m b s e h k

-- where the second refuses nothing, what the first gives decides
pub then-outcome : {A B : Type 0} (c : Read A) (f : A → Read B) → ((v : A) → status_of (f v).gives ≡ Done) → (as_reading (c >>= f)).outcome ≡ status_of c.gives
then-outcome c f all = on-outcome c.calls c.gives f all

-- what needs no call
pub given_has : {T : Type 0} (v : T) (a : World) → HasRead (as_reading (given (Ok v))) a a
given_has v a = record { outcome = refl; quiet = waits_none a }

-- what was read before is refused, or there was no memory
pub given_halts : {T : Type 0} (read : Result T Status) (s : Status) (a : World) → (s ≡ Memory) ⊎ ((ending_of s ≡ Declined) × (read ≡ Err s)) → Halts (as_reading (given read)) a a s
given_halts read s a one = elim one as (λ _. Halts (as_reading (given read)) a a s) [
  | inl e ↦ subst (λ (t : Status). Halts (as_reading (given read)) a a t) (sym e) (halts_short (decided (status_of read)) a a 0 (omega arith) (waits_none a))
  | inr e ↦ decides_not (status_of read) s s a e.0 (ap status_of e.1) (inr refl)
]

pub given_refused : {T : Type 0} (read : Result T Status) (s : Status) (a : World) → Declines read → (s ≡ Memory) ⊎ (read ≡ Err s) → Halts (as_reading (given read)) a a s
given_refused read s a d one = given_halts read s a (elim one [ inl e ↦ inl e | inr e ↦ inr (subst Declines e d, e) ])

-- a test of what was read before
pub given_reads : {T X : Type 0} (view : X → T) (r : Result X Status) (read : Result T Status) (a : World) → Declines read → Gives Memory view r read → Reads view (given read) a a r
given_reads view (Ok x) read a d g = (decides (status_of read) a (ap status_of g), g)
given_reads view (Err s) read a d g = given_refused read s a d g

-- a file could not be fetched
pub fetched_first : {T : Type 0} (name : List ℕ) (read : Result T Status) (a b : World) (s : Status) → Halts (fetched name) a b s → Halts (as_reading (fetched_for name read)) a b s
fetched_first name read a b s h = halts_before (fetched name).calls (decided (status_of read)) a b s h

-- it was fetched, and what its front says decides
pub fetched_reads : {T X : Type 0} (name : List ℕ) (view : X → T) (r : Result X Status) (read : Result T Status) (a b : World) → HasRead (fetched name) a b → Declines read → Gives Memory view r read → Reads view (fetched_for name read) a b r
fetched_reads name view r read a b h d g = reads_on (fetched name) (as_reading (given read)) a b b r (λ v. read ≡ Ok (view v)) h (given_reads view r read b d g)

-- one value and the others
abbrev pub listed : {Y : Type 0} → Y → List Y → Read (List Y)
listed y ys = given (Ok (y ∷ ys))

-- where each of them makes one call, there is one for each element
pub all-count : {X Y : Type 0} (f : ℕ → X → Read Y) (k : ℕ) (xs : List X) (ys : List Y) → ((j : ℕ) (x : X) → length (f j x).calls ≡ 1) → (read_all f k xs).gives ≡ Ok ys → length (read_all f k xs).calls ≡ length xs
unfolding read_all
all-count f k [] ys one e = refl
all-count f k (x ∷ xs) ys one e =
    let rest = read_all f (suc k) xs in
    let first = then-gave (f k x) (λ y. rest >>= listed y) ys e in
    let later = then-gave rest (listed first.0) ys first.2 in
    let here = then-count (f k x) (λ y. rest >>= listed y) first.0 first.1 in
    let there = then-count rest (listed first.0) later.0 later.1 in
    let more = all-count f (suc k) xs later.0 one later.1 in
    omega (arith, here, there, more, one k x)

-- and one for each file that is stored, and one for the line
pub written-count : (names : List (List ℕ)) → length (written_under names).calls ≡ length names + 1
written-count names = grind (arith, common_steps)
