-- A reading for each element of a list, as a loop makes them.
use Rattle.std.proofs.Common.{◌≡◌, ℕ, zero, suc, ◌+◌, ◌≤◌, List, [], ◌∷◌, ◌++◌, length, drop, refl, sym, ap, subst, ◌∙◌, append-nil, arith, Ok, Some, slice_get}
use Rattle.std.proofs.lemmas.List.{append_assoc, drop_all}
use Rattle.host_files.specs.Outside.{World}
use Rattle.command_faults.specs.declared.status.Status.{Status}
use Rattle.command_faults.specs.declared.status.Status.TheVariants.{Memory}
use Rattle.command_plan.specs.Read.{Read, as_reading, ◌>>=◌, read_all}
use Rattle.command_plan.specs.Steps.{HasRead, Halts}
use Rattle.command_plan.proofs.Readings.{halts_after}
use Rattle.command_plan.proofs.ReadOn.{listed, then_has, then_halts, then-gives, first_halts, given_has}

-- the rest of a reading, after the values that were read so far
pub record GoesOn {Y : Type 0} (whole rest : Read (List Y)) (ys : List Y) (a m : World) : Type 0 where
  pub halts : (b : World) (s : Status) → Halts (as_reading rest) m b s → Halts (as_reading whole) a b s
  pub done : (b : World) (zs : List Y) → HasRead (as_reading rest) m b → rest.gives ≡ Ok zs → HasRead (as_reading whole) a b × (whole.gives ≡ Ok (ys ++ zs))

-- before the first
pub goes_first : {Y : Type 0} (whole : Read (List Y)) (ys : List Y) (a : World) → ys ≡ [] → GoesOn whole whole ys a a
goes_first whole ys a none = record { halts = λ b s h. h; done = λ b zs h e. (h, e ∙ ap (λ z. Ok (z ++ zs)) (sym none)) }

-- one more
pub goes_more : {X Y : Type 0} (f : ℕ → X → Read Y) (k : ℕ) (x : X) (xs : List X) (y : Y) (whole : Read (List Y)) (ys : List Y) (a m n : World) → GoesOn whole (read_all f k (x ∷ xs)) ys a m
    → HasRead (as_reading (f k x)) m n → (f k x).gives ≡ Ok y → GoesOn whole (read_all f (suc k) xs) (ys ++ y ∷ []) a n
unfolding read_all
goes_more f k x xs y whole ys a m n g h e =
    let rest = read_all f (suc k) xs in
    record {
      halts = λ b s r. g.halts b s (then_halts (f k x) (λ z. rest >>= listed z) y m n b s e h (first_halts rest (listed y) n b s r));
      done = λ b zs r z.
          let later = then_has rest (listed y) zs n b b z r (given_has (y ∷ zs) b) in
          let all = g.done b (y ∷ zs) (then_has (f k x) (λ w. rest >>= listed w) y m n b e h later) (then-gives (f k x) (λ w. rest >>= listed w) y e ∙ then-gives rest (listed y) zs z) in
          (all.0, all.1 ∙ ap (λ w. Ok w) (sym (append_assoc ys (y ∷ []) zs)));
    }

-- one of them halts
pub goes_not : {X Y : Type 0} (f : ℕ → X → Read Y) (k : ℕ) (x : X) (xs : List X) (whole : Read (List Y)) (ys : List Y) (a m b : World) (s : Status) → GoesOn whole (read_all f k (x ∷ xs)) ys a m
    → Halts (as_reading (f k x)) m b s → Halts (as_reading whole) a b s
unfolding read_all
goes_not f k x xs whole ys a m b s g h = g.halts b s (first_halts (f k x) (λ y. read_all f (suc k) xs >>= listed y) m b s h)

-- after the last
pub goes_last : {X Y : Type 0} (f : ℕ → X → Read Y) (k : ℕ) (whole : Read (List Y)) (ys : List Y) (a m : World) → GoesOn whole (read_all f k []) ys a m → HasRead (as_reading whole) a m × (whole.gives ≡ Ok ys)
unfolding read_all
goes_last {Y = Y} f k whole ys a m g = let none : List Y = [] in let all = g.done m none (given_has none m) refl in (all.0, all.1 ∙ ap (λ w. Ok w) (append-nil ys))

drop-next : {X : Type 0} (xs : List X) (j : ℕ) (x : X) → slice_get xs j ≡ Some x → drop j xs ≡ x ∷ drop (suc j) xs
drop-next (y ∷ ys) zero x here = let same : y ≡ x = cc in ap (λ z. z ∷ ys) same
drop-next (y ∷ ys) (suc j) x here = drop-next ys j x here
drop-next [] j x here = absurd (cc)

-- the rest begins with the next one
at-next : {X Y : Type 0} (f : ℕ → X → Read Y) (xs : List X) (j : ℕ) (x : X) (whole : Read (List Y)) (ys : List Y) (a m : World) → slice_get xs j ≡ Some x → GoesOn whole (read_all f j (drop j xs)) ys a m
    → GoesOn whole (read_all f j (x ∷ drop (suc j) xs)) ys a m
at-next f xs j x whole ys a m here g = subst (λ zs. GoesOn whole (read_all f j zs) ys a m) (drop-next xs j x here) g

-- one more was read
pub goes_step : {X Y : Type 0} (f : ℕ → X → Read Y) (xs : List X) (j : ℕ) (x : X) (y : Y) (whole : Read (List Y)) (ys all : List Y) (a m n : World) → slice_get xs j ≡ Some x → all ≡ ys ++ y ∷ [] → GoesOn whole (read_all f j (drop j xs)) ys a m
    → HasRead (as_reading (f j x)) m n → (f j x).gives ≡ Ok y → GoesOn whole (read_all f (j + 1) (drop (j + 1) xs)) all a n
goes_step f xs j x y whole ys all a m n here pushed g h e =
    let next : suc j ≡ j + 1 = omega arith in
    subst (λ k. GoesOn whole (read_all f k (drop k xs)) all a n) next
    (subst (λ zs. GoesOn whole (read_all f (suc j) (drop (suc j) xs)) zs a n) (sym pushed) (goes_more f j x (drop (suc j) xs) y whole ys a m n (at-next f xs j x whole ys a m here g) h e))

-- it halts
pub goes_halts : {X Y : Type 0} (f : ℕ → X → Read Y) (xs : List X) (j : ℕ) (x : X) (whole : Read (List Y)) (ys : List Y) (a m b : World) (s : Status) → slice_get xs j ≡ Some x → GoesOn whole (read_all f j (drop j xs)) ys a m
    → Halts (as_reading (f j x)) m b s → Halts (as_reading whole) a b s
goes_halts f xs j x whole ys a m b s here g h = goes_not f j x (drop (suc j) xs) whole ys a m b s (at-next f xs j x whole ys a m here g) h

-- there is no memory after it
pub goes_short : {X Y : Type 0} (f : ℕ → X → Read Y) (xs : List X) (j : ℕ) (x : X) (whole : Read (List Y)) (ys : List Y) (a m b : World) → slice_get xs j ≡ Some x → GoesOn whole (read_all f j (drop j xs)) ys a m
    → HasRead (as_reading (f j x)) m b → Halts (as_reading whole) a b Memory
goes_short f xs j x whole ys a m b here g h = goes_halts f xs j x whole ys a m b Memory here g (halts_after (as_reading (f j x)) m b h)

-- there are no more
pub goes_ended : {X Y : Type 0} (f : ℕ → X → Read Y) (xs : List X) (j : ℕ) (whole : Read (List Y)) (ys : List Y) (a m : World) → length xs ≤ j → GoesOn whole (read_all f j (drop j xs)) ys a m
    → HasRead (as_reading whole) a m × (whole.gives ≡ Ok ys)
goes_ended f xs j whole ys a m all g = goes_last f j whole ys a m (subst (λ zs. GoesOn whole (read_all f j zs) ys a m) (drop_all j xs all) g)
