-- The chunks that are left to be read, as the loop reads them.
use Rattle.std.proofs.Common.{◌≡◌, ℕ, zero, suc, ◌+◌, ◌≤◌, ◌<◌, Bool, true, false, List, [], ◌∷◌, length, Option, Some, None, Result, Ok, Err, refl, sym, ap, ◌∙◌, cond, arith}
use Rattle.std.specs.Prelude.{nat_lt, find, is_some, option_map, ◌||◌}
use Rattle.std.specs.Option.{option_or}
use Rattle.std.proofs.lemmas.Bool.{lt-ltb, le-ltb}
use Rattle.wave_form.specs.declared.span.Span64.{Span64}
use Rattle.wave_form.specs.declared.chunks.Chunks.{Chunks}
use Rattle.wave_form.specs.declared.fault.WaveFault.{WaveFault}
use Rattle.wave_form.specs.Heads.{Head, head_at, place_after, heads_from}
use Rattle.wave_form.specs.Walk.{is_named, is_data, body_of, first_body, chunks_of, first_of, head_fault, first_fault, unless}
use Rattle.wave_form.proofs.Faults.{unless-ok, unless-err, head_fits}

-- what a walk answers that has seen some chunks and has these heads before it
abbrev pub verdict : ℕ → Chunks → List Head → Result Chunks WaveFault
verdict len seen heads = unless (first_fault len (is_some seen.pcm) heads) (first_of seen (chunks_of heads))

-- what is left to read, after what was seen, comes to the whole
abbrev pub Left : List ℕ → ℕ → Chunks → Result Chunks WaveFault → Type 0
Left file at seen total = (most : ℕ) × (length file ≤ most + at) × (verdict (length file) seen (heads_from most file at) ≡ total)

-- a first chunk is this one or a later one
found_or : (here : Bool) (head : Head) (later : Option Head)
    → option_or (option_map body_of (cond here (Some head) None)) (option_map body_of later) ≡ option_map body_of (cond here (Some head) later)
found_or true head later = refl
found_or false head later = refl

-- one head more among those seen
body_more : (seen : Option Span64) (id : List ℕ) (head : Head) (heads : List Head)
    → option_or (option_or seen (first_body id (head ∷ []))) (first_body id heads) ≡ option_or seen (first_body id (head ∷ heads))
body_more (Some span) id head heads = refl
body_more None id head heads = found_or (is_named id head) head (find (is_named id) heads)

-- whether one was seen with this head
is_some_or : (seen : Option Span64) (here : Bool) (head : Head) → is_some (option_or seen (option_map body_of (cond here (Some head) None))) ≡ (is_some seen || here)
is_some_or (Some span) here head = refl
is_some_or None true head = refl
is_some_or None false head = refl

-- nothing more is found among no heads
or_none : (seen : Option Span64) → option_or seen None ≡ seen
or_none (Some span) = refl
or_none None = refl

-- the same for each kind
chunks_more : (seen : Chunks) (head : Head) (heads : List Head) → first_of (first_of seen (chunks_of (head ∷ []))) (chunks_of heads) ≡ first_of seen (chunks_of (head ∷ heads))
chunks_more seen head heads = rw (body_more seen.fmt _ head heads, body_more seen.pcm _ head heads, body_more seen.smpl _ head heads, body_more seen.fact _ head heads) refl

-- a head without fault joins those seen
verdict-cons : (len : ℕ) (seen : Chunks) (head : Head) (heads : List Head) → head_fault len (is_some seen.pcm) head ≡ None
    → verdict len seen (head ∷ heads) ≡ verdict len (first_of seen (chunks_of (head ∷ []))) heads
unfolding first_fault
verdict-cons len seen head heads none =
    let before = is_some_or seen.pcm (is_data head) head in
    rw (none, before, chunks_more seen head heads) refl

-- a head with a fault is the answer
verdict-fault : (len : ℕ) (seen : Chunks) (head : Head) (heads : List Head) (e : WaveFault) → head_fault len (is_some seen.pcm) head ≡ Some e
    → verdict len seen (head ∷ heads) ≡ Err e
unfolding first_fault
verdict-fault len seen head heads e is = rw is refl

-- where no head is left, what was seen is the answer
verdict-nil : (len : ℕ) (seen : Chunks) → verdict len seen [] ≡ Ok seen
unfolding first_fault
verdict-nil len seen = rw (or_none seen.fmt, or_none seen.pcm, or_none seen.smpl, or_none seen.fact) refl

-- the head at a place and those after it
pub heads-cons : (most : ℕ) (file : List ℕ) (at : ℕ) → at + 8 ≤ length file → heads_from (suc most) file at ≡ head_at file at ∷ heads_from most file (place_after (head_at file at))
unfolding heads_from
heads-cons most file at room = let test : nat_lt (length file) (at + 8) ≡ false = le-ltb _ _ room in rw test refl

-- a turn of the loop: the next place is beyond this head and no further than the pad of the last chunk
pub goes_on : (file : List ℕ) (at next : ℕ) (seen more : Chunks) (total : Result Chunks WaveFault) → at + 8 ≤ length file
    → unless {A = Chunks × ℕ} (head_fault (length file) (is_some seen.pcm) (head_at file at)) (first_of seen (chunks_of (head_at file at ∷ [])), place_after (head_at file at)) ≡ Ok (more, next)
    → Left file at seen total → (at + 8 ≤ next) × (next ≤ length file + 1) × Left file next more total
goes_on file at next seen more total room is (zero, enough, so_far) = absurd (omega arith)
goes_on file at next seen more total room is (suc most, enough, so_far) =
    let head = head_at file at in
    let found = unless-ok {A = Chunks × ℕ} _ _ _ is in
    let seen_is : first_of seen (chunks_of (head ∷ [])) ≡ more = ap (λ (p : Chunks × ℕ). p.0) found.1 in
    let next_is : place_after head ≡ next = ap (λ (p : Chunks × ℕ). p.1) found.1 in
    let fits = head_fits (length file) (is_some seen.pcm) head found.0 in
    let one = ap (verdict (length file) seen) (heads-cons most file at room) ∙ verdict-cons (length file) seen head (heads_from most file (place_after head)) found.0 in
    (omega (arith, next_is), omega (arith, next_is, fits), (most, omega (arith, next_is), rw (← seen_is, ← next_is) (sym one ∙ so_far)))

-- a turn that ends in a fault
pub stops : (file : List ℕ) (at : ℕ) (seen : Chunks) (e : WaveFault) (total : Result Chunks WaveFault) → at + 8 ≤ length file
    → unless {A = Chunks × ℕ} (head_fault (length file) (is_some seen.pcm) (head_at file at)) (first_of seen (chunks_of (head_at file at ∷ [])), place_after (head_at file at)) ≡ Err e
    → Left file at seen total → total ≡ Err e
stops file at seen e total room is (zero, enough, so_far) = absurd (omega arith)
stops file at seen e total room is (suc most, enough, so_far) =
    let fault = unless-err {A = Chunks × ℕ} _ _ _ is in
    sym so_far ∙ (ap (verdict (length file) seen) (heads-cons most file at room) ∙ verdict-fault (length file) seen (head_at file at) _ e fault)

-- the loop's end
pub ends : (file : List ℕ) (at : ℕ) (seen : Chunks) (total : Result Chunks WaveFault) → length file < at + 8 → Left file at seen total → total ≡ Ok seen
unfolding heads_from
ends file at seen total short (zero, enough, so_far) = sym so_far ∙ verdict-nil (length file) seen
ends file at seen total short (suc most, enough, so_far) =
    let test : nat_lt (length file) (at + 8) ≡ true = lt-ltb _ _ short in
    let none : heads_from (suc most) file at ≡ [] = rw test refl in
    sym so_far ∙ (ap (verdict (length file) seen) none ∙ verdict-nil (length file) seen)
