-- Targets that go round their loop are the sound that goes round its own.
use Rattle.std.proofs.Common.{◌≡◌, ℕ, ◌+◌, ◌-◌, ◌*◌, ◌/◌, ◌%◌, ◌<◌, ◌≤◌, true, false, ℤ, pos, List, length, get_or, Option, Some, None, refl, sym, ap, ◌∙◌, arith, inl, inr}
use Rattle.std.specs.Prelude.{nat_lt, nat_le}
use Rattle.std.proofs.lemmas.Bool.{cases_lt, le-ltb, le-leb, lt-leb}
use Rattle.std.proofs.lemmas.Nat.{div-add-mod', mod_below, mul-le}
use Rattle.std.proofs.Math.Nat.{mod-eq_of_lt, add-mul-mod_self_right}
use Rattle.std.proofs.lemmas.List.{get_or_past}
use Rattle.std.proofs.lemmas.List.FromFn.{get_or-map-range_with_len, length-map-range_with_len}
use Rattle.adpcm_nums.specs.Round.{round_place, round_of}
use Rattle.adpcm_nums.specs.declared.loop_at.LoopAt.{LoopAt}
use Rattle.adpcm_nums.proofs.RoundLaws.{round_place-over, round_place-within, round_place-le}
use Rattle.loop_fit.specs.Align.{loop_length}
use Rattle.loop_fit.specs.Fit.{delayed, target_of, targets_of}

-- with no zeros in front a sound is as it was
pub delayed-zero : (sound : ℕ → ℤ) (i : ℕ) → delayed 0 sound i ≡ sound i
delayed-zero sound i =
    let none : nat_lt i 0 ≡ false = le-ltb _ _ (omega arith) in
    let same : i - 0 ≡ i = omega arith in
    rw none (ap sound same)

-- behind the zeros it stands so much later
pub delayed-after : (front : ℕ) (sound : ℕ → ℤ) (i : ℕ) → front ≤ i → delayed front sound i ≡ sound (i - front)
delayed-after front sound i h =
    let test : nat_lt i front ≡ false = le-ltb _ _ h in
    rw test refl

-- a target of the list is that of its place
pub target-at : (samples : List ℤ) (looped : Option LoopAt) (front count i : ℕ) → i < count
    → get_or (targets_of samples looped front count) i (pos 0) ≡ target_of samples looped front i
target-at samples looped front count i h = get_or-map-range_with_len (target_of samples looped front) 0 count i i (pos 0) h (omega arith)

-- and behind the last one there is silence
pub target-past : (samples : List ℤ) (looped : Option LoopAt) (front count i : ℕ) → count ≤ i → get_or (targets_of samples looped front count) i (pos 0) ≡ pos 0
target-past samples looped front count i h =
    get_or_past (targets_of samples looped front count) i (pos 0) (omega (arith, length-map-range_with_len (target_of samples looped front) 0 count))

-- from its first frame on a loop is played round and round
pub round_place-from : (at : LoopAt) (i : ℕ) → at.start ≤ at.end → at.start ≤ i → round_place at i ≡ at.start + (i - at.start) % loop_length at
round_place-from at i ordered from =
    elim (cases_lt at.end i) [
      | inl over ↦ (let test : nat_le i at.end ≡ false = lt-leb _ _ over in rw test refl)
      | inr within ↦ (let test : nat_le i at.end ≡ true = le-leb _ _ within in
          let small : (i - at.start) % loop_length at ≡ i - at.start = mod-eq_of_lt (omega arith) in
          rw test (omega (arith, small)))
    ]

-- whole rounds do not count
whole_rounds_off : (c x u len : ℕ) → (c + x % (u * len)) % len ≡ (c + x) % len
whole_rounds_off c x u len =
    let split : c + x ≡ c + x % (u * len) + x / (u * len) * u * len = omega (arith, div-add-mod' x (u * len)) in
    sym (ap (λ n. n % len) split ∙ add-mul-mod_self_right (c + x % (u * len)) (x / (u * len) * u) len)

-- so the sound is the same at two places that are whole rounds apart
same_round : (at : LoopAt) (u i j from : ℕ) → at.start ≤ at.end → at.start ≤ from → from ≤ i → j ≡ from + (i - from) % (u * loop_length at) → round_place at j ≡ round_place at i
same_round at u i j from ordered start_le from_le is =
    let len = loop_length at in
    let a : j - at.start ≡ (from - at.start) + (i - from) % (u * len) = omega (arith, is) in
    let b : (from - at.start) + (i - from) ≡ i - at.start = omega arith in
    let rounds : (j - at.start) % len ≡ (i - at.start) % len = ap (λ n. n % len) a ∙ (whole_rounds_off (from - at.start) (i - from) u len ∙ ap (λ n. n % len) b) in
    round_place-from at j ordered (omega (arith, is)) ∙ (ap (λ n. at.start + n) rounds ∙ sym (round_place-from at i ordered (omega arith)))

-- a loop that lies on whole blocks
pub block_round : (samples : List ℤ) (at points : LoopAt) (front count u i : ℕ) → at.start ≤ at.end → 1 ≤ u → front + at.start ≤ points.start
    → points.end + 1 ≡ count → count ≡ points.start + u * loop_length at
    → round_of (targets_of samples (Some at) front count) (Some points) i ≡ delayed front (round_of samples (Some at)) i
block_round samples at points front count u i ordered some room last ends =
    let len = loop_length at in
    let sound = round_of samples (Some at) in
    let targets = targets_of samples (Some at) front count in
    let least : 1 * 1 ≤ u * len = mul-le 1 1 u len some (omega arith) in
    elim (cases_lt points.end i) [
      | inr within ↦ ap (λ n. get_or targets n (pos 0)) (round_place-within points i within) ∙ target-at samples (Some at) front count i (omega arith)
      | inl over ↦ (
          let width : loop_length points ≡ u * len = omega (arith, least) in
          let place = points.start + (i - points.start) % (u * len) in
          let below : (i - points.start) % (u * len) < u * len = mod_below (i - points.start) (u * len) (omega (arith, least)) in
          let here : round_place points i ≡ place = round_place-over points i over ∙ ap (λ n. points.start + (i - points.start) % n) width in
          let later : place - front ≡ (points.start - front) + (i - front - (points.start - front)) % (u * len) = (let gap : i - front - (points.start - front) ≡ i - points.start = omega arith in
          let moved : place - front ≡ (points.start - front) + (i - points.start) % (u * len) = omega arith in
          moved ∙ ap (λ n. (points.start - front) + n % (u * len)) (sym gap)) in
          let same = same_round at u (i - front) (place - front) (points.start - front) ordered (omega arith) (omega (arith, least)) later in
          ap (λ n. get_or targets n (pos 0)) here ∙ (target-at samples (Some at) front count place (omega (arith, below))
          ∙ (delayed-after front sound place (omega arith) ∙ (ap (λ n. get_or samples n (pos 0)) same ∙ sym (delayed-after front sound i (omega (arith, least)))))))
    ]

-- a sound that is played once
pub once_round : (samples : List ℤ) (count i : ℕ) → length samples ≤ count
    → round_of (targets_of samples None 0 count) None i ≡ delayed 0 (round_of samples None) i
once_round samples count i enough =
    elim (cases_lt i count) [
      | inl within ↦ target-at samples None 0 count i within
      | inr past ↦ target-past samples None 0 count i past ∙ (sym (get_or_past samples i (pos 0) (omega arith)) ∙ sym (delayed-zero (round_of samples None) i))
    ]

-- a loop that stays at its frames
pub frame_round : (samples : List ℤ) (at : LoopAt) (count i : ℕ) → at.start ≤ at.end → at.end < length samples → length samples ≤ count
    → round_of (targets_of samples None 0 count) (Some at) i ≡ delayed 0 (round_of samples (Some at)) i
frame_round samples at count i ordered within enough =
    let place = round_place at i in
    let low = round_place-le at i ordered in
    target-at samples None 0 count place (omega (arith, low))
    ∙ (delayed-zero (round_of samples None) place ∙ sym (delayed-zero (round_of samples (Some at)) i))
