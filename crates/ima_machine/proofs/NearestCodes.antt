-- The nearest symbol: at the first place the target itself, later the code of the better of two ladders.
use Rattle.std.proofs.Common.{inl, inr, ◌≡◌, ℕ, zero, suc, ◌+◌, ◌*◌, ◌%◌, ◌<◌, ◌≤◌, true, false, refl, arith, ap, sym, ◌∙◌}
use Rattle.std.specs.Prelude.{ℤ, pos, negsuc, ◌+ℤ◌, ◌-ℤ◌, ◌*ℤ◌, ◌≤ℤ◌, nat_lt, unsigned_abs}
use Rattle.std.proofs.lemmas.Int.{ints, clamps}
use Rattle.std.proofs.lemmas.Bool.{cases_Bool, cond-true, cond-false, lt-ltb, le-ltb}
use Rattle.std.proofs.Math.Nat.{mul-le-mul}
use Rattle.adpcm_nums.specs.Nums.{clamp16_of, square_of}
use Rattle.adpcm_nums.specs.Least.{IsFirstLeast, first_least}
use Rattle.adpcm_nums.specs.Sample.{IsSample}
use Rattle.adpcm_nums.proofs.LeastLaws.{is_first_least, is_first_least_at, first_least-is}
use Rattle.adpcm_nums.proofs.OrderLaws.{le-or-gt, inside-is, high-is, low-is}
use Rattle.machine_core.specs.declared.state.State.{State}
use Rattle.machine_core.specs.declared.taken.Taken.{Taken}
use Rattle.machine_core.specs.Nearest.{symbol_cost, nearest_symbol, taken}
use Rattle.machine_core.proofs.Places.{not-first}
use Rattle.ima_machine.specs.Steps.{step_size, distance_of, difference_of}
use Rattle.ima_machine.specs.Ima.{ima, first_state, later_state, symbols_at}
use Rattle.ima_machine.specs.Nearest.{later_cost, later_taken, miss_toward, miss_away, rising_miss, falling_miss}
use Rattle.ima_machine.specs.Laws.Stepping.{step-first, step-later}
use Rattle.ima_machine.proofs.LowBits.{distance-low}
use Rattle.ima_machine.proofs.Ladders.{Rises, away-first, first-half, second-half, squared-least, same-least}

-- the eight distances rise
next-distance : (step k : ℕ) → 7 ≤ step → suc k < 8 → distance_of step k < distance_of step (suc k)
unfolding distance_of
next-distance step zero h fits = omega arith
next-distance step (suc zero) h fits = omega arith
next-distance step (suc (suc zero)) h fits = omega arith
next-distance step (suc (suc (suc zero))) h fits = omega arith
next-distance step (suc (suc (suc (suc zero)))) h fits = omega arith
next-distance step (suc (suc (suc (suc (suc zero))))) h fits = omega arith
next-distance step (suc (suc (suc (suc (suc (suc zero)))))) h fits = omega arith
next-distance step (suc (suc (suc (suc (suc (suc (suc k))))))) h fits = absurd (omega arith)

pub distances-rise : (step : ℕ) → 7 ≤ step → Rises (distance_of step)
distances-rise step h = record { next = λ k fits. next-distance step k h fits }

-- the second eight codes have the distances of the first
high-distance : (step k : ℕ) → distance_of step (8 + k) ≡ distance_of step k
high-distance step k = let low : (8 + k) % 8 ≡ k % 8 = omega arith in distance-low step (8 + k) ∙ ap (distance_of step) low ∙ sym (distance-low step k)

-- what codes miss by on either side
rising-low : (step gap above below k : ℕ) → k < 8 → rising_miss step gap above below k ≡ miss_toward gap above (distance_of step k)
unfolding rising_miss
rising-low step gap above below k fits = cond-true _ _ _ (lt-ltb k 8 fits)

rising-high : (step gap above below k : ℕ) → rising_miss step gap above below (8 + k) ≡ miss_away gap below (distance_of step k)
unfolding rising_miss
rising-high step gap above below k = cond-false _ _ _ (le-ltb (8 + k) 8 (omega arith)) ∙ ap (miss_away gap below) (high-distance step k)

falling-low : (step gap above below k : ℕ) → k < 8 → falling_miss step gap above below k ≡ miss_away gap above (distance_of step k)
unfolding falling_miss
falling-low step gap above below k fits = cond-true _ _ _ (lt-ltb k 8 fits)

falling-high : (step gap above below k : ℕ) → falling_miss step gap above below (8 + k) ≡ miss_toward gap below (distance_of step k)
unfolding falling_miss
falling-high step gap above below k = cond-false _ _ _ (le-ltb (8 + k) 8 (omega arith)) ∙ ap (miss_toward gap below) (high-distance step k)

-- the better of the two ladders
pub record Nearest (step gap room i : ℕ) : Type 0 where
  pub is : IsFirstLeast (λ code. miss_toward gap room (distance_of step code)) 8 i

pub rising-stays : (step gap above below i : ℕ) → 7 ≤ step → Nearest step gap above i → miss_toward gap above (distance_of step i) ≤ miss_away gap below (distance_of step 0)
    → IsFirstLeast (rising_miss step gap above below) 16 i
rising-stays step gap above below i h near le =
    let toward = same-least _ (rising_miss step gap above below) 8 i (rising-low step gap above below) near.is in
    let away = same-least _ (λ k. rising_miss step gap above below (8 + k)) 8 0 (λ k fits. rising-high step gap above below k) (away-first (distance_of step) gap below (distances-rise step h)) in
    let fits = near.is.within in
    first-half (rising_miss step gap above below) i 0 toward away (omega (arith, le, rising-low step gap above below i fits, rising-high step gap above below 0))

pub rising-turns : (step gap above below i : ℕ) → 7 ≤ step → Nearest step gap above i → miss_away gap below (distance_of step 0) < miss_toward gap above (distance_of step i)
    → IsFirstLeast (rising_miss step gap above below) 16 8
rising-turns step gap above below i h near lt =
    let toward = same-least _ (rising_miss step gap above below) 8 i (rising-low step gap above below) near.is in
    let away = same-least _ (λ k. rising_miss step gap above below (8 + k)) 8 0 (λ k fits. rising-high step gap above below k) (away-first (distance_of step) gap below (distances-rise step h)) in
    let fits = near.is.within in
    second-half (rising_miss step gap above below) i 0 toward away (omega (arith, lt, rising-low step gap above below i fits, rising-high step gap above below 0))

pub falling-stays : (step gap above below i : ℕ) → 7 ≤ step → Nearest step gap below i → miss_toward gap below (distance_of step i) < miss_away gap above (distance_of step 0)
    → IsFirstLeast (falling_miss step gap above below) 16 (8 + i)
falling-stays step gap above below i h near lt =
    let toward = same-least _ (λ k. falling_miss step gap above below (8 + k)) 8 i (λ k fits. falling-high step gap above below k) near.is in
    let away = same-least _ (falling_miss step gap above below) 8 0 (falling-low step gap above below) (away-first (distance_of step) gap above (distances-rise step h)) in
    second-half (falling_miss step gap above below) 0 i away toward (omega (arith, lt, falling-low step gap above below 0 (omega arith), falling-high step gap above below i))

pub falling-turns : (step gap above below i : ℕ) → 7 ≤ step → Nearest step gap below i → miss_away gap above (distance_of step 0) ≤ miss_toward gap below (distance_of step i)
    → IsFirstLeast (falling_miss step gap above below) 16 0
falling-turns step gap above below i h near le =
    let toward = same-least _ (λ k. falling_miss step gap above below (8 + k)) 8 i (λ k fits. falling-high step gap above below k) near.is in
    let away = same-least _ (falling_miss step gap above below) 8 0 (falling-low step gap above below) (away-first (distance_of step) gap above (distances-rise step h)) in
    first-half (falling_miss step gap above below) 0 i away toward (omega (arith, le, falling-low step gap above below 0 (omega arith), falling-high step gap above below i))

-- clamped outputs miss by these numbers
one : (y t : ℤ) → unsigned_abs (pos 1 *ℤ y -ℤ t) ≡ unsigned_abs (y -ℤ t)
one y t = let same : pos 1 *ℤ y ≡ y = omega (arith, ints) in ap (λ z. unsigned_abs (z -ℤ t)) same

at-output : (x y t : ℤ) (n : ℕ) → clamp16_of x ≡ y → unsigned_abs (y -ℤ t) ≡ n → unsigned_abs (pos 1 *ℤ clamp16_of x -ℤ t) ≡ n
at-output x y t n e miss = ap (λ z. unsigned_abs (pos 1 *ℤ z -ℤ t)) e ∙ one y t ∙ miss

lowest-first : negsuc 32767 ≤ℤ pos 32767
lowest-first = omega (arith, ints)

up-toward : (a t : ℤ) (d gap room : ℕ) → IsSample t → a ≤ℤ t → gap ≡ unsigned_abs (t -ℤ a) → room ≡ unsigned_abs (pos 32767 -ℤ t) → IsSample a
    → unsigned_abs (pos 1 *ℤ clamp16_of (a +ℤ pos d) -ℤ t) ≡ miss_toward gap room d
up-toward a t d gap room sample order g r from =
    let hi = sample.high in let lo = from.low in
    elim (le-or-gt (a +ℤ pos d) (pos 32767)) [
      | inl inside ↦ at-output (a +ℤ pos d) (a +ℤ pos d) t (miss_toward gap room d) (inside-is (negsuc 32767) (pos 32767) (a +ℤ pos d) (omega (arith, ints)) inside) (omega (arith, ints))
      | inr over ↦ at-output (a +ℤ pos d) (pos 32767) t (miss_toward gap room d) (high-is (negsuc 32767) (pos 32767) (a +ℤ pos d) lowest-first over) (omega (arith, ints))
    ]

up-away : (a t : ℤ) (d gap room : ℕ) → IsSample t → t ≤ℤ a → gap ≡ unsigned_abs (a -ℤ t) → room ≡ unsigned_abs (pos 32767 -ℤ t) → IsSample a
    → unsigned_abs (pos 1 *ℤ clamp16_of (a +ℤ pos d) -ℤ t) ≡ miss_away gap room d
up-away a t d gap room sample order g r from =
    let lo = from.low in let hi = sample.high in
    elim (le-or-gt (a +ℤ pos d) (pos 32767)) [
      | inl inside ↦ at-output (a +ℤ pos d) (a +ℤ pos d) t (miss_away gap room d) (inside-is (negsuc 32767) (pos 32767) (a +ℤ pos d) (omega (arith, ints)) inside) (omega (arith, ints))
      | inr over ↦ at-output (a +ℤ pos d) (pos 32767) t (miss_away gap room d) (high-is (negsuc 32767) (pos 32767) (a +ℤ pos d) lowest-first over) (omega (arith, ints))
    ]

down-toward : (a t : ℤ) (d gap room : ℕ) → IsSample t → t ≤ℤ a → gap ≡ unsigned_abs (a -ℤ t) → room ≡ unsigned_abs (t -ℤ negsuc 32767) → IsSample a
    → unsigned_abs (pos 1 *ℤ clamp16_of (a +ℤ (pos 0 -ℤ pos d)) -ℤ t) ≡ miss_toward gap room d
down-toward a t d gap room sample order g r from =
    let x = a +ℤ (pos 0 -ℤ pos d) in
    let hi = from.high in let lo = sample.low in
    elim (le-or-gt (negsuc 32767) x) [
      | inl inside ↦ at-output x x t (miss_toward gap room d) (inside-is (negsuc 32767) (pos 32767) x inside (omega (arith, ints))) (omega (arith, ints))
      | inr under ↦ at-output x (negsuc 32767) t (miss_toward gap room d) (low-is (negsuc 32767) (pos 32767) x lowest-first under) (omega (arith, ints))
    ]

down-away : (a t : ℤ) (d gap room : ℕ) → IsSample t → a ≤ℤ t → gap ≡ unsigned_abs (t -ℤ a) → room ≡ unsigned_abs (t -ℤ negsuc 32767) → IsSample a
    → unsigned_abs (pos 1 *ℤ clamp16_of (a +ℤ (pos 0 -ℤ pos d)) -ℤ t) ≡ miss_away gap room d
down-away a t d gap room sample order g r from =
    let x = a +ℤ (pos 0 -ℤ pos d) in
    let hi = from.high in let lo = sample.low in
    elim (le-or-gt (negsuc 32767) x) [
      | inl inside ↦ at-output x x t (miss_away gap room d) (inside-is (negsuc 32767) (pos 32767) x inside (omega (arith, ints))) (omega (arith, ints))
      | inr under ↦ at-output x (negsuc 32767) t (miss_away gap room d) (low-is (negsuc 32767) (pos 32767) x lowest-first under) (omega (arith, ints))
    ]

-- what a code of either sign costs
cost-up : (from : State) (t : ℤ) (code : ℕ) → nat_lt code 8 ≡ true
    → later_cost from t code ≡ square_of (pos 1 *ℤ clamp16_of (from.a +ℤ pos (distance_of (step_size (unsigned_abs from.b)) code)) -ℤ t)
unfolding later_cost later_state difference_of
cost-up from t code up = ap (λ d. square_of (pos 1 *ℤ clamp16_of (from.a +ℤ d) -ℤ t)) (cond-true _ _ _ up)

cost-down : (from : State) (t : ℤ) (code : ℕ) → nat_lt code 8 ≡ false
    → later_cost from t code ≡ square_of (pos 1 *ℤ clamp16_of (from.a +ℤ (pos 0 -ℤ pos (distance_of (step_size (unsigned_abs from.b)) code))) -ℤ t)
unfolding later_cost later_state difference_of
cost-down from t code down = ap (λ d. square_of (pos 1 *ℤ clamp16_of (from.a +ℤ d) -ℤ t)) (cond-false _ _ _ down)

rising-cost : (from : State) (t : ℤ) (step gap above below code : ℕ) → IsSample t → IsSample from.a → step ≡ step_size (unsigned_abs from.b) → from.a ≤ℤ t
    → gap ≡ unsigned_abs (t -ℤ from.a) → above ≡ unsigned_abs (pos 32767 -ℤ t) → below ≡ unsigned_abs (t -ℤ negsuc 32767)
    → later_cost from t code ≡ rising_miss step gap above below code * rising_miss step gap above below code
unfolding rising_miss
rising-cost from t step gap above below code sample last s order g u v =
    let size = ap (λ x. distance_of x code) s in
    let square : ℕ → ℕ = λ n. n * n in
    elim (cases_Bool (nat_lt code 8)) [
      | inl up ↦ (
          let miss = up-toward from.a t (distance_of (step_size (unsigned_abs from.b)) code) gap above sample order g u last in
          rw up (cost-up from t code up ∙ ap square (miss ∙ ap (miss_toward gap above) (sym size))))
      | inr down ↦ (
          let miss = down-away from.a t (distance_of (step_size (unsigned_abs from.b)) code) gap below sample order g v last in
          rw down (cost-down from t code down ∙ ap square (miss ∙ ap (miss_away gap below) (sym size))))
    ]

falling-cost : (from : State) (t : ℤ) (step gap above below code : ℕ) → IsSample t → IsSample from.a → step ≡ step_size (unsigned_abs from.b) → t ≤ℤ from.a
    → gap ≡ unsigned_abs (from.a -ℤ t) → above ≡ unsigned_abs (pos 32767 -ℤ t) → below ≡ unsigned_abs (t -ℤ negsuc 32767)
    → later_cost from t code ≡ falling_miss step gap above below code * falling_miss step gap above below code
unfolding falling_miss
falling-cost from t step gap above below code sample last s order g u v =
    let size = ap (λ x. distance_of x code) s in
    let square : ℕ → ℕ = λ n. n * n in
    elim (cases_Bool (nat_lt code 8)) [
      | inl up ↦ (
          let miss = up-away from.a t (distance_of (step_size (unsigned_abs from.b)) code) gap above sample order g u last in
          rw up (cost-up from t code up ∙ ap square (miss ∙ ap (miss_away gap above) (sym size))))
      | inr down ↦ (
          let miss = down-toward from.a t (distance_of (step_size (unsigned_abs from.b)) code) gap below sample order g v last in
          rw down (cost-down from t code down ∙ ap square (miss ∙ ap (miss_toward gap below) (sym size))))
    ]

pub rising-nearest : (from : State) (t : ℤ) (step gap above below i : ℕ) → IsSample t → IsSample from.a → step ≡ step_size (unsigned_abs from.b) → from.a ≤ℤ t
    → gap ≡ unsigned_abs (t -ℤ from.a) → above ≡ unsigned_abs (pos 32767 -ℤ t) → below ≡ unsigned_abs (t -ℤ negsuc 32767)
    → IsFirstLeast (rising_miss step gap above below) 16 i → i ≡ first_least (later_cost from t) 16
rising-nearest from t step gap above below i sample last s order g u v found =
    is_first_least (later_cost from t) 15 i (squared-least (rising_miss step gap above below) (later_cost from t) 16 i (λ k fits. rising-cost from t step gap above below k sample last s order g u v) found)

pub falling-nearest : (from : State) (t : ℤ) (step gap above below i : ℕ) → IsSample t → IsSample from.a → step ≡ step_size (unsigned_abs from.b) → t ≤ℤ from.a
    → gap ≡ unsigned_abs (from.a -ℤ t) → above ≡ unsigned_abs (pos 32767 -ℤ t) → below ≡ unsigned_abs (t -ℤ negsuc 32767)
    → IsFirstLeast (falling_miss step gap above below) 16 i → i ≡ first_least (later_cost from t) 16
falling-nearest from t step gap above below i sample last s order g u v found =
    is_first_least (later_cost from t) 15 i (squared-least (falling_miss step gap above below) (later_cost from t) 16 i (λ k fits. falling-cost from t step gap above below k sample last s order g u v) found)

later-is : (samples head p : ℕ) (from : State) (target : ℤ) (code : ℕ) → 0 < p → later_cost from target code ≡ symbol_cost (ima samples) head p from target code
unfolding later_cost
later-is samples head p from target code later = ap (λ (s : State). square_of (pos 1 *ℤ s.a -ℤ target)) (sym (step-later head p code from later))

pub nearest-later : (samples head p : ℕ) (from : State) (target : ℤ) → 0 < p → first_least (later_cost from target) 16 ≡ nearest_symbol (ima samples) head p from target
nearest-later samples head p from target later =
    let few : symbols_at p ≡ 16 = cond-false _ _ _ (not-first p later) in
    is_first_least (symbol_cost (ima samples) head p from target) 15 _ (same-least _ _ 16 _ (λ code fits. sym (later-is samples head p from target code later)) (first_least-is (later_cost from target) 15))
    ∙ ap (first_least (symbol_cost (ima samples) head p from target)) (sym few)

-- what a first symbol costs
first-cost : (samples head symbol : ℕ) (from : State) (target : ℤ) → symbol_cost (ima samples) head 0 from target symbol ≡ square_of (pos 1 *ℤ (pos symbol -ℤ pos 32768) -ℤ target)
unfolding first_state
first-cost samples head symbol from target = ap (λ (s : State). square_of (pos 1 *ℤ s.a -ℤ target)) (step-first head symbol from)

square-positive : (n : ℕ) → 0 < n → 0 < n * n
square-positive n h = let some : 1 ≤ n = omega arith in let more : 1 * 1 ≤ n * n = mul-le-mul some some in omega arith

near-none : (symbol : ℕ) (target : ℤ) → pos symbol ≡ target +ℤ pos 32768 → square_of (pos 1 *ℤ (pos symbol -ℤ pos 32768) -ℤ target) ≡ 0
near-none symbol target e = let none : pos 1 *ℤ (pos symbol -ℤ pos 32768) -ℤ target ≡ pos 0 = omega (arith, ints) in ap square_of none

near-some : (symbol other : ℕ) (target : ℤ) → pos symbol ≡ target +ℤ pos 32768 → other < symbol → 0 < square_of (pos 1 *ℤ (pos other -ℤ pos 32768) -ℤ target)
near-some symbol other target e before = square-positive _ (omega (arith, ints))

-- a target's own symbol comes first of least cost
pub first-is : (samples head symbol n : ℕ) (from : State) (target : ℤ) → pos symbol ≡ target +ℤ pos 32768 → symbol < n → IsFirstLeast (symbol_cost (ima samples) head 0 from target) n symbol
first-is samples head symbol n from target e within =
    let cost = first-cost samples head symbol from target in
    let none = near-none symbol target e in record {
      within = within;
      least = λ k below. omega (arith, cost, none);
      first = λ k before. (let more = near-some symbol k target e before in let other = first-cost samples head k from target in omega (arith, cost, none, other, more));
    }

pub nearest-first : (samples head symbol n : ℕ) (from : State) (target : ℤ) → pos symbol ≡ target +ℤ pos 32768 → symbol < n → n ≡ symbols_at 0 → symbol ≡ nearest_symbol (ima samples) head 0 from target
nearest-first samples head symbol n from target e within all = is_first_least_at (symbol_cost (ima samples) head 0 from target) n (symbols_at 0) symbol (first-is samples head symbol n from target e within) all

-- what is taken at a later place, and at the first
pub taken-later : (samples head p : ℕ) (from : State) (target : ℤ) → 0 < p → later_taken from target ≡ taken (ima samples) head p from target
unfolding later_cost
taken-later samples head p from target later =
    let best = first_least (later_cost from target) 16 in
    let mk : ℕ → State → Taken = λ s at. record { symbol = s; state = at; cost = square_of (pos 1 *ℤ at.a -ℤ target) } in
    ap (mk best) (sym (step-later head p best from later))
    ∙ ap (λ s. mk s ((ima samples).step head p s from)) (nearest-later samples head p from target later)

pub taken-first : (samples head : ℕ) (from : State) (target : ℤ) (r : Taken) → pos r.symbol ≡ target +ℤ pos 32768 → r.symbol < 65536 → r.state ≡ first_state head r.symbol
    → r.cost ≡ square_of (pos 1 *ℤ (first_state head r.symbol).a -ℤ target) → r ≡ taken (ima samples) head 0 from target
taken-first samples head from target r e fits state costs =
    let mk : ℕ → State → ℕ → Taken = λ s at k. record { symbol = s; state = at; cost = k } in
    let paid : ℕ → ℕ = λ s. square_of (pos 1 *ℤ (first_state head s).a -ℤ target) in
    let nearest = nearest-first samples head r.symbol 65536 from target e fits refl in
    let best = nearest_symbol (ima samples) head 0 from target in
    ap (λ (at : State). mk r.symbol at r.cost) state
    ∙ ap (mk r.symbol (first_state head r.symbol)) costs
    ∙ ap (λ s. mk s (first_state head s) (paid s)) nearest
    ∙ ap (λ (at : State). mk best at (square_of (pos 1 *ℤ at.a -ℤ target))) (sym (step-first head best from))
