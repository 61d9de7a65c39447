-- Where a sound that goes round its loop stands.
use Rattle.std.proofs.Common.{◌≡◌, ℕ, suc, ◌+◌, ◌-◌, ◌%◌, ◌<◌, ◌≤◌, true, false, ap, sym, ◌∙◌, arith, refl, inl, inr}
use Rattle.std.specs.Prelude.{nat_le}
use Rattle.std.proofs.lemmas.Bool.{cases_lt, le-leb, lt-leb}
use Rattle.std.proofs.lemmas.Nat.{mod_below}
use Rattle.std.proofs.Math.Nat.{mod-eq_of_lt, mod_self, suc-mod}
use Rattle.adpcm_nums.specs.Round.{round_place}
use Rattle.adpcm_nums.specs.declared.loop_at.LoopAt.{LoopAt}

-- up to the loop's end each sample has its own place
pub round_place-within : (at : LoopAt) (i : ℕ) → i ≤ at.end → round_place at i ≡ i
round_place-within at i within = let test : nat_le i at.end ≡ true = le-leb _ _ within in rw test refl

-- and behind it one of the loop's
pub round_place-over : (at : LoopAt) (i : ℕ) → at.end < i → round_place at i ≡ at.start + (i - at.start) % (at.end - at.start + 1)
round_place-over at i over = let test : nat_le i at.end ≡ false = lt-leb _ _ over in rw test refl

-- so no place is behind the end
pub round_place-le : (at : LoopAt) (i : ℕ) → at.start ≤ at.end → round_place at i ≤ at.end
round_place-le at i ordered =
    let len = at.end - at.start + 1 in
    elim (cases_lt at.end i) [
      | inl over ↦ (let rest : (i - at.start) % len < len = mod_below (i - at.start) len (omega arith) in omega (arith, round_place-over at i over, rest))
      | inr within ↦ omega (arith, round_place-within at i within)
    ]

mod-within : (i n : ℕ) → suc (i % n) < n → suc i % n ≡ suc (i % n)
mod-within i n h = suc-mod i n ∙ mod-eq_of_lt h

mod-over : (i n : ℕ) → suc (i % n) ≡ n → suc i % n ≡ 0
mod-over i n h = suc-mod i n ∙ (ap (λ x. x % n) h ∙ mod_self n)

-- after a sample comes that of the next place
pub round_place-next : (at : LoopAt) (i : ℕ) → at.start ≤ at.end → round_place at i < at.end → round_place at (suc i) ≡ suc (round_place at i)
round_place-next at i ordered below =
    let len = at.end - at.start + 1 in
    elim (cases_lt at.end i) [
      | inl over ↦ (let here = round_place-over at i over in
          let next = round_place-over at (suc i) (omega arith) in
          let later : suc i - at.start ≡ suc (i - at.start) = omega arith in
          let rest : (suc i - at.start) % len ≡ suc ((i - at.start) % len) = ap (λ x. x % len) later ∙ mod-within (i - at.start) len (omega (arith, here, below)) in
          omega (arith, here, next, rest))
      | inr within ↦ (let here = round_place-within at i within in
          let more : suc i ≤ at.end = omega (arith, here, below) in
          round_place-within at (suc i) more ∙ ap suc (sym here))
    ]

-- and after the loop's last the loop's first
pub round_place-end : (at : LoopAt) (i : ℕ) → at.start ≤ at.end → round_place at i ≡ at.end → round_place at (suc i) ≡ at.start
round_place-end at i ordered last =
    let len = at.end - at.start + 1 in
    elim (cases_lt at.end i) [
      | inl over ↦ (let here = round_place-over at i over in
          let next = round_place-over at (suc i) (omega arith) in
          let later : suc i - at.start ≡ suc (i - at.start) = omega arith in
          let rest : (suc i - at.start) % len ≡ 0 = ap (λ x. x % len) later ∙ mod-over (i - at.start) len (omega (arith, here, last)) in
          omega (arith, next, rest))
      | inr within ↦ (let here = round_place-within at i within in
          let next = round_place-over at (suc i) (omega (arith, here, last)) in
          let whole : suc i - at.start ≡ len = omega (arith, here, last) in
          let rest : (suc i - at.start) % len ≡ 0 = ap (λ x. x % len) whole ∙ mod_self len in
          omega (arith, next, rest))
    ]
