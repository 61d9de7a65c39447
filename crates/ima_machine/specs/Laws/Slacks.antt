-- Which first symbols may cost at most a slack.
use Rattle.std.proofs.Common.{refl, ◌≡◌, ℕ, zero, suc, ◌+◌, ◌-◌, ◌*◌, ◌<◌, ◌≤◌, ◌⊎◌, inl, inr, arith, ap, sym, ◌∙◌, subst, min}
use Rattle.std.specs.Prelude.{ℤ, pos, ◌+ℤ◌, ◌-ℤ◌, ◌*ℤ◌, nat_le, unsigned_abs}
use Rattle.std.proofs.lemmas.Int.{ints}
use Rattle.std.proofs.lemmas.Bool.{cases_Bool, cases_lt, cond-true, cond-false, leb-false, leb-true, le-leb, lt-leb}
use Rattle.std.proofs.Math.Nat.{mul-le-mul}
use Rattle.adpcm_nums.specs.Nums.{square_of}
use Rattle.adpcm_nums.specs.Sample.{IsSample}
use Rattle.ima_machine.specs.Spelling.{symbol_of}
use Rattle.ima_machine.specs.Image.{root_below, reach_of}

squares-rise : (a b : ℕ) → a ≤ b → a * a ≤ b * b
squares-rise a b h = mul-le-mul h h

-- a root that is the last, or whose next square is above the slack, is the greatest
pub root-is : (n slack r : ℕ) → r ≤ n → r * r ≤ slack → (r ≡ n) ⊎ (slack < (r + 1) * (r + 1)) → r ≡ root_below n slack
unfolding root_below
root-is zero slack r h square last = omega arith
root-is (suc n) slack r h square last = elim (cases_lt n r) [
  | inl all ↦ (
      let e : r ≡ suc n = omega arith in
      let fits : suc n * suc n ≤ slack = subst (λ (x : ℕ). x * x ≤ slack) e square in
      e ∙ sym (cond-true _ _ _ (le-leb (suc n * suc n) slack fits)))
  | inr fewer ↦ (
      let above : slack < (r + 1) * (r + 1) = elim last [ inl e ↦ absurd (omega arith) | inr over ↦ over ] in
      let far = squares-rise (r + 1) (suc n) (omega arith) in
      root-is n slack r (omega arith) square (inr above) ∙ sym (cond-false _ _ _ (lt-leb (suc n * suc n) slack (omega arith))))
]

-- beyond the root squares are above the slack
pub root-beyond : (n slack d : ℕ) → root_below n slack < d → d ≤ n → slack < d * d
unfolding root_below
root-beyond zero slack d h within = absurd (omega arith)
root-beyond (suc n) slack d h within = elim (cases_Bool (nat_le (suc n * suc n) slack)) [
  | inl fits ↦ (let e : root_below (suc n) slack ≡ suc n = cond-true _ _ _ fits in absurd (omega (arith, e, h)))
  | inr over ↦ (
      let e : root_below (suc n) slack ≡ root_below n slack = cond-false _ _ _ over in
      elim (cases_lt n d) [
        | inl last ↦ (let same : d ≡ suc n = omega arith in subst (λ (x : ℕ). slack < x * x) (sym same) (leb-false (suc n * suc n) slack over))
        | inr before ↦ root-beyond n slack d (omega (arith, e, h)) (omega arith)
      ])
]

pub reach_is : (slack root : ℕ) → root * root ≤ slack → slack < (root + 1) * (root + 1) → min root 65535 ≡ reach_of slack
unfolding reach_of
reach_is slack root square next = elim (cases_lt 65535 root) [
  | inl far ↦ (
      let e : min root 65535 ≡ 65535 = omega arith in
      let small = squares-rise 65535 root (omega arith) in
      e ∙ root-is 65535 slack 65535 (omega arith) (omega (arith, small, square)) (inl refl))
  | inr near ↦ (let e : min root 65535 ≡ root = omega arith in e ∙ root-is 65535 slack root near square (inr next))
]

pub reach-beyond : (slack d : ℕ) → reach_of slack < d → d ≤ 65535 → slack < d * d
unfolding reach_of
reach-beyond slack d h within = root-beyond 65535 slack d h within

-- the target's own symbol
pub own-small : (target : ℤ) → IsSample target → symbol_of target ≤ 65535
own-small target sample = let lo = sample.low in let hi = sample.high in omega (arith, ints)

-- a symbol costs the square of its distance from the target's own
below-distance : (symbol : ℕ) (target : ℤ) → IsSample target → symbol ≤ symbol_of target → unsigned_abs (pos 1 *ℤ (pos symbol -ℤ pos 32768) -ℤ target) ≡ symbol_of target - symbol
below-distance symbol target sample h = let lo = sample.low in omega (arith, ints)

above-distance : (symbol : ℕ) (target : ℤ) → IsSample target → symbol_of target ≤ symbol → unsigned_abs (pos 1 *ℤ (pos symbol -ℤ pos 32768) -ℤ target) ≡ symbol - symbol_of target
above-distance symbol target sample h = let lo = sample.low in omega (arith, ints)

-- so those that are further than the reach cost more than the slack
pub far-costs : (symbol : ℕ) (target : ℤ) (slack : ℕ) → IsSample target → symbol < 65536
    → (symbol < symbol_of target - reach_of slack) ⊎ (min 65535 (symbol_of target + reach_of slack) < symbol) → slack < square_of (pos 1 *ℤ (pos symbol -ℤ pos 32768) -ℤ target)
far-costs symbol target slack sample fits (inl low) =
    let own = own-small target sample in
    let e = below-distance symbol target sample (omega arith) in
    subst (λ (n : ℕ). slack < n * n) (sym e) (reach-beyond slack (symbol_of target - symbol) (omega arith) (omega arith))
far-costs symbol target slack sample fits (inr high) =
    let e = above-distance symbol target sample (omega arith) in
    subst (λ (n : ℕ). slack < n * n) (sym e) (reach-beyond slack (symbol - symbol_of target) (omega arith) (omega arith))
