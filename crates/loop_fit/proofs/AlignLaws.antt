-- How a loop's start and its rounds meet the blocks.
use Rattle.std.proofs.Common.{◌≡◌, ℕ, ◌+◌, ◌-◌, ◌*◌, ◌/◌, ◌%◌, ◌<◌, ap, ◌∙◌, arith, inl, inr}
use Rattle.std.specs.Int.{next_multiple_of}
use Rattle.std.proofs.lemmas.Bool.{cases_eq}
use Rattle.std.proofs.lemmas.Nat.{div-add-mod', mod_below}
use Rattle.std.proofs.Math.Nat.{mod-eq_of_lt, mod_self, mul-mod_left}

-- the next multiple is one
pub next_multiple-whole : (p block : ℕ) → 0 < block → next_multiple_of p block % block ≡ 0
next_multiple-whole p block some =
    elim (cases_eq (p % block) 0) [
      | inl no_rest ↦ (let all : block - 0 ≡ block = omega arith in
          let gap : (block - p % block) % block ≡ 0 = ap (λ r. (block - r) % block) no_rest ∙ (ap (λ n. n % block) all ∙ mod_self block) in
          let same : next_multiple_of p block ≡ p = omega (arith, gap) in
          ap (λ n. n % block) same ∙ no_rest)
      | inr rest ↦ (let below : p % block < block = mod_below p block some in
          let gap : (block - p % block) % block ≡ block - p % block = mod-eq_of_lt (omega arith) in
          let same : next_multiple_of p block ≡ (p / block + 1) * block = omega (arith, gap, div-add-mod' p block) in
          ap (λ n. n % block) same ∙ mul-mod_left (p / block + 1) block)
    ]

-- whole blocks one after the other are whole blocks
pub sum-whole : (a b block : ℕ) → a % block ≡ 0 → b % block ≡ 0 → (a + b) / block * block ≡ a + b
sum-whole a b block p q =
    let sum : a + b ≡ (a / block + b / block) * block = omega (arith, div-add-mod' a block, div-add-mod' b block, p, q) in
    let whole : (a + b) % block ≡ 0 = ap (λ n. n % block) sum ∙ mul-mod_left (a / block + b / block) block in
    omega (arith, div-add-mod' (a + b) block, whole)
