-- The least number of rounds that take whole blocks.
use Rattle.std.proofs.Common.{◌≡◌, ℕ, zero, suc, ◌-◌, ◌*◌, ◌%◌, ◌<◌, ◌≤◌, ◌≢◌, Bool, true, false, Option, Some, None, refl, sym, ap, ◌∙◌, arith, eq-eqb, nat_eq, inl, inr}
use Rattle.std.proofs.lemmas.Bool.{cases_lt, eqb-true, false≢true}
use Rattle.std.proofs.lemmas.Bool.Decides.{nat_tests}
use Rattle.std.proofs.Math.Nat.{mul-mod_right}
use Rattle.std.specs.Prelude.{unwrap_or}
use Rattle.adpcm_nums.specs.First.{first_where}
use Rattle.adpcm_nums.proofs.FirstLaws.{none_passes, first_where-is, is_found}
use Rattle.loop_fit.specs.Align.{unroll_of}

passes_at : (passes : ℕ → Bool) (n k : ℕ) (o : Option ℕ) → first_where passes n ≡ o → k < n → passes k ≡ true → passes (unwrap_or o 0) ≡ true
passes_at passes n k None none lt here = absurd (false≢true (sym (none_passes passes n k none lt) ∙ here))
passes_at passes n k (Some j) found lt here = (first_where-is passes n j found).here

-- where some number passes, the first one does
first_passes : (passes : ℕ → Bool) (n k : ℕ) → k < n → passes k ≡ true → passes (unwrap_or (first_where passes n) 0) ≡ true
first_passes passes n k lt here = passes_at passes n k (first_where passes n) refl lt here

fails_before : (passes : ℕ → Bool) (n j : ℕ) (o : Option ℕ) → first_where passes n ≡ o → j < unwrap_or o 0 → passes j ≡ false
fails_before passes n j None none lt = absurd (omega arith)
fails_before passes n j (Some k) found lt = (first_where-is passes n k found).before j lt

-- and none below it does
first_fails : (passes : ℕ → Bool) (n j : ℕ) → j < unwrap_or (first_where passes n) 0 → passes j ≡ false
first_fails passes n j lt = fails_before passes n j (first_where passes n) refl lt

not_whole : (n : ℕ) → n ≢ 0 → nat_eq n 0 ≡ false
not_whole n h = grind (arith, nat_tests)

-- so many rounds take whole blocks, and no fewer do
pub is_unroll_of : (block len rounds : ℕ) → 1 ≤ rounds → rounds ≤ block → (rounds * len) % block ≡ 0
    → ((j : ℕ) → 1 ≤ j → j < rounds → (j * len) % block ≢ 0) → rounds ≡ unroll_of block len
unfolding unroll_of
is_unroll_of block len zero some most whole fewer = absurd (omega arith)
is_unroll_of block len (suc k) some most whole fewer =
    let found : first_where (λ j. nat_eq ((suc j * len) % block) 0) block ≡ Some k =
    is_found (λ j. nat_eq ((suc j * len) % block) 0) block k (record {
      within = omega arith;
      here = eq-eqb _ _ whole;
      before = λ j l. not_whole _ (fewer (suc j) (omega arith) (omega arith));
    }) in
    sym (ap (λ o. suc (unwrap_or o 0)) found)

-- as many rounds as a block has samples do
pub whole_rounds : (block len : ℕ) → (block * len) % block ≡ 0
whole_rounds block len = mul-mod_right block len

-- what is repeated takes whole blocks
pub unroll_of-whole : (block len : ℕ) → 0 < block → (unroll_of block len * len) % block ≡ 0
unfolding unroll_of
unroll_of-whole block len some =
    let last : suc (block - 1) ≡ block = omega arith in
    let whole : (suc (block - 1) * len) % block ≡ 0 = ap (λ n. (n * len) % block) last ∙ whole_rounds block len in
    eqb-true _ _ (first_passes (λ j. nat_eq ((suc j * len) % block) 0) block (block - 1) (omega arith) (eq-eqb _ _ whole))

-- there is at least one round
pub unroll_of-some : (block len : ℕ) → 1 ≤ unroll_of block len
unfolding unroll_of
unroll_of-some block len = omega arith

-- no fewer rounds do
pub unroll_of-least : (block len j : ℕ) → 1 ≤ j → (j * len) % block ≡ 0 → unroll_of block len ≤ j
unfolding unroll_of
unroll_of-least block len zero some whole = absurd (omega arith)
unroll_of-least block len (suc j) some whole =
    let passes : ℕ → Bool = λ k. nat_eq ((suc k * len) % block) 0 in
    elim (cases_lt j (unwrap_or (first_where passes block) 0)) [
      | inl below ↦ absurd (false≢true (sym (first_fails passes block j below) ∙ eq-eqb _ _ whole))
      | inr above ↦ omega (arith, above)
    ]
