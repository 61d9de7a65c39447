use Rattle.std.proofs.Common.{◌≡◌, ℕ, zero, suc, ◌+◌, ◌*◌, ◌<◌, List, [], ◌∷◌, length, get_or, refl, sym, ap, subst, ◌∙◌, arith}
use Rattle.std.proofs.lemmas.List.{ext_get_or}
use Rattle.brr_machine.specs.Spelling.{code_pairs, spelling}

pub length-code_pairs : (cs : List ℕ) (n : ℕ) → length cs ≡ 2 * n → length (code_pairs cs) ≡ n
length-code_pairs [] n e = omega (arith, e)
length-code_pairs (c ∷ []) n e = absurd (omega (arith, e))
length-code_pairs (c ∷ d ∷ cs) zero e = absurd (omega (arith, e))
length-code_pairs (c ∷ d ∷ cs) (suc n) e = ap suc (length-code_pairs cs n (omega (arith, e)))

pub get_or-code_pairs : (cs : List ℕ) (k : ℕ) → 2 * k + 1 < length cs → get_or (code_pairs cs) k 0 ≡ 16 * get_or cs (2 * k) 0 + get_or cs (2 * k + 1) 0
get_or-code_pairs [] k h = absurd (omega (arith, h))
get_or-code_pairs (c ∷ []) k h = absurd (omega (arith, h))
get_or-code_pairs (c ∷ d ∷ cs) zero h = refl
get_or-code_pairs (c ∷ d ∷ cs) (suc k) h =
    let first : suc (suc (2 * k)) ≡ 2 * suc k = omega arith in
    let second : suc (suc (2 * k + 1)) ≡ 2 * suc k + 1 = omega arith in
    let P : ℕ → ℕ → Type 0 = λ i j. get_or (code_pairs cs) k 0 ≡ 16 * get_or (c ∷ d ∷ cs) i 0 + get_or (c ∷ d ∷ cs) j 0 in
    subst (λ (j : ℕ). P (2 * suc k) j) second (subst (λ (i : ℕ). P i (suc (suc (2 * k + 1)))) first (get_or-code_pairs cs k (omega (arith, h))))

-- nine bytes that are right one by one
pub spelling_from_each : (head flags : ℕ) (codes bytes : List ℕ) → length codes ≡ 16 → length bytes ≡ 9 → get_or bytes 0 0 ≡ 4 * head + flags → ((k : ℕ) → k < 8 → get_or bytes (k + 1) 0 ≡ 16 * get_or codes (2 * k) 0 + get_or codes (2 * k + 1) 0) → bytes ≡ spelling head flags codes
spelling_from_each head flags codes [] m n first each = absurd (omega (arith, n))
spelling_from_each head flags codes (b ∷ bs) m n first each =
    let len : length bs ≡ 8 = omega (arith, n) in
    let rest : bs ≡ code_pairs codes = ext_get_or 0 bs (code_pairs codes) (omega (arith, length-code_pairs codes 8 m))
    (λ k h. let small : k < 8 = omega (arith, h) in let e : suc k ≡ k + 1 = omega arith in
    ap (λ i. get_or (b ∷ bs) i 0) e ∙ each k small ∙ sym (get_or-code_pairs codes k (omega (arith, m)))) in
    ap (λ x. x ∷ bs) first ∙ ap (λ xs. (4 * head + flags) ∷ xs) rest
