-- Codes, two in a byte, and how they are read again.
use Rattle.std.proofs.Common.{◌≡◌, ℕ, zero, suc, ◌+◌, ◌*◌, ◌/◌, ◌%◌, ◌<◌, ◌⊎◌, inl, inr, List, [], ◌∷◌, length, get_or, refl, sym, ap, subst, ◌∙◌, arith, true, false, nat_eq}
use Rattle.std.proofs.lemmas.Bool.{eq-eqb, ne_eqb, cases_Bool}
use Rattle.std.proofs.lemmas.List.{ext_get_or}
use Rattle.adpcm_nums.specs.Nibbles.{code_pairs, nibble_in}

-- half as many bytes as codes
pub length-code_pairs : (cs : List ℕ) (n : ℕ) → length cs ≡ 2 * n → length (code_pairs cs) ≡ n
length-code_pairs [] n e = omega (arith, e)
length-code_pairs (c ∷ []) n e = absurd (omega (arith, e))
length-code_pairs (c ∷ d ∷ cs) zero e = absurd (omega (arith, e))
length-code_pairs (c ∷ d ∷ cs) (suc n) e = ap suc (length-code_pairs cs n (omega (arith, e)))

-- byte k holds codes 2k and 2k + 1
pub get_or-code_pairs : (cs : List ℕ) (k : ℕ) → 2 * k + 1 < length cs → get_or (code_pairs cs) k 0 ≡ get_or cs (2 * k) 0 + 16 * get_or cs (2 * k + 1) 0
get_or-code_pairs [] k h = absurd (omega (arith, h))
get_or-code_pairs (c ∷ []) k h = absurd (omega (arith, h))
get_or-code_pairs (c ∷ d ∷ cs) zero h = refl
get_or-code_pairs (c ∷ d ∷ cs) (suc k) h =
    let first : suc (suc (2 * k)) ≡ 2 * suc k = omega arith in
    let second : suc (suc (2 * k + 1)) ≡ 2 * suc k + 1 = omega arith in
    let P : ℕ → ℕ → Type 0 = λ i j. get_or (code_pairs cs) k 0 ≡ get_or (c ∷ d ∷ cs) i 0 + 16 * get_or (c ∷ d ∷ cs) j 0 in
    subst (λ (j : ℕ). P (2 * suc k) j) second (subst (λ (i : ℕ). P i (suc (suc (2 * k + 1)))) first (get_or-code_pairs cs k (omega (arith, h))))

-- bytes that are right one by one
pub pairs_from_each : (n : ℕ) (codes bytes : List ℕ) → length codes ≡ 2 * n → length bytes ≡ n
    → ((k : ℕ) → k < n → get_or bytes k 0 ≡ get_or codes (2 * k) 0 + 16 * get_or codes (2 * k + 1) 0) → bytes ≡ code_pairs codes
pairs_from_each n codes bytes m len each =
    ext_get_or 0 bytes (code_pairs codes) (omega (arith, len, length-code_pairs codes n m))
    (λ k h. let small : k < n = omega (arith, h, len) in each k small ∙ sym (get_or-code_pairs codes k (omega (arith, m))))

-- the code at an even place is in the low half of its byte
nibble-even : (memory : List ℕ) (begin k : ℕ) → nibble_in memory begin (2 * k) ≡ get_or memory (begin + k) 0 % 16
nibble-even memory begin k =
    let even : nat_eq ((2 * k) % 2) 0 ≡ true = eq-eqb _ _ (omega arith) in
    let half : (2 * k) / 2 ≡ k = omega arith in
    rw even (ap (λ (q : ℕ). get_or memory (begin + q) 0 % 16) half)

-- the code at an odd place is in the high half
nibble-odd : (memory : List ℕ) (begin k : ℕ) → nibble_in memory begin (2 * k + 1) ≡ get_or memory (begin + k) 0 / 16
nibble-odd memory begin k =
    let odd : nat_eq ((2 * k + 1) % 2) 0 ≡ false = ne_eqb _ _ (omega arith) in
    let half : (2 * k + 1) / 2 ≡ k = omega arith in
    rw odd (ap (λ (q : ℕ). get_or memory (begin + q) 0 / 16) half)

-- a byte is its two halves
two-halves : (byte low high : ℕ) → low ≡ byte % 16 → high ≡ byte / 16 → byte ≡ low + 16 * high
two-halves byte low high l h = omega arith

-- a byte holds the two codes that are read from it
pub pair-read : (memory codes : List ℕ) (begin k : ℕ) → get_or codes (2 * k) 0 ≡ nibble_in memory begin (2 * k) → get_or codes (2 * k + 1) 0 ≡ nibble_in memory begin (2 * k + 1)
    → get_or memory (begin + k) 0 ≡ get_or codes (2 * k) 0 + 16 * get_or codes (2 * k + 1) 0
pair-read memory codes begin k low high =
    two-halves (get_or memory (begin + k) 0) (get_or codes (2 * k) 0) (get_or codes (2 * k + 1) 0) (low ∙ nibble-even memory begin k) (high ∙ nibble-odd memory begin k)

-- a place is even or odd
even-or-odd : (k : ℕ) → (k ≡ 2 * (k / 2)) ⊎ (k ≡ 2 * (k / 2) + 1)
even-or-odd k = grind arith

-- the lower half of a byte of two codes
low-half : (byte low high : ℕ) → byte ≡ low + 16 * high → low < 16 → byte % 16 ≡ low
low-half byte low high e h = omega (arith, e)

-- its higher half
high-half : (byte low high : ℕ) → byte ≡ low + 16 * high → low < 16 → byte / 16 ≡ high
high-half byte low high e h = omega (arith, e)

-- bytes that hold n pairs of codes hold each code
pub nibbles-read : (n : ℕ) (memory codes : List ℕ) (begin k : ℕ) → ((q : ℕ) → q < n → get_or memory (begin + q) 0 ≡ get_or codes (2 * q) 0 + 16 * get_or codes (2 * q + 1) 0)
    → ((i : ℕ) → i < 2 * n → get_or codes i 0 < 16) → k < 2 * n → nibble_in memory begin k ≡ get_or codes k 0
nibbles-read n memory codes begin k pairs small h =
    let pair = pairs (k / 2) (omega arith) in
    let low = small (2 * (k / 2)) (omega arith) in
    elim (even-or-odd k) [
      | inl even ↦ ap (nibble_in memory begin) even ∙ nibble-even memory begin (k / 2) ∙ low-half _ _ _ pair low ∙ ap (λ (i : ℕ). get_or codes i 0) (sym even)
      | inr odd ↦ ap (nibble_in memory begin) odd ∙ nibble-odd memory begin (k / 2) ∙ high-half _ _ _ pair low ∙ ap (λ (i : ℕ). get_or codes i 0) (sym odd)
    ]

-- the lower half of a byte has four bits
lower-small : (byte : ℕ) → byte % 16 < 16
lower-small byte = omega arith

-- and so has the higher one
higher-small : (byte : ℕ) → byte < 256 → byte / 16 < 16
higher-small byte h = omega arith

-- a code of bytes has four bits
pub nibble-small : (memory : List ℕ) (begin k : ℕ) → ((i : ℕ) → get_or memory i 0 < 256) → nibble_in memory begin k < 16
nibble-small memory begin k bytes =
    elim (cases_Bool (nat_eq (k % 2) 0)) [
      | inl even ↦ rw even (lower-small (get_or memory (begin + k / 2) 0))
      | inr odd ↦ rw odd (higher-small (get_or memory (begin + k / 2) 0) (bytes (begin + k / 2)))
    ]
