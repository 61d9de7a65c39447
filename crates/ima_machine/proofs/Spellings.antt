-- Bytes that spell a block, one by one.
use Rattle.std.proofs.Common.{◌≡◌, ℕ, suc, ◌+◌, ◌*◌, ◌/◌, ◌%◌, ◌<◌, List, [], ◌∷◌, length, get_or, sym, ap, ◌∙◌, ◌++◌, ◌^◌, arith}
use Rattle.adpcm_nums.proofs.NibbleLaws.{pairs_from_each}
use Rattle.adpcm_nums.specs.Nibbles.{code_pairs}
use Rattle.byteorder.specs.Endian.{little_bytes}
use Rattle.ima_machine.specs.Spelling.{word_of, spelling}

-- a byte behind the first four is one of the bytes of the codes
behind : (a b c d : ℕ) (bs : List ℕ) (k : ℕ) → get_or (a ∷ b ∷ c ∷ d ∷ bs) (4 + k) 0 ≡ get_or bs k 0
behind a b c d bs k = let next : 4 + k ≡ suc (suc (suc (suc k))) = omega arith in ap (λ (i : ℕ). get_or (a ∷ b ∷ c ∷ d ∷ bs) i 0) next

-- the two bytes of a number of 16 bits
two-bytes : (w : ℕ) → w < 65536 → little_bytes 2 w ≡ (w % 256) ∷ (w / 256) ∷ []
two-bytes w small = let high : w / 256 ^ 1 % 256 ≡ w / 256 = omega arith in ap (λ (x : ℕ). (w % 256) ∷ x ∷ []) high

pub spelling_from_each : (n head symbol : ℕ) (codes bytes : List ℕ) → length codes ≡ 2 * n → length bytes ≡ n + 4
    → get_or bytes 0 0 ≡ word_of symbol % 256 → get_or bytes 1 0 ≡ word_of symbol / 256 → get_or bytes 2 0 ≡ head → get_or bytes 3 0 ≡ 0
    → ((k : ℕ) → k < n → get_or bytes (4 + k) 0 ≡ get_or codes (2 * k) 0 + 16 * get_or codes (2 * k + 1) 0) → bytes ≡ spelling head symbol codes
spelling_from_each n head symbol codes [] m size b0 b1 b2 b3 each = absurd (omega (arith, size))
spelling_from_each n head symbol codes (a ∷ []) m size b0 b1 b2 b3 each = absurd (omega (arith, size))
spelling_from_each n head symbol codes (a ∷ b ∷ []) m size b0 b1 b2 b3 each = absurd (omega (arith, size))
spelling_from_each n head symbol codes (a ∷ b ∷ c ∷ []) m size b0 b1 b2 b3 each = absurd (omega (arith, size))
spelling_from_each n head symbol codes (a ∷ b ∷ c ∷ d ∷ bs) m size b0 b1 b2 b3 each =
    let rest = pairs_from_each n codes bs m (omega (arith, size)) (λ k h. sym (behind a b c d bs k) ∙ each k h) in
    let word : word_of symbol < 65536 = omega arith in
    ap (λ x. x ∷ b ∷ c ∷ d ∷ bs) b0
    ∙ ap (λ x. (word_of symbol % 256) ∷ x ∷ c ∷ d ∷ bs) b1
    ∙ ap (λ x. (word_of symbol % 256) ∷ (word_of symbol / 256) ∷ x ∷ d ∷ bs) b2
    ∙ ap (λ x. (word_of symbol % 256) ∷ (word_of symbol / 256) ∷ head ∷ x ∷ bs) b3
    ∙ ap (λ xs. (word_of symbol % 256) ∷ (word_of symbol / 256) ∷ head ∷ 0 ∷ xs) rest
    ∙ ap (λ xs. xs ++ (head ∷ 0 ∷ code_pairs codes)) (sym (two-bytes (word_of symbol) word))
