-- Sixteen bytes that spell a block.
use Rattle.std.proofs.Common.{◌≡◌, ℕ, suc, ◌+◌, ◌*◌, ◌<◌, List, [], ◌∷◌, length, get_or, sym, ap, ◌∙◌, arith}
use Rattle.adpcm_nums.proofs.NibbleLaws.{pairs_from_each}
use Rattle.spu_machine.specs.Spelling.{spelling}

-- a byte behind the header is one of the bytes of the codes
behind : (a b : ℕ) (bs : List ℕ) (k : ℕ) → get_or (a ∷ b ∷ bs) (k + 2) 0 ≡ get_or bs k 0
behind a b bs k = let next : k + 2 ≡ suc (suc k) = omega arith in ap (λ (i : ℕ). get_or (a ∷ b ∷ bs) i 0) next

-- bytes that are right one by one
pub spelling_from_each : (head flags : ℕ) (codes bytes : List ℕ) → length codes ≡ 28 → length bytes ≡ 16 → get_or bytes 0 0 ≡ head → get_or bytes 1 0 ≡ flags
    → ((k : ℕ) → k < 14 → get_or bytes (k + 2) 0 ≡ get_or codes (2 * k) 0 + 16 * get_or codes (2 * k + 1) 0) → bytes ≡ spelling head flags codes
spelling_from_each head flags codes [] m n first second each = absurd (omega (arith, n))
spelling_from_each head flags codes (a ∷ []) m n first second each = absurd (omega (arith, n))
spelling_from_each head flags codes (a ∷ b ∷ bs) m n first second each =
    let rest = pairs_from_each 14 codes bs (omega (arith, m)) (omega (arith, n)) (λ k h. sym (behind a b bs k) ∙ each k h) in
    ap (λ x. x ∷ b ∷ bs) first ∙ ap (λ x. head ∷ x ∷ bs) second ∙ ap (λ xs. head ∷ flags ∷ xs) rest
