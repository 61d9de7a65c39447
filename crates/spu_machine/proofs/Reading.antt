-- Reading a block and spelling it.
use Rattle.std.proofs.Common.{◌≡◌, ℕ, ◌+◌, ◌*◌, ◌<◌, List, drop, length, get_or, sym, ap, ◌∙◌, arith, refl}
use Rattle.std.specs.Prelude.{All}
use Rattle.std.proofs.lemmas.List.{ext_get_or, get_or-drop, length-drop}
use Rattle.std.proofs.Math.Nat.{mod-eq_of_lt}
use Rattle.adpcm_nums.specs.Nibbles.{code_pairs}
use Rattle.adpcm_nums.proofs.NibbleLaws.{get_or-code_pairs, pairs_from_each, pair-read, nibbles-read}
use Rattle.spu_machine.specs.Spelling.{IsSpelled, spelling, code_in}

-- the codes that were read are those that the bytes spell
pub codes_spell : (bytes codes : List ℕ) → length codes ≡ 28 → length bytes ≡ 16 → ((k : ℕ) → k < 28 → get_or codes k 0 ≡ code_in bytes 0 k) → drop 2 bytes ≡ code_pairs codes
codes_spell bytes codes m n each =
    pairs_from_each 14 codes (drop 2 bytes) (omega (arith, m)) (omega (arith, n, length-drop 2 bytes))
    (λ k small. get_or-drop 2 bytes k 0 ∙ pair-read bytes codes 2 k (each (2 * k) (omega arith)) (each (2 * k + 1) (omega arith)))

-- bytes hold the codes that they spell
pub code_in-spelled : (bytes codes : List ℕ) (k : ℕ) → drop 2 bytes ≡ code_pairs codes → length codes ≡ 28 → All (λ c. c < 16) codes → k < 28 → code_in bytes 0 k ≡ get_or codes k 0
code_in-spelled bytes codes k same len range h =
    nibbles-read 14 bytes codes 2 k
    (λ q below. sym (get_or-drop 2 bytes q 0) ∙ ap (λ (bs : List ℕ). get_or bs q 0) same ∙ get_or-code_pairs codes q (omega (arith, len)))
    (λ i within. range i 0 (omega (arith, within, len))) (omega (arith, h))

-- so no others are read
pub codes_only : (bytes codes other : List ℕ) → length codes ≡ 28 → ((k : ℕ) → k < 28 → get_or codes k 0 ≡ code_in bytes 0 k)
    → length other ≡ 28 → All (λ c. c < 16) other → drop 2 bytes ≡ code_pairs other → codes ≡ other
codes_only bytes codes other m each n range same =
    ext_get_or 0 codes other (omega (arith, m, n))
    (λ k below. let fits : k < 28 = omega (arith, below, m) in each k fits ∙ code_in-spelled bytes other k same n range fits)

-- a block that was spelled has its fields
pub spelled_again : (head flags : ℕ) (codes : List ℕ) → head < 80 → flags < 8 → IsSpelled head flags codes (spelling head flags codes)
spelled_again head flags codes h f = record { head_is = mod-eq_of_lt (omega arith); flags_is = mod-eq_of_lt f; codes_are = refl }
