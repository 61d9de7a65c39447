-- What is spelled is read, and what is read is spelled.
use Rattle.std.proofs.Common.{◌≡◌, ℕ, suc, ◌+◌, ◌*◌, ◌/◌, ◌%◌, ◌<◌, List, ◌++◌, ◌∷◌, drop, length, get_or, sym, ap, ◌∙◌, arith, refl, inl, inr}
use Rattle.std.specs.Prelude.{All, None, ◌==◌, nat_lt}
use Rattle.std.proofs.lemmas.Bool.{le-ltb, cond-true, cond-false, cases_Bool, eqb-true}
use Rattle.std.proofs.lemmas.Option.{none-some}
use Rattle.adpcm_nums.specs.Nibbles.{code_pairs}
use Rattle.adpcm_nums.proofs.NibbleLaws.{get_or-code_pairs, nibbles-read, pair-read}
use Rattle.byteorder.specs.Numbers.{little_number-reads_back}
use Rattle.ima_machine.specs.declared.fault.ImaFault.TheVariants.{BadIndex, BadReserved}
use Rattle.ima_machine.specs.Spelling.{spelling, word_of, head_in, first_in, code_in}
use Rattle.ima_machine.specs.Faults.{fault_in}
use Rattle.ima_machine.proofs.Spellings.{spelling_from_each}

-- the first symbol of a spelled block
word-back : (symbol : ℕ) → symbol < 65536 → word_of (word_of symbol) ≡ symbol
word-back symbol h = omega arith

pub first-reads : (head symbol : ℕ) (codes : List ℕ) → symbol < 65536 → first_in (spelling head symbol codes) 0 ≡ symbol
first-reads head symbol codes h = ap word_of (little_number-reads_back 2 (word_of symbol) (head ∷ 0 ∷ code_pairs codes) (omega arith)) ∙ word-back symbol h

-- its codes
pub code-reads : (head symbol : ℕ) (codes : List ℕ) (n k : ℕ) → length codes ≡ 2 * n → All (λ c. c < 16) codes → k < 2 * n → code_in (spelling head symbol codes) 0 k ≡ get_or codes k 0
code-reads head symbol codes n k len small h =
    nibbles-read n (spelling head symbol codes) codes 4 k
    (λ q below. let place : 4 + q ≡ suc (suc (suc (suc q))) = omega arith in ap (λ (i : ℕ). get_or (spelling head symbol codes) i 0) place ∙ get_or-code_pairs codes q (omega (arith, len)))
    (λ i within. small i 0 (omega (arith, len))) h

-- and that it has no fault
pub sound-reads : (head symbol : ℕ) (codes : List ℕ) → head < 89 → fault_in (spelling head symbol codes) 0 ≡ None
sound-reads head symbol codes h = cond-false _ _ _ (le-ltb 88 head (omega arith))

-- bytes with no fault have a byte 0 after the index
pub reserved-none : (memory : List ℕ) (address : ℕ) → fault_in memory address ≡ None → get_or memory (address + 3) 0 ≡ 0
reserved-none memory address none =
    let index = get_or memory (address + 2) 0 in
    let value = get_or memory (address + 3) 0 in
    elim (cases_Bool (nat_lt 88 index)) [
      | inl large ↦ absurd (none-some (BadIndex index) (sym none ∙ cond-true _ _ _ large))
      | inr small ↦ elim (cases_Bool (value == 0)) [
        | inl zero' ↦ eqb-true _ _ zero'
        | inr other ↦ absurd (none-some (BadReserved value) (sym none ∙ cond-false _ _ _ small ∙ cond-false _ _ _ other))
      ]
    ]

low-word : (a b w : ℕ) → w ≡ a + 256 * b → a < 256 → b < 256 → a ≡ word_of (word_of w) % 256
low-word a b w e h k = omega arith

high-word : (a b w : ℕ) → w ≡ a + 256 * b → a < 256 → b < 256 → b ≡ word_of (word_of w) / 256
high-word a b w e h k = omega arith

-- codes that are read from bytes without a fault spell them
pub reads-spell : (bytes codes : List ℕ) (n : ℕ) → length bytes ≡ n + 4 → ((i : ℕ) → get_or bytes i 0 < 256) → fault_in bytes 0 ≡ None → length codes ≡ 2 * n
    → ((k : ℕ) → k < 2 * n → get_or codes k 0 ≡ code_in bytes 0 k) → bytes ≡ spelling (head_in bytes 0) (first_in bytes 0) codes
reads-spell bytes codes n size small none len each =
    let a = get_or bytes 0 0 in
    let b = get_or bytes 1 0 in
    spelling_from_each n (head_in bytes 0) (first_in bytes 0) codes bytes len size
    (low-word a b (a + 256 * (b + 256 * 0)) (omega arith) (small 0) (small 1)) (high-word a b (a + 256 * (b + 256 * 0)) (omega arith) (small 0) (small 1)) refl (reserved-none bytes 0 none)
    (λ k below. pair-read bytes codes 4 k (each (2 * k) (omega arith)) (each (2 * k + 1) (omega arith)))
