-- IMA ADPCM is a stored format, whatever the size of its blocks. The proofs stand here since no definition may cite proofs/.
use Rattle.std.proofs.Common.{◌≡◌, ℕ, zero, suc, ◌+◌, ◌-◌, ◌*◌, ◌/◌, ◌%◌, ◌<◌, ◌≤◌, List, [], ◌∷◌, ◌++◌, ◌^◌, length, get_or, refl, ap, sym, ◌∙◌, arith, subst, true, false, IsTrue, inl, inr}
use Rattle.std.specs.Prelude.{◌==◌, drop, if◌then◌else◌}
use Rattle.std.proofs.lemmas.Bool.{eq-eqb, ne_eqb, cond-true, cond-false, cond_both, cases_Bool, eqb-true}
use Rattle.std.proofs.lemmas.List.{get_or-drop}
use Rattle.std.proofs.lemmas.Grind.{get_or_after_one}
use Rattle.byteorder.specs.Endian.{little_number, little_bytes}
use Rattle.adpcm_nums.specs.Nibbles.{code_pairs}
use Rattle.adpcm_nums.proofs.NibbleLaws.{length-code_pairs, get_or-code_pairs, nibbles-read, nibble-small}
use Rattle.machine_core.proofs.Places.{not-first}
use Rattle.ima_machine.specs.Ima.{ima, is_align, samples_in, symbols_at}
use Rattle.ima_machine.specs.Spelling.{spelling, word_of, head_in, first_in, code_in, symbol_in}
use Rattle.ima_machine.specs.Lawful.{align-low, lawful}
use Rattle.player_model.specs.FormatLaws.{AreBytes, FitsBlock, IsSpelled, IsStoredFormat, StandAt}
use Rattle.player_model.specs.ImaFormat.{ima_format}

-- a symbol of any bytes is one of the decoder's
word-small : (w : ℕ) → word_of w < 65536
word-small w = omega arith

pub symbol-small : (memory : List ℕ) (address place : ℕ) → AreBytes memory → symbol_in memory address place < symbols_at place
symbol-small memory address zero bytes = word-small (little_number 2 (drop address memory))
symbol-small memory address (suc p) bytes =
    let later : (suc p == 0) ≡ false = not-first (suc p) (omega arith) in
    rw later (nibble-small memory (address + 4) (suc p - 1) bytes)

-- how many codes a block has
codes-count : (align : ℕ) (symbols : List ℕ) → 8 ≤ align → length symbols ≡ samples_in align → length (drop 1 symbols) ≡ 2 * (align - 4)
codes-count align [] low count = absurd (omega (arith, count))
codes-count align (s ∷ symbols) low count = omega (arith, count)

two-bytes : (w : ℕ) → w < 65536 → little_bytes 2 w ≡ (w % 256) ∷ (w / 256) ∷ []
two-bytes w small = let high : w / 256 ^ 1 % 256 ≡ w / 256 = omega arith in ap (λ (x : ℕ). (w % 256) ∷ x ∷ []) high

-- a block's bytes one by one
abbrev plain : ℕ → ℕ → List ℕ → List ℕ
plain w head codes = (w % 256) ∷ (w / 256) ∷ head ∷ 0 ∷ code_pairs codes

spelled-plain : (head symbol : ℕ) (codes : List ℕ) → spelling head symbol codes ≡ plain (word_of symbol) head codes
spelled-plain head symbol codes = ap (λ xs. xs ++ (head ∷ 0 ∷ code_pairs codes)) (two-bytes (word_of symbol) (word-small symbol))

size-is : (align head flags : ℕ) (symbols : List ℕ) → 8 ≤ align → length symbols ≡ samples_in align → length (spelling head (get_or symbols 0 0) (drop 1 symbols)) ≡ align
size-is align head flags symbols low count =
    let codes = length-code_pairs (drop 1 symbols) (align - 4) (codes-count align symbols low count) in
    ap length (spelled-plain head (get_or symbols 0 0) (drop 1 symbols)) ∙ omega (arith, codes, low)

-- the bytes of a spelled block stand in the memory
stands : (align : ℕ) (memory : List ℕ) (address head flags : ℕ) (symbols : List ℕ) → IsSpelled (ima (samples_in align)) (ima_format align) memory address head flags symbols
    → (j : ℕ) → j < 4 + length (code_pairs (drop 1 symbols)) → get_or memory (address + j) 0 ≡ get_or (plain (word_of (get_or symbols 0 0)) head (drop 1 symbols)) j 0
stands align memory address head flags symbols s j h =
    let e = spelled-plain head (get_or symbols 0 0) (drop 1 symbols) in
    let long = ap length e in
    s.stands j (omega (arith, long, h)) ∙ ap (λ (xs : List ℕ). get_or xs j 0) e

word-is : (a b w : ℕ) → a ≡ w % 256 → b ≡ w / 256 → a + 256 * (b + 256 * 0) ≡ w
word-is a b w e f = omega (arith, e, f)

word-back : (symbol : ℕ) → symbol < 65536 → word_of (word_of symbol) ≡ symbol
word-back symbol h = omega arith

-- the first symbol, and the code at a later place
first-kept : (memory : List ℕ) (address symbol : ℕ) → symbol < 65536 → get_or memory (address + 0) 0 ≡ word_of symbol % 256 → get_or memory (address + 1) 0 ≡ word_of symbol / 256
    → first_in memory address ≡ symbol
first-kept memory address symbol small low high =
    ap word_of (word-is (get_or (drop address memory) 0 0) (get_or (drop address memory) 1 0) (word_of symbol) (get_or-drop address memory 0 0 ∙ low) (get_or-drop address memory 1 0 ∙ high))
    ∙ word-back symbol small

code-small : (align : ℕ) (symbols : List ℕ) {head : ℕ} → FitsBlock (ima (samples_in align)) head symbols → (i : ℕ) → suc i < samples_in align → get_or symbols (suc i) 0 < 16
code-small align symbols fits i h = subst (λ b. get_or symbols (suc i) 0 < (if b then 65536 else 16)) (not-first (suc i) (omega arith)) (fits.symbols_fit (suc i) h)

later-kept : (align : ℕ) (memory : List ℕ) (address head flags : ℕ) (symbols : List ℕ) → 8 ≤ align → IsSpelled (ima (samples_in align)) (ima_format align) memory address head flags symbols
    → (p : ℕ) → suc p < samples_in align → code_in memory address p ≡ get_or symbols (suc p) 0
later-kept align memory address head flags symbols low s p h =
    let codes = drop 1 symbols in
    let count = codes-count align symbols low s.fits.count in
    let pairs = length-code_pairs codes (align - 4) count in
    let moved : (i : ℕ) → get_or codes i 0 ≡ get_or symbols (suc i) 0 = λ i. get_or_after_one symbols i 0 ∙ ap (λ (k : ℕ). get_or symbols k 0) (omega arith) in
    nibbles-read (align - 4) memory codes (address + 4) p
    (λ q below.
    let here : address + 4 + q ≡ address + suc (suc (suc (suc q))) = omega arith in
    ap (λ (i : ℕ). get_or memory i 0) here ∙ stands align memory address head flags symbols s (suc (suc (suc (suc q)))) (omega (arith, pairs))
    ∙ get_or-code_pairs codes q (omega (arith, count)))
    (λ i within. subst (λ (c : ℕ). c < 16) (sym (moved i)) (code-small align symbols s.fits i (omega (arith, low))))
    (omega arith)
    ∙ moved p

symbols-kept : (align : ℕ) (memory : List ℕ) (address head flags : ℕ) (symbols : List ℕ) → 8 ≤ align → IsSpelled (ima (samples_in align)) (ima_format align) memory address head flags symbols
    → (p : ℕ) → p < samples_in align → symbol_in memory address p ≡ get_or symbols p 0
symbols-kept align memory address head flags symbols low s zero h =
    first-kept memory address (get_or symbols 0 0) (s.fits.symbols_fit 0 h) (stands align memory address head flags symbols s 0 (omega arith)) (stands align memory address head flags symbols s 1 (omega arith))
symbols-kept align memory address head flags symbols low s (suc p) h =
    let later : (suc p == 0) ≡ false = not-first (suc p) (omega arith) in
    let before : suc p - 1 ≡ p = omega arith in
    rw later (ap (code_in memory address) before ∙ later-kept align memory address head flags symbols low s p h)

-- all that a stored format keeps
pub ima_stored : (align : ℕ) → IsTrue (is_align align) → IsStoredFormat (ima (samples_in align)) (ima_format align)
ima_stored align fits =
    let laws = lawful align fits in
    let low = align-low align fits in
    record {
      some_bytes = omega (arith, low);
      forgets = laws.forgets;
      start_fits = laws.start_fits;
      steps = laws.steps;
      symbols_fit = λ memory address p bytes h. symbol-small memory address p bytes;
      length_is = λ head flags symbols fits. size-is align head flags symbols low fits.count;
      head_kept = λ memory address head flags symbols s. stands align memory address head flags symbols s 2 (omega arith);
      flags_kept = λ memory address head flags symbols s. omega (arith, s.flags_fit);
      symbols_kept = λ memory address head flags symbols s p h. symbols-kept align memory address head flags symbols low s p h;
    }
