-- BRR is a stored format. The proofs stand here since no definition may cite proofs/.
use Rattle.std.proofs.Common.{◌≡◌, ℕ, suc, ◌+◌, ◌*◌, ◌/◌, ◌%◌, ◌<◌, nat_eq, List, get_or, refl, ap, ◌∙◌, inl, inr, arith}
use Rattle.std.proofs.lemmas.Bool.{cases_Bool}
use Rattle.brr_machine.specs.Brr.{brr}
use Rattle.brr_machine.specs.Spelling.{code_in}
use Rattle.brr_machine.specs.Laws.Forgetting.{brr-forgets}
use Rattle.brr_machine.specs.Laws.Ranges.{step-fits}
use Rattle.brr_machine.proofs.Pairs.{length-code_pairs, get_or-code_pairs}
use Rattle.brr_machine.proofs.Reading.{code-halves}
use Rattle.player_model.specs.FormatLaws.{AreBytes, IsSpelled, IsStoredFormat}
use Rattle.player_model.specs.BrrFormat.{brr_format}

high-small : (byte : ℕ) → byte < 256 → byte / 16 < 16
high-small byte h = omega arith

low-small : (byte : ℕ) → byte % 16 < 16
low-small byte = omega arith

-- a code has four bits
code-small : (memory : List ℕ) (address p : ℕ) → AreBytes memory → p < 16 → code_in memory address p < 16
code-small memory address p bytes h = elim (cases_Bool (nat_eq (p % 2) 0)) [
  | inl even ↦ rw even (high-small (get_or memory (address + 1 + p / 2) 0) (bytes (address + 1 + p / 2)))
  | inr odd ↦ rw odd (low-small (get_or memory (address + 1 + p / 2) 0))
]

head-of : (byte head flags : ℕ) → byte ≡ 4 * head + flags → flags < 4 → byte / 4 ≡ head
head-of byte head flags e h = omega (arith, e)

flags-of : (byte head flags : ℕ) → byte ≡ 4 * head + flags → flags < 4 → byte % 4 ≡ flags
flags-of byte head flags e h = omega (arith, e)

-- the header of a spelled block
header : (memory : List ℕ) (address head flags : ℕ) (codes : List ℕ) → IsSpelled brr brr_format memory address head flags codes
    → get_or memory address 0 ≡ 4 * head + flags
header memory address head flags codes s =
    let here : address ≡ address + 0 = omega arith in
    ap (λ (i : ℕ). get_or memory i 0) here ∙ s.stands 0 (omega arith)

-- byte q of its codes
pair : (memory : List ℕ) (address head flags : ℕ) (codes : List ℕ) → IsSpelled brr brr_format memory address head flags codes
    → (q : ℕ) → q < 8 → get_or memory (address + 1 + q) 0 ≡ 16 * get_or codes (2 * q) 0 + get_or codes (2 * q + 1) 0
pair memory address head flags codes s q h =
    let here : address + 1 + q ≡ address + suc q = omega arith in
    let bytes = length-code_pairs codes 8 s.fits.count in
    ap (λ (i : ℕ). get_or memory i 0) here ∙ s.stands (suc q) (omega (arith, bytes)) ∙ get_or-code_pairs codes q (omega (arith, s.fits.count))

-- all that a stored format keeps
pub brr_stored : IsStoredFormat brr brr_format
brr_stored = record {
  some_bytes = omega arith;
  forgets = brr-forgets;
  start_fits = refl;
  steps = λ head p symbol at head_fits within symbol_fits is. step-fits head p symbol at is;
  symbols_fit = code-small;
  length_is = λ head flags symbols fits. ap suc (length-code_pairs symbols 8 fits.count);
  head_kept = λ memory address head flags symbols s. head-of _ _ _ (header memory address head flags symbols s) s.flags_fit;
  flags_kept = λ memory address head flags symbols s. flags-of _ _ _ (header memory address head flags symbols s) s.flags_fit;
  symbols_kept = λ memory address head flags symbols s p h.
      code-halves memory symbols address p (pair memory address head flags symbols s) (λ i below. s.fits.symbols_fit i below) h;
}
