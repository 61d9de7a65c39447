-- SPU-ADPCM is a stored format. The proofs stand here since no definition may cite proofs/.
use Rattle.std.proofs.Common.{◌≡◌, ℕ, suc, ◌+◌, ◌*◌, ◌%◌, ◌<◌, List, get_or, refl, ap, ◌∙◌, arith}
use Rattle.adpcm_nums.proofs.NibbleLaws.{length-code_pairs, get_or-code_pairs, nibbles-read, nibble-small}
use Rattle.spu_machine.specs.Spu.{spu}
use Rattle.spu_machine.specs.Laws.Forgetting.{spu-forgets}
use Rattle.spu_machine.specs.Laws.Ranges.{step-fits}
use Rattle.player_model.specs.FormatLaws.{IsSpelled, IsStoredFormat}
use Rattle.player_model.specs.SpuFormat.{spu_format}

head-of : (byte head : ℕ) → byte ≡ head → head < 80 → byte % 128 ≡ head
head-of byte head e h = omega (arith, e)

flags-of : (byte flags : ℕ) → byte ≡ flags → flags < 8 → byte % 8 ≡ flags
flags-of byte flags e h = omega (arith, e)

-- the first byte of a spelled block
first-byte : (memory : List ℕ) (address head flags : ℕ) (codes : List ℕ) → IsSpelled spu spu_format memory address head flags codes → get_or memory address 0 ≡ head
first-byte memory address head flags codes s =
    let here : address ≡ address + 0 = omega arith in
    ap (λ (i : ℕ). get_or memory i 0) here ∙ s.stands 0 (omega arith)

-- byte q of its codes
pair : (memory : List ℕ) (address head flags : ℕ) (codes : List ℕ) → IsSpelled spu spu_format memory address head flags codes
    → (q : ℕ) → q < 14 → get_or memory (address + 2 + q) 0 ≡ get_or codes (2 * q) 0 + 16 * get_or codes (2 * q + 1) 0
pair memory address head flags codes s q h =
    let here : address + 2 + q ≡ address + suc (suc q) = omega arith in
    let bytes = length-code_pairs codes 14 s.fits.count in
    ap (λ (i : ℕ). get_or memory i 0) here ∙ s.stands (suc (suc q)) (omega (arith, bytes)) ∙ get_or-code_pairs codes q (omega (arith, s.fits.count))

-- all that a stored format keeps
pub spu_stored : IsStoredFormat spu spu_format
spu_stored = record {
  some_bytes = omega arith;
  forgets = spu-forgets;
  start_fits = refl;
  steps = λ head p symbol at head_fits within symbol_fits is. step-fits head p symbol at is;
  symbols_fit = λ memory address p bytes h. nibble-small memory (address + 2) p bytes;
  length_is = λ head flags symbols fits. ap (λ (n : ℕ). suc (suc n)) (length-code_pairs symbols 14 fits.count);
  head_kept = λ memory address head flags symbols s. head-of _ _ (first-byte memory address head flags symbols s) s.fits.head_fits;
  flags_kept = λ memory address head flags symbols s. flags-of _ _ (s.stands 1 (omega arith)) s.flags_fit;
  symbols_kept = λ memory address head flags symbols s p h.
      nibbles-read 14 memory symbols (address + 2) p (pair memory address head flags symbols s) (λ i below. s.fits.symbols_fit i below) h;
}
