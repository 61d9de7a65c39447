-- The bytes of a cell, put one after the other.
use Rattle.std.proofs.Common.{◌≡◌, ℕ, List, ◌++◌, arith, ap, ◌∙◌, ℤ, pos, negsuc, to_z, of_z, w32}
use Rattle.std.specs.Prelude.{◌≤ℤ◌}
use Rattle.std.specs.Int.{w16, cast_unsigned}
use Rattle.std.proofs.lemmas.Int.{ints}
use Rattle.std.proofs.lemmas.List.{append_assoc}
use Rattle.byteorder.specs.Endian.{little_bytes}
use Rattle.box_layers.specs.declared.cell_value.CellValue.{CellValue}
use Rattle.bound_cert.specs.Small.{SmallCell}
use Rattle.bound_cert.specs.Spelling.{cell_bytes}

same-number : (z : ℤ) → negsuc 32767 ≤ℤ z → z ≤ℤ pos 32767 → to_z w32 (of_z w32 z) ≡ z
same-number z l h = omega (arith, ints)

pub put-cell : (o i1 i2 i3 : List ℕ) (x : CellValue) → SmallCell x → i1 ≡ o ++ little_bytes 2 (cast_unsigned w16 (to_z w32 (of_z w32 x.cell.a)))
    → i2 ≡ i1 ++ little_bytes 2 (cast_unsigned w16 (to_z w32 (of_z w32 x.cell.b))) → i3 ≡ i2 ++ little_bytes 8 x.value → i3 ≡ o ++ cell_bytes x
unfolding cell_bytes
put-cell o i1 i2 i3 x s p q r =
    let b : ℤ → List ℕ = λ z. little_bytes 2 (cast_unsigned w16 z) in
    let v = little_bytes 8 x.value in
    let p' : i1 ≡ o ++ b x.cell.a = p ∙ ap (λ z. o ++ b z) (same-number x.cell.a s.a_low s.a_high) in
    let q' : i2 ≡ (o ++ b x.cell.a) ++ b x.cell.b = q ∙ (ap (λ z. z ++ b (to_z w32 (of_z w32 x.cell.b))) p' ∙ ap (λ z. (o ++ b x.cell.a) ++ b z) (same-number x.cell.b s.b_low s.b_high)) in
    r ∙ (ap (λ z. z ++ v) q' ∙ (append_assoc (o ++ b x.cell.a) (b x.cell.b) v ∙ append_assoc o (b x.cell.a) (b x.cell.b ++ v)))
