-- Where the cells of a layer stand in the bytes.
use Rattle.std.proofs.Common.{◌≡◌, ℕ, ◌+◌, ◌*◌, ◌<◌, ◌≤◌, List, length, arith, ap, sym, ◌∙◌}
use Rattle.box_layers.specs.Cells.{nth}
use Rattle.bound_cert.specs.Content.{Here}
use Rattle.bound_cert.specs.Places.{count_at, value_at, here_at, StandHere}
use Rattle.bound_cert.proofs.ByNumber.{length-cells, nth-cells}

-- a cell has a number below the count of its layer
counted : (bytes : List ℕ) (at left i : ℕ) (h : Here) → here_at bytes at left ≡ h → i < length h.layer.cells → i < count_at bytes at
counted bytes at left i h is within =
    let count = length-cells bytes (at + 10) (count_at bytes at) in
    let same = ap (λ (x : Here). length x.layer.cells) is in omega (arith, count, same, within)

-- its twelve bytes lie there
pub cell-lies : (bytes : List ℕ) (at left i : ℕ) (h : Here) → here_at bytes at left ≡ h → StandHere bytes at left → i < length h.layer.cells → at + 10 + 12 * i + 12 ≤ length bytes
cell-lies bytes at left i h is stands within =
    let number = counted bytes at left i h is within in
    let end = stands.within in omega (arith, number, end)

-- and spell the cell and its value
pub cell-is : (bytes : List ℕ) (at left i : ℕ) (h : Here) → here_at bytes at left ≡ h → i < length h.layer.cells → value_at bytes (at + 10 + 12 * i) ≡ nth h.layer.cells i
cell-is bytes at left i h is within =
    sym (nth-cells bytes (at + 10) (count_at bytes at) i (counted bytes at left i h is within)) ∙ ap (λ (x : Here). nth x.layer.cells i) is
