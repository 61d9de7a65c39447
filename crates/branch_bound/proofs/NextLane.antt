-- A box's cells, between two corners.
use Rattle.std.proofs.Common.{◌<◌, ℕ, IsTrue}
use Rattle.machine_core.specs.declared.boxes.Bx.{Bx}
use Rattle.machine_core.specs.Boxed.{IsBoxed}
use Rattle.machine_core.specs.Boxes.{high_corner, low_corner}
use Rattle.machine_core.specs.Cells.{cell_of, is_level}
use Rattle.machine_core.specs.Rules.{Rules, IsMachine, grid}
use Rattle.machine_core.proofs.CellLaws.{between, cell-is, cell-small}
use Rattle.box_layers.specs.Looking.{IsCornered}
use Rattle.box_layers.proofs.Looks.{low-inside}
use Rattle.block_steps.specs.Plans.{HaveCorners}

pub box-ordered : (m : Rules) → IsMachine m → IsBoxed m → HaveCorners m → (level p : ℕ) (bx : Bx) → IsTrue (is_level level) → p < m.decoder.samples → IsTrue (m.is_box p bx)
    → IsCornered (cell_of (grid m) level (low_corner bx)) (cell_of (grid m) level (high_corner bx))
box-ordered m laws boxed corners level p bx lev fits box =
    let high = high_corner bx in
    let b = between (grid m) level bx (low_corner bx) lev (low-inside bx) in
    let small = cell-small m level (cell_of (grid m) level high) boxed (cell-is m level high laws lev (corners p bx fits box).1) in
    record { a_order = b.a_high; b_order = b.b_high; a_small = small.0.high }
