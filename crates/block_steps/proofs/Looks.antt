-- A look where what is not listed is worth the floor, as far as the code's numbers go.
use Rattle.std.proofs.Common.{◌≡◌, ℕ, ◌+◌, ◌<◌, ◌≤◌, ℤ, List, length, get_or, drop, add-one, drop-cons, arith, refl, ap, ◌∙◌, min, Option, Some, None}
use Rattle.machine_core.specs.declared.boxes.Bx.{Bx}
use Rattle.machine_core.specs.declared.boxes.Cell.{Cell}
use Rattle.machine_core.specs.declared.pieces.Piece.{Piece}
use Rattle.machine_core.specs.Blocks.{first_only}
use Rattle.machine_core.specs.Boxes.{low_corner, high_corner}
use Rattle.machine_core.specs.Cells.{cell_of}
use Rattle.machine_core.specs.Floors.{rest, top}
use Rattle.machine_core.specs.Rules.{Rules, grid}
use Rattle.box_layers.specs.Certificates.{least_piece, look}
use Rattle.box_layers.specs.Looking.{cell_near, least_listed, look_over, or_else, span_count}
use Rattle.block_steps.specs.Ways.{lane_certificate}
use Rattle.block_steps.proofs.LeastMore.{least-capped}

or-else-capped : (o : Option ℕ) (r : ℕ) → min top (or_else o (min top r)) ≡ min top (or_else o r)
or-else-capped (Some v) r = refl
or-else-capped None r = omega arith

listed-capped : (low high : Cell) (listed : Cell → Option ℕ) (r : ℕ) → least_listed low high listed (min top r) ≡ least_listed low high listed r
listed-capped low high listed r =
    least-capped (span_count low.a high.a) _ _ top (λ x. ap (min top) (least-capped (span_count low.b high.b) _ _ top (λ y. or-else-capped (listed (cell_near low x y)) r)))

pub look-is : (m : Rules) (targets : List ℤ) (level blocks i lane : ℕ) (bx : Bx) (listed : Cell → Option ℕ) (r : ℕ) → r ≡ min top (rest m first_only targets blocks i lane bx)
    → look_over m level listed r bx ≡ look m targets (lane_certificate level blocks listed) i lane bx
look-is m targets level blocks i lane bx listed r q =
    let low = cell_of (grid m) level (low_corner bx) in
    let high = cell_of (grid m) level (high_corner bx) in
    ap (λ z. least_listed low high listed z) q ∙ listed-capped low high listed (rest m first_only targets blocks i lane bx)

pub piece-more : (ps : List Piece) (f : Piece → ℕ) (i best : ℕ) (d : Piece) → i < length ps → best ≤ top
    → least_piece (drop (i + 1) ps) f (min best (min (f (get_or ps i d)) top)) ≡ least_piece (drop i ps) f best
piece-more ps f i best d h b =
    let e : min best (min (f (get_or ps i d)) top) ≡ min best (f (get_or ps i d)) = omega arith in
    rw (add-one, drop-cons ps i d, e) refl
