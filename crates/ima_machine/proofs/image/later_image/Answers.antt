use Rattle.std.proofs.Common.{rules, arith, ap, ◌≡◌, ◌∙◌, w32}
use mir.Val.{SFits}
use Rattle.std.specs.Prelude.{◌+ℤ◌, unsigned_abs}
use Rattle.std.proofs.lemmas.Int.{ints, to_z-of_z}
use Rattle.adpcm_nums.specs.Nums.{clamp16_of}
use Rattle.machine_core.specs.declared.state.State.{State}
use Rattle.machine_core.specs.declared.boxes.Bx.{Bx}
use Rattle.machine_core.specs.Boxes.{low_corner}
use Rattle.ima_machine.specs.Steps.{difference_of}
use Rattle.ima_machine.specs.Ima.{later_state}
use Rattle.ima_machine.specs.Image.{greatest}
use Rattle.ima_machine.specs.Laws.States.{output_of}
use Rattle.ima_machine.proofs.Corners.{output-is, in-order, image-is}
use Rattle.ima_machine.proofs.image.later_image.Goals as goal

pub later_output-high-requires : goal.later_output-high-requires
later_output-high-requires c =
    let hi : SFits w32 c.args.from.a.hi = search rules in
    let i : SFits w32 c.args.from.b.lo = search rules in
    simp to_z-of_z c.requires.high

pub output_piece-requires-clause-lo : goal.output_piece-requires-clause-lo
output_piece-requires-clause-lo c =
    let first : SFits w32 c.later_state-low.result.a = search rules in
    simp to_z-of_z (output_of c.later_state-low.result c.later_state-low.ensures.range)

pub invariant_of-output_piece : goal.invariant_of-output_piece
invariant_of-output_piece c =
    let lo : SFits w32 c.args.from.a.lo = search rules in
    let hi : SFits w32 c.args.from.a.hi = search rules in
    let i : SFits w32 c.args.from.b.lo = search rules in
    let low : c.later_state-low.result ≡ later_state c.args.code (low_corner c.args.from) = simp to_z-of_z at c.later_state-low.ensures.value in
    let clamped : c.later_output-high.result ≡ clamp16_of (c.args.from.a.hi +ℤ difference_of (unsigned_abs c.args.from.b.lo) c.args.code) = simp to_z-of_z at c.later_output-high.ensures.value in
    let high : c.later_output-high.result ≡ (later_state c.args.code (greatest c.args.from)).a = output-is c.args.code (greatest c.args.from) c.later_output-high.result clamped in
    let order = in-order c.args.code c.args.from c.later_state-low.result c.later_output-high.result low high in
    let first : SFits w32 c.later_state-low.result.a = search rules in
    let last : SFits w32 c.later_output-high.result = search rules in
    record { order = simp to_z-of_z order }

pub returns : goal.returns
returns c =
    let lo : SFits w32 c.args.from.a.lo = search rules in
    let hi : SFits w32 c.args.from.a.hi = search rules in
    let i : SFits w32 c.args.from.b.lo = search rules in
    let target : SFits w32 c.args.target = c.ranges.target in
    let low : c.later_state-low.result ≡ later_state c.args.code (low_corner c.args.from) = simp to_z-of_z at c.later_state-low.ensures.value in
    let clamped : c.later_output-high.result ≡ clamp16_of (c.args.from.a.hi +ℤ difference_of (unsigned_abs c.args.from.b.lo) c.args.code) = simp to_z-of_z at c.later_output-high.ensures.value in
    let high : c.later_output-high.result ≡ (later_state c.args.code (greatest c.args.from)).a = output-is c.args.code (greatest c.args.from) c.later_output-high.result clamped in
    image-is c.args.code c.args.from c.args.target _ c.later_state-low.result c.later_output-high.result _ _ c.output_piece.result c.one.result c.one.ensures c.output_piece.ensures
    low high (omega (arith, ints)) (omega (arith, ints)) (ap (λ (b : Bx). b.b) c.point_box.ensures) (omega (arith, ints))
