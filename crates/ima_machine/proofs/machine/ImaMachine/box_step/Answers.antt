use Rattle.std.proofs.Common.{arith, sym, ◌∙◌, ◌≡◌, ◌∷◌, [], w32}
use mir.Val.{SFits}
use Rattle.std.proofs.lemmas.Int.{to_z-of_z}
use Rattle.ima_machine.specs.Image.{later_piece}
use Rattle.ima_machine.specs.Laws.Boxed.{low-state, greatest-state}
use Rattle.ima_machine.specs.Laws.Images.{image-later}
use Rattle.ima_machine.proofs.machine.ImaMachine.box_step.Goals as goal

pub later_image-requires-clause-low : goal.later_image-requires-clause-low
later_image-requires-clause-low c = low-state c.args.place c.args.from c.requires.from

pub later_image-requires-clause-high : goal.later_image-requires-clause-high
later_image-requires-clause-high c = greatest-state c.args.place c.args.from c.requires.from

pub returns-else-place-eq0 : goal.returns-else-place-eq0
returns-else-place-eq0 c =
    let target : SFits w32 c.args.target = c.ranges.target in
    let image : c.later_image.result ≡ later_piece c.args.sym c.args.from c.args.target ∷ [] = simp to_z-of_z at c.later_image.ensures in
    image ∙ sym (image-later c.args.head c.args.place c.args.sym c.args.from c.args.target (omega arith))
