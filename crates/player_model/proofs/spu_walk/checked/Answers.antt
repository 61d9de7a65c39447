use Rattle.std.proofs.Common.{sym, ◌∙◌}
use Rattle.player_model.proofs.SpuWalks.{split-track, split-loop}
use Rattle.player_model.proofs.spu_walk.checked.Goals as goal

pub invariant_of-result : goal.invariant_of-result
invariant_of-result c =
    let track = split-track c.args.bytes.now c.args.split c.requires.split (sym c.bad_block.ensures.value ∙ c.in-None.is) in
    (track, c.requires.small, split-loop c.args.bytes.now c.args.split c.requires.split)
