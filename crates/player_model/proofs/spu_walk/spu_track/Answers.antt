use Rattle.std.proofs.Common.{sym, ◌∙◌}
use Rattle.player_model.proofs.SpuWalks.{split-within}
use Rattle.player_model.proofs.spu_walk.spu_track.Goals as goal

pub checked-requires-clause-within : goal.checked-requires-clause-within
checked-requires-clause-within c = split-within c.args.bytes.now _ (sym c.split_blocks.ensures ∙ c.in-Ok.is)
