use Rattle.std.proofs.Common.{sym, ap, ◌∙◌}
use Rattle.player_model.specs.SpuTrack.{spu_track_of}
use Rattle.decompile_core.proofs.EntrySteps.{spu_track_is}
use Rattle.decompile_core.proofs.vag.vag_track.Goals as goal

pub returns-else-is_much-clause-within : goal.returns-else-is_much-clause-within
returns-else-is_much-clause-within c =
    (spu_track_is c.args.vag.now.blocks c.in-Ok.track (sym (c.in-Ok.ensures ∙ ap spu_track_of c.as_slice.ensures))).within
