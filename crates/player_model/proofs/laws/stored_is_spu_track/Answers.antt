use Rattle.std.proofs.Common.{refl}
use Rattle.player_model.specs.SpuLaws.{spu_stored}
use Rattle.player_model.proofs.SpuTracks.{spu-read}
use Rattle.player_model.proofs.laws.stored_is_spu_track.Goals as goal

pub returns : goal.returns
returns c = λ bytes list blocks loop_block range whole stored.
    spu-read bytes list blocks loop_block whole (record { laws = spu_stored; tells = refl; range = range; stored = stored })
