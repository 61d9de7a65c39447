use Rattle.std.proofs.Common.{refl}
use Rattle.player_model.specs.BrrLaws.{brr_stored}
use Rattle.player_model.proofs.StoredTracks.{stored-track}
use Rattle.player_model.proofs.BrrTracks.{track-read}
use Rattle.player_model.proofs.BrrWalks.{walked}
use Rattle.brr_machine.specs.Brr.{brr}
use Rattle.player_model.specs.BrrFormat.{brr_format}
use Rattle.player_model.proofs.laws.stored_is_brr_track.Goals as goal

pub returns : goal.returns
returns c = λ memory start again list blocks loop_block range stored.
    track-read memory start again blocks (stored-track brr brr_format (walked memory start again blocks) list loop_block (record { laws = brr_stored; tells = refl; range = range; stored = stored }))
