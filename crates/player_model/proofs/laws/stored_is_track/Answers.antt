use Rattle.player_model.proofs.StoredTracks.{stored-track, stored-loop}
use Rattle.player_model.proofs.StoredRead.{stored-read}
use Rattle.player_model.proofs.laws.stored_is_track.Goals as goal

pub returns-clause-track : goal.returns-clause-track
returns-clause-track c = λ d f memory start again list blocks loop_block laws tells range stored.
    stored-track d f _ list loop_block (record { laws = laws; tells = tells; range = range; stored = stored })

pub returns-clause-loop_block : goal.returns-clause-loop_block
returns-clause-loop_block c = λ d f memory start again list blocks loop_block laws tells range stored.
    stored-loop d f _ list loop_block (record { laws = laws; tells = tells; range = range; stored = stored })

pub returns-clause-read : goal.returns-clause-read
returns-clause-read c = λ d f memory start again list blocks loop_block laws range stored.
    stored-read d f (record { memory = memory; start = start; again = again; blocks = blocks }) list loop_block laws range stored
