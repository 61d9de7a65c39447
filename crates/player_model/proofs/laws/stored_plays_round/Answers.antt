use Rattle.player_model.proofs.StoredPlay.{stored-play, stored-listed}
use Rattle.player_model.proofs.laws.stored_plays_round.Goals as goal

pub returns-clause-outputs : goal.returns-clause-outputs
returns-clause-outputs c = λ d f memory start again list blocks loop_block history from i laws tells range anew stored.
    stored-play d f (record { memory = memory; start = start; again = again; blocks = blocks }) list loop_block history from i
    (record { laws = laws; tells = tells; range = range; stored = stored }) anew

pub returns-clause-listed : goal.returns-clause-listed
returns-clause-listed c = λ d f memory start again list blocks loop_block history from outputs i laws tells range anew stored are.
    stored-listed d f (record { memory = memory; start = start; again = again; blocks = blocks }) list loop_block history from outputs i
    (record { laws = laws; tells = tells; range = range; stored = stored }) anew are
