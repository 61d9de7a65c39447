use Rattle.bank_compile.proofs.BankReplays.{bank-replays, bank-certifies}
use Rattle.bank_compile.proofs.replay.stored_bank_replays.Goals as goal

pub returns-clause-replays : goal.returns-clause-replays
returns-clause-replays c = bank-replays

pub returns-clause-certified : goal.returns-clause-certified
returns-clause-certified c = bank-certifies
