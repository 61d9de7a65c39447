use Rattle.std.proofs.Common.{◌*◌, length}
use Rattle.snes_directory.proofs.Splits.{agains_in-at}
use Rattle.snes_directory.proofs.EntryAgain.{blocks-lie}
use Rattle.snes_directory.proofs.laws.samples_lie_in_memory.Goals as goal

pub returns-clause-blocks : goal.returns-clause-blocks
returns-clause-blocks c = blocks-lie

pub returns-clause-agains : goal.returns-clause-agains
returns-clause-agains c = λ parts i part less is. agains_in-at (4 * length parts) parts i part less is
