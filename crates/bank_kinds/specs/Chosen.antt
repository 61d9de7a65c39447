-- The blocks of a choice.
use Rattle.machine_core.specs.declared.choice.Choice.{Choice}
use Rattle.machine_core.specs.Blocks.{Blocks}

-- a choice's heads and symbols, without its error
abbrev pub list_of : Choice → Blocks
list_of choice = record { heads = choice.heads; symbols = choice.symbols }
