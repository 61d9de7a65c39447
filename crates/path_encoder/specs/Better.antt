-- What a choice for one segment is.
use Rattle.std.specs.Prelude.{◌≡◌, ℕ, ℤ, List}
use Rattle.machine_core.specs.declared.choice.Choice.{Choice}
use Rattle.machine_core.specs.Decoder.{Decoder}
use Rattle.machine_core.specs.Blocks.{Blocks, IsLegal, first_only}
use Rattle.machine_core.specs.Sums.{sum_of}

-- a choice's heads and symbols, without its error
abbrev pub list_of : Choice → Blocks
list_of choice = record { heads = choice.heads; symbols = choice.symbols }

-- a legal list of so many blocks, told with its exact error
pub record IsChoice (d : Decoder) (blocks : ℕ) (targets : List ℤ) (choice : Choice) : Type 0 where
  pub legal : IsLegal d blocks first_only (list_of choice)
  pub sum : choice.sum ≡ sum_of d (list_of choice) targets blocks
