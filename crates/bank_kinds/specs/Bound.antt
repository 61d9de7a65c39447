-- What the bound of a fitted sound promises.
use Rattle.std.specs.Prelude.{◌≤◌, ℕ}
use Rattle.machine_core.specs.Blocks.{Blocks, IsLegal}
use Rattle.loop_fit.specs.declared.fitted.Fitted.{Fitted}
use Rattle.bank_kinds.specs.Codec.{Codec, fixed_in}
use Rattle.bank_kinds.specs.Fits.{error_of}

-- no list of blocks that may be stored for a fitted sound has a smaller error
abbrev pub IsBound : Codec → Fitted → ℕ → Type 0
IsBound c fitted bound = (list : Blocks) → IsLegal c.rules.decoder fitted.blocks (fixed_in c fitted) list → bound ≤ error_of c fitted list
