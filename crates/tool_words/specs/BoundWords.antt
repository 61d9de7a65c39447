-- The words of the command `bound`.
use Rattle.std.specs.Prelude.{ℕ, List, Option, Some, None}
use Rattle.tool_words.specs.declared.words.Command.{Command}
use Rattle.tool_words.specs.declared.words.Command.TheVariants.{Bound}
use Rattle.tool_words.specs.Numbers.{number_of}

-- a command where its effort is a number
abbrev pub bound_with : List ℕ → Option ℕ → Option Command
bound_with manifest None = None
bound_with manifest (Some effort) = Some (Bound manifest effort)

-- an effort of at most 100,000
unfoldable pub bound_command : List ℕ → List ℕ → Option Command
bound_command manifest effort = bound_with manifest (number_of 100000 effort)
