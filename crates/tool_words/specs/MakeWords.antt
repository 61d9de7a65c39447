-- The words of the command `make`.
use Rattle.std.specs.Prelude.{ℕ, List, Option, Some, None}
use Rattle.tool_words.specs.declared.words.Command.{Command}
use Rattle.tool_words.specs.declared.words.Command.TheVariants.{Make}
use Rattle.tool_words.specs.Numbers.{number_of}

-- a command where its number is one
abbrev pub make_with : Option ℕ → Option Command
make_with None = None
make_with (Some number) = Some (Make number)

-- a number of 32 bits
unfoldable pub make_command : List ℕ → Option Command
make_command number = make_with (number_of 4294967295 number)
