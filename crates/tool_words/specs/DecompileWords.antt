-- The words of the command `decompile`.
use Rattle.std.specs.Prelude.{ℕ, List, Option, Some, None}
use Rattle.machine_core.specs.declared.state.Kind.{Kind}
use Rattle.tool_words.specs.declared.words.Command.{Command}
use Rattle.tool_words.specs.declared.words.Command.TheVariants.{Decompile}
use Rattle.tool_words.specs.PlayWords.{kind_of}

-- a command where its format is one
abbrev pub decompile_with : Option Kind → List ℕ → List ℕ → Option Command
decompile_with None file output = None
decompile_with (Some kind) file output = Some (Decompile kind file output)

-- a format, a file, and what the names of the stored files begin with
unfoldable pub decompile_command : List ℕ → List ℕ → List ℕ → Option Command
decompile_command form file output = decompile_with (kind_of form) file output
