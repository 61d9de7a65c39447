-- The command that was found in words, with the words at its places.
use Rattle.std.specs.Prelude.{if◌then◌else◌, List, Option, Some, None, codes, option_and_then}
use Rattle.std.specs.Str.{bytes_eq}
use Rattle.clap.specs.Words.{Row, Text, first_of}
use Rattle.tool_words.specs.declared.words.Command.{Command}
use Rattle.tool_words.specs.declared.words.Command.TheVariants.{Block, Compile, Check}
use Rattle.tool_words.specs.DecompileWords.{decompile_command}
use Rattle.tool_words.specs.PlayWords.{play_command}
use Rattle.tool_words.specs.MakeWords.{make_command}
use Rattle.tool_words.specs.BoundWords.{bound_command}

-- what is made of the word at a place, where there is one
abbrev pub with_word : List Row → Text → (Text → Option Command) → Option Command
with_word rows place make = option_and_then make (first_of place rows)

-- each command with the words at its places
unfoldable pub block_at : List Row → Option Command
block_at rows = with_word rows (codes "IN") (λ input. with_word rows (codes "OUT") (λ output. Some (Block input output)))

unfoldable pub compile_at : List Row → Option Command
compile_at rows = with_word rows (codes "MANIFEST") (λ manifest. Some (Compile manifest))

unfoldable pub check_at : List Row → Option Command
check_at rows = with_word rows (codes "MANIFEST") (λ manifest. Some (Check manifest))

unfoldable pub bound_at : List Row → Option Command
bound_at rows = with_word rows (codes "MANIFEST") (λ manifest. with_word rows (codes "EFFORT") (λ effort. bound_command manifest effort))

unfoldable pub decompile_at : List Row → Option Command
decompile_at rows =
    with_word rows (codes "FORM") (λ form. with_word rows (codes "FILE") (λ file.
    with_word rows (codes "OUT") (λ output. decompile_command form file output)))

unfoldable pub play_at : List Row → Option Command
play_at rows =
    with_word rows (codes "FORM") (λ form. with_word rows (codes "FILE") (λ file.
    with_word rows (codes "ENTRY") (λ entry. with_word rows (codes "COUNT") (λ count. play_command form file entry count))))

unfoldable pub make_at : List Row → Option Command
make_at rows = with_word rows (codes "NUMBER") make_command

-- the command of a name
abbrev pub command_at : Text → List Row → Option Command
command_at name rows =
    if bytes_eq name (codes "block") then block_at rows else
    if bytes_eq name (codes "compile") then compile_at rows else
    if bytes_eq name (codes "check") then check_at rows else
    if bytes_eq name (codes "bound") then bound_at rows else
    if bytes_eq name (codes "decompile") then decompile_at rows else
    if bytes_eq name (codes "play") then play_at rows else
    if bytes_eq name (codes "make") then make_at rows else None

-- the command of the subcommand that was met, if one was
abbrev pub command_met : Option (Text × List Row) → Option Command
command_met met = option_and_then (λ p. command_at p.0 p.1) met
