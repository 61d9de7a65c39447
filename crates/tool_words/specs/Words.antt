-- Which words are a command.
use Rattle.std.specs.Prelude.{ℕ, Bool, false, not, ◌==◌, if◌then◌else◌, List, [], ◌∷◌, Option, Some, None, codes}
use Rattle.std.specs.List.{list_all}
use Rattle.std.specs.Str.{bytes_eq}
use Rattle.tool_words.specs.declared.words.Command.{Command}
use Rattle.tool_words.specs.declared.words.Command.TheVariants.{Block, Compile, Check}
use Rattle.tool_words.specs.DecompileWords.{decompile_command}
use Rattle.tool_words.specs.PlayWords.{play_command}
use Rattle.tool_words.specs.MakeWords.{make_command}
use Rattle.tool_words.specs.BoundWords.{bound_command}

-- whether a word may stand in a command: it is not empty and does not begin with `-`, which is 45
abbrev pub is_word : List ℕ → Bool
is_word [] = false
is_word (c ∷ cs) = not (c == 45)

-- the commands, one case for each number of words
abbrev pub command_in : List (List ℕ) → Option Command
command_in [] = None
command_in (name ∷ []) = None
command_in (name ∷ manifest ∷ []) =
    if bytes_eq name (codes "compile") then Some (Compile manifest) else
    if bytes_eq name (codes "check") then Some (Check manifest) else
    if bytes_eq name (codes "make") then make_command manifest else None
command_in (name ∷ input ∷ output ∷ []) =
    if bytes_eq name (codes "block") then Some (Block input output) else
    if bytes_eq name (codes "bound") then bound_command input output else None
command_in (name ∷ form ∷ file ∷ output ∷ []) = if bytes_eq name (codes "decompile") then decompile_command form file output else None
command_in (name ∷ form ∷ file ∷ entry ∷ count ∷ []) = if bytes_eq name (codes "play") then play_command form file entry count else None
command_in (name ∷ form ∷ file ∷ entry ∷ count ∷ more ∷ words) = None

-- the command that words are, if they are one
abbrev pub command_of : List (List ℕ) → Option Command
command_of words = if list_all is_word words then command_in words else None
