-- The words of the command `play`.
use Rattle.std.specs.Prelude.{ℕ, if◌then◌else◌, List, Option, Some, None, codes}
use Rattle.std.specs.Str.{bytes_eq}
use Rattle.machine_core.specs.declared.state.Kind.{Kind}
use Rattle.machine_core.specs.declared.state.Kind.TheVariants.{Brr, Spu, Ima}
use Rattle.tool_words.specs.declared.words.Command.{Command}
use Rattle.tool_words.specs.declared.words.Command.TheVariants.{Play}
use Rattle.tool_words.specs.Numbers.{number_of}

-- the format of a file, by its word
abbrev pub kind_of : List ℕ → Option Kind
kind_of word =
    if bytes_eq word (codes "brr") then Some Brr else
    if bytes_eq word (codes "vag") then Some Spu else
    if bytes_eq word (codes "ima") then Some Ima else None

-- a command where all of its parts are there
abbrev pub play_with : Option Kind → List ℕ → Option ℕ → Option ℕ → Option Command
play_with None file entry count = None
play_with (Some kind) file None count = None
play_with (Some kind) file (Some entry) None = None
play_with (Some kind) file (Some entry) (Some count) = Some (Play kind file entry count)

-- an entry of at most 63, and at most 1,000,000 outputs
unfoldable pub play_command : List ℕ → List ℕ → List ℕ → List ℕ → Option Command
play_command form file entry count = play_with (kind_of form) file (number_of 63 entry) (number_of 1000000 count)
