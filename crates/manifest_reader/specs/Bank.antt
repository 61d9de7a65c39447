-- The keys of a bank.
use Rattle.std.specs.Prelude.{ℕ, if◌then◌else◌, List, Option, Some, None, Result, Ok, Err, codes}
use Rattle.std.specs.Option.{unwrap_or}
use Rattle.std.specs.Str.{bytes_eq}
use Rattle.toml.specs.Data.{Members}
use Rattle.adpcm_nums.specs.Outcome.{◌>>=◌}
use Rattle.machine_core.specs.declared.state.Kind.{Kind}
use Rattle.machine_core.specs.declared.state.Kind.TheVariants.{Brr, Spu, Ima}
use Rattle.loop_fit.specs.declared.rule.Length.{Length}
use Rattle.loop_fit.specs.declared.rule.Length.TheVariants.{Exact, Unroll}
use Rattle.loop_fit.specs.declared.rule.Start.{Start}
use Rattle.loop_fit.specs.declared.rule.Start.TheVariants.{Front, Rotate}
use Rattle.manifest_reader.specs.declared.effort.Effort.{Effort}
use Rattle.manifest_reader.specs.declared.fault.ManifestFault.{ManifestFault}
use Rattle.manifest_reader.specs.declared.fault.ManifestFault.TheVariants.{BadWord}
use Rattle.manifest_reader.specs.Words.{is_bank}
use Rattle.manifest_reader.specs.Keys.{text_at, needed_text, number_at}

-- the formats by their words
abbrev pub kind_word : List ℕ → Result Kind ManifestFault
kind_word word =
    if bytes_eq word (codes "brr") then Ok Brr else
    if bytes_eq word (codes "spu") then Ok Spu else
    if bytes_eq word (codes "ima") then Ok Ima else
    Err (BadWord (codes "format"))

-- the format of the bank
unfoldable pub kind_at : Members → Result Kind ManifestFault
kind_at table = do
  word ← needed_text (codes "format") table
  kind_word word

-- the bank's name
unfoldable pub bank_at : Members → Result (List ℕ) ManifestFault
bank_at table = do
  word ← needed_text (codes "bank") table
  if is_bank word then Ok word else Err (BadWord (codes "bank"))

-- the number that was read, or this one where none was there
abbrev pub or_default : ℕ → Result (Option ℕ) ManifestFault → Result ℕ ManifestFault
or_default default read = do
  number ← read
  Ok (unwrap_or number default)

-- where a SNES image begins in sound memory
unfoldable pub base_at : Members → Result ℕ ManifestFault
base_at table = or_default 512 (number_at 0 65280 256 (codes "base") table)

-- bytes of a block of IMA ADPCM
unfoldable pub block_at : Members → Result ℕ ManifestFault
block_at table = or_default 256 (number_at 8 1024 4 (codes "block") table)

-- how many lists of blocks the encoder keeps
unfoldable pub beam_at : Members → Result ℕ ManifestFault
beam_at table = or_default 8 (number_at 1 64 1 (codes "beam") table)

-- how many lists of codes go on together inside each block
unfoldable pub paths_at : Members → Result ℕ ManifestFault
paths_at table = or_default 1 (number_at 1 64 1 (codes "paths") table)

-- how many cells the search may keep for a sample
unfoldable pub budget_at : Members → Result ℕ ManifestFault
budget_at table = or_default 100000 (number_at 0 1000000 1 (codes "budget") table)

-- how much is done to find good blocks
unfoldable pub effort_at : Members → Result Effort ManifestFault
effort_at table = do
  beam ← beam_at table
  paths ← paths_at table
  budget ← budget_at table
  Ok (record { beam = beam; paths = paths; budget = budget })

-- how a loop's length is fitted, by its word
abbrev pub length_word : Option (List ℕ) → Result Length ManifestFault
length_word None = Ok Exact
length_word (Some word) =
    if bytes_eq word (codes "exact") then Ok Exact else
    if bytes_eq word (codes "unroll") then Ok Unroll else
    Err (BadWord (codes "length"))

-- how a loop's length is fitted
unfoldable pub length_at : Members → Result Length ManifestFault
length_at table = text_at (codes "length") table >>= length_word

-- how a loop's start is fitted, by its word
abbrev pub start_word : Option (List ℕ) → Result Start ManifestFault
start_word None = Ok Front
start_word (Some word) =
    if bytes_eq word (codes "front") then Ok Front else
    if bytes_eq word (codes "rotate") then Ok Rotate else
    Err (BadWord (codes "start"))

-- how a loop's start is fitted
unfoldable pub start_at : Members → Result Start ManifestFault
start_at table = text_at (codes "start") table >>= start_word
