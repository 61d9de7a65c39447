-- The samples of a manifest.
use Rattle.std.specs.Prelude.{⊤, ℕ, suc, Bool, true, false, ◌&&◌, ◌==◌, nat_lt, is_some, if◌then◌else◌, List, [], ◌∷◌, Option, Some, None, Result, Ok, Err, codes}
use Rattle.std.specs.Option.{ok_or}
use Rattle.std.specs.Str.{bytes_eq}
use Rattle.toml.specs.Data.{Data, Items, no_items, item, Members, get_member, as_array, as_table}
use Rattle.adpcm_nums.specs.Outcome.{◌>>=◌}
use Rattle.manifest_reader.specs.declared.fault.ManifestFault.{ManifestFault}
use Rattle.manifest_reader.specs.declared.fault.ManifestFault.TheVariants.{BadWord, WrongKind, NoSamples, TooMany}
use Rattle.manifest_reader.specs.declared.manifest.SampleEntry.{SampleEntry}
use Rattle.manifest_reader.specs.Words.{is_name, is_file}
use Rattle.manifest_reader.specs.Keys.{text_at, needed_text, number_at, check_keys}

-- the keys that a sample may have
abbrev pub sample_keys : List (List ℕ)
sample_keys = codes "name" ∷ codes "file" ∷ codes "channel" ∷ codes "loop" ∷ []

-- the name of a sample
unfoldable pub name_at : Members → Result (List ℕ) ManifestFault
name_at table = do
  word ← needed_text (codes "name") table
  if is_name word then Ok word else Err (BadWord (codes "name"))

-- the name of its source file
unfoldable pub file_at : Members → Result (List ℕ) ManifestFault
file_at table = do
  word ← needed_text (codes "file") table
  if is_file word then Ok word else Err (BadWord (codes "file"))

-- the channel of the file that is taken
unfoldable pub channel_at : Members → Result (Option ℕ) ManifestFault
channel_at table = number_at 0 1 1 (codes "channel") table

-- whether a file's loop is taken, by its word
abbrev pub loop_word : Option (List ℕ) → Result Bool ManifestFault
loop_word None = Ok true
loop_word (Some word) =
    if bytes_eq word (codes "smpl") then Ok true else
    if bytes_eq word (codes "none") then Ok false else
    Err (BadWord (codes "loop"))

-- whether the file's loop is taken
unfoldable pub looped_at : Members → Result Bool ManifestFault
looped_at table = text_at (codes "loop") table >>= loop_word

-- the sample that a table says
unfoldable pub sample_at : Members → Result SampleEntry ManifestFault
sample_at table = do
  known ← check_keys sample_keys table
  name ← name_at table
  file ← file_at table
  channel ← channel_at table
  looped ← looped_at table
  Ok (record { name = name; file = file; channel = channel; looped = looped })

-- the sample that a value says
unfoldable pub sample_of : Data → Result SampleEntry ManifestFault
sample_of d = ok_or (as_table d) (WrongKind (codes "sample")) >>= sample_at

-- one sample after the other
unfoldable pub samples_of : Items → Result (List SampleEntry) ManifestFault
samples_of no_items = Ok []
samples_of (item d items) = do
  first ← sample_of d
  others ← samples_of items
  Ok (first ∷ others)

-- whether each item is a table
unfoldable pub are_tables : Items → Bool
are_tables no_items = true
are_tables (item d items) = is_some (as_table d) && are_tables items

-- how many items there are
unfoldable pub count_of : Items → ℕ
count_of no_items = 0
count_of (item d items) = suc (count_of items)

-- between one table and sixty-four, and nothing else
unfoldable pub check_tables : Items → Result ⊤ ManifestFault
check_tables items =
    if count_of items == 0 then Err NoSamples else
    if nat_lt 64 (count_of items) then Err (TooMany (count_of items)) else
    if are_tables items then Ok tt else
    Err (WrongKind (codes "sample"))

-- the samples; all are tables before the first is read
unfoldable pub samples_at : Members → Result (List SampleEntry) ManifestFault
samples_at table = do
  d ← ok_or (get_member (codes "sample") table) NoSamples
  items ← ok_or (as_array d) (WrongKind (codes "sample"))
  checked ← check_tables items
  samples_of items
