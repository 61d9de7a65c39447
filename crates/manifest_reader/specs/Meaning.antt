-- What a manifest says.
use Rattle.std.specs.Prelude.{ℕ, nat_lt, if◌then◌else◌, List, [], ◌∷◌, length, Result, Ok, Err, codes}
use Rattle.std.specs.Option.{ok_or}
use Rattle.std.specs.Str.{is_utf8}
use Rattle.toml.specs.Data.{Members}
use Rattle.toml.specs.Parse.{parse_document}
use Rattle.adpcm_nums.specs.Outcome.{◌>>=◌}
use Rattle.machine_core.specs.declared.state.Kind.{Kind}
use Rattle.loop_fit.specs.declared.rule.Length.{Length}
use Rattle.loop_fit.specs.declared.rule.Start.{Start}
use Rattle.manifest_reader.specs.declared.fault.ManifestFault.{ManifestFault}
use Rattle.manifest_reader.specs.declared.fault.ManifestFault.TheVariants.{TooLong, NotToml}
use Rattle.manifest_reader.specs.declared.manifest.Manifest.{Manifest}
use Rattle.manifest_reader.specs.declared.manifest.SampleEntry.{SampleEntry}
use Rattle.manifest_reader.specs.Keys.{check_keys}
use Rattle.manifest_reader.specs.Bank.{kind_at, bank_at, base_at, block_at, effort_at, length_at, start_at}
use Rattle.manifest_reader.specs.Sample.{samples_at}
use Rattle.manifest_reader.specs.Names.{check_names}

-- a manifest, wherever it lies in memory
pub record Content : Type 0 where
  pub kind : Kind
  pub bank : List ℕ
  -- where a SNES image begins in sound memory
  pub base : ℕ
  -- bytes of a block of IMA ADPCM
  pub block : ℕ
  -- how many lists of blocks the encoder keeps
  pub beam : ℕ
  -- how many lists of codes go on together inside each block
  pub paths : ℕ
  -- how many cells the search may keep for a sample
  pub budget : ℕ
  -- how a loop's length is fitted to blocks
  pub length : Length
  -- how a loop's start is fitted to blocks
  pub start : Start
  pub samples : List SampleEntry

-- what a manifest in memory says
abbrev pub content_of : Manifest → Content
content_of m = record {
  kind = m.kind;
  bank = m.bank;
  base = m.base;
  block = m.block;
  beam = m.beam;
  paths = m.paths;
  budget = m.budget;
  length = m.length;
  start = m.start;
  samples = m.samples.items;
}

-- the keys that a manifest may have
abbrev pub bank_keys : List (List ℕ)
bank_keys =
    codes "format" ∷ codes "bank" ∷ codes "base" ∷ codes "block" ∷ codes "beam" ∷ codes "paths" ∷ codes "budget" ∷ codes "length" ∷ codes "start" ∷ codes "sample" ∷ []

-- the manifest that a table says, where the manifest itself has the name own; each line has its faults, and the first counts
unfoldable pub manifest_at : Members → List ℕ → Result Content ManifestFault
manifest_at table own = do
  known ← check_keys bank_keys table
  kind ← kind_at table
  bank ← bank_at table
  base ← base_at table
  block ← block_at table
  effort ← effort_at table
  length ← length_at table
  start ← start_at table
  samples ← samples_at table
  apart ← check_names kind bank samples own
  Ok (record { kind = kind; bank = bank; base = base; block = block; beam = effort.beam; paths = effort.paths; budget = effort.budget; length = length; start = start; samples = samples })

-- the table that bytes spell
unfoldable pub document_of : List ℕ → Result Members ManifestFault
document_of bytes = if is_utf8 bytes then ok_or (parse_document bytes) NotToml else Err NotToml

-- the manifest that bytes spell, or its first fault
unfoldable pub manifest_of : List ℕ → List ℕ → Result Content ManifestFault
manifest_of bytes own =
    if nat_lt 65536 (length bytes) then Err (TooLong (length bytes)) else
    document_of bytes >>= λ table. manifest_at table own
