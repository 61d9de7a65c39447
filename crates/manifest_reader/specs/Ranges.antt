-- What every manifest that is read keeps.
use Rattle.std.specs.Prelude.{◌≡◌, ℕ, ◌≤◌, ◌%◌, true, false, List, length, map, All, IfSome}
use Rattle.std.specs.List.{IsDistinct}
use Rattle.std.specs.Str.{bytes_eq}
use Rattle.machine_core.specs.declared.state.Kind.{Kind}
use Rattle.manifest_reader.specs.declared.effort.Effort.{Effort}
use Rattle.manifest_reader.specs.declared.manifest.SampleEntry.{SampleEntry}
use Rattle.manifest_reader.specs.Words.{is_bank, is_name, is_file}
use Rattle.manifest_reader.specs.Keys.{is_among}
use Rattle.manifest_reader.specs.Stored.{stored_names}
use Rattle.manifest_reader.specs.Meaning.{Content}

-- a multiple of step in low..high
pub record IsWithin (low high step n : ℕ) : Type 0 where
  pub least : low ≤ n
  pub most : n ≤ high
  pub multiple : n % step ≡ 0

-- an effort whose search can begin
pub record IsEffort (e : Effort) : Type 0 where
  pub beam : IsWithin 1 64 1 e.beam
  pub paths : IsWithin 1 64 1 e.paths

-- a sample whose name, file and channel are in their ranges
pub record IsEntry (s : SampleEntry) : Type 0 where
  pub name : is_name s.name ≡ true
  pub name_some : 1 ≤ length s.name
  pub name_few : length s.name ≤ 16
  pub file : is_file s.file ≡ true
  pub channel : IfSome s.channel (λ n. n ≤ 1)

-- each number and text is in its range
pub record InRanges (m : Content) : Type 0 where
  pub bank : is_bank m.bank ≡ true
  pub base : IsWithin 0 65280 256 m.base
  pub block : IsWithin 8 1024 4 m.block
  pub beam : IsWithin 1 64 1 m.beam
  pub paths : IsWithin 1 64 1 m.paths
  pub budget : IsWithin 0 1000000 1 m.budget
  pub some : 1 ≤ length m.samples
  pub few : length m.samples ≤ 64
  pub samples : All IsEntry m.samples

-- no two samples have one name
abbrev pub AreDistinct : List SampleEntry → Type 0
AreDistinct samples = IsDistinct bytes_eq (map (λ s. s.name) samples)

-- no two files of the bank have one name
abbrev pub StoresOnce : Kind → List ℕ → List SampleEntry → Type 0
StoresOnce kind bank samples = IsDistinct bytes_eq (stored_names kind bank samples)

-- nothing is stored over a sample's file, nor over the manifest itself
pub record IsApart (stored : List (List ℕ)) (samples : List SampleEntry) (own : List ℕ) : Type 0 where
  pub files : All (λ s. is_among s.file stored ≡ false) samples
  pub manifest : is_among own stored ≡ false
