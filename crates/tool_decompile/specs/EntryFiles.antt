-- The files of `decompile`: a WAVE file for each entry of a file, and what they are read as.
use Rattle.std.specs.Prelude.{◌≡◌, ℕ, suc, ℤ, List, [], ◌∷◌, ◌++◌, length, All, Option, Some, None, Ok, codes, decimal}
use Rattle.adpcm_nums.specs.declared.loop_at.LoopAt.{LoopAt}
use Rattle.smpl_loops.specs.Loops.{first_loop_of}
use Rattle.wave_form.specs.Reading.{read_of}
use Rattle.wave_form.specs.Written.{wave_file, wave_loop_file}
use Rattle.host_files.specs.declared.named_file.NamedFile.{NamedFile}
use Rattle.decompile_core.specs.declared.recovered.Recovered.{Recovered}

-- the WAVE file of samples, with their loop where they have one
abbrev pub sound_file : ℕ → List ℤ → Option LoopAt → List ℕ
sound_file rate samples None = wave_file rate samples
sound_file rate samples (Some at) = wave_loop_file rate samples at

-- the WAVE file of an entry
abbrev pub wave_of : Recovered → List ℕ
wave_of entry = sound_file entry.rate entry.samples entry.loop_at

-- the name of the file of entry i
unfoldable pub entry_name : List ℕ → ℕ → List ℕ
entry_name output i = output ++ (codes "." ++ (decimal i ++ codes ".wav"))

-- the file of entry i
abbrev pub entry_file : List ℕ → ℕ → Recovered → NamedFile
entry_file output i entry = record { name = entry_name output i; bytes = wave_of entry }

-- the files of entries, the first of which has number i
unfoldable pub entry_files : List ℕ → ℕ → List Recovered → List NamedFile
entry_files output i [] = []
entry_files output i (entry ∷ entries) = entry_file output i entry ∷ entry_files output (suc i) entries

-- bytes are read as a WAVE file of this rate, these samples and this loop
pub record ReadsAs (bytes : List ℕ) (rate : ℕ) (samples : List ℤ) (points : Option LoopAt) : Type 0 where
  pub sampler : Option (List ℕ)
  pub sound : read_of bytes None ≡ Ok (record { rate = rate; samples = samples; sampler = sampler })
  pub loop_is : first_loop_of sampler (length samples) ≡ Ok points

-- the file of an entry is read as the entry
abbrev pub IsKept : Recovered → Type 0
IsKept entry = ReadsAs (wave_of entry) entry.rate entry.samples entry.loop_at

-- that of each entry is
abbrev pub AreKept : List Recovered → Type 0
AreKept entries = All IsKept entries
