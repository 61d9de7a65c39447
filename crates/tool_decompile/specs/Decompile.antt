-- The command `decompile`: the entries of an image, of a VAG file or of a WAVE file of IMA ADPCM become WAVE files.
use Rattle.std.specs.Prelude.{false, ◌≡◌, ◌<◌, ◌≤◌, ℕ, ◌+◌, List, length, get_or, Some, Result, Ok, Err}
use Rattle.adpcm_nums.specs.Outcome.{Tells, ◌>>=◌}
use Rattle.host_files.specs.Outside.{World, Files, content_of, grown, raised}
use Rattle.host_files.specs.declared.named_file.NamedFile.{NamedFile}
use Rattle.machine_core.specs.declared.state.Kind.{Kind}
use Rattle.machine_core.specs.declared.state.Kind.TheVariants.{Brr, Spu, Ima}
use Rattle.decompile_core.specs.declared.form.Form.{Form}
use Rattle.decompile_core.specs.declared.form.Form.TheVariants.{Brr as ImageForm, Vag as VagForm, Ima as WaveForm}
use Rattle.decompile_core.specs.declared.fault.DecompileFault.{DecompileFault}
use Rattle.decompile_core.specs.declared.fault.DecompileFault.TheVariants.{Image, Vag, Ima as WaveFault, Track, TooMuch, NoMemory}
use Rattle.decompile_core.specs.declared.recovered.Recovered.{Recovered}
use Rattle.decompile_core.specs.Decompiled.{decompiled}
use Rattle.decompile_core.specs.Heard.{IsHeard}
use Rattle.command_faults.specs.declared.status.Status.{Status}
use Rattle.command_faults.specs.declared.status.Status.TheVariants.{Done, Input, Memory}
use Rattle.command_faults.specs.declared.input_fault.InputFault.TheVariants.{TooMuch as OfMuch, Image as OfImage, Vag as OfVag, Ima as OfIma, Track as OfTrack}
use Rattle.command_plan.specs.Ending.{is_device}
use Rattle.command_plan.specs.Plan.{names_in, all_stored, PartlySet}
use Rattle.command_plan.specs.Read.{Read, as_reading, fetched_for, read_on, written_under}
use Rattle.command_plan.specs.Reading.{Reading, status_of}
use Rattle.command_plan.specs.Front.{front_in}
use Rattle.command_plan.specs.Front.{whole_in}
use Rattle.tool_decompile.specs.EntryFiles.{entry_files, entry_name, wave_of, AreKept, ReadsAs}
use Rattle.tool_decompile.specs.EntryLines.{entry_lines}

-- the files of each format
abbrev pub form_of : Kind → Form
form_of Brr = ImageForm
form_of Spu = VagForm
form_of Ima = WaveForm

-- the status of a file that is not taken apart
abbrev pub refusal_of : List ℕ → DecompileFault → Status
refusal_of file (Image fault) = Input file (OfImage fault)
refusal_of file (Vag fault) = Input file (OfVag fault)
refusal_of file (WaveFault fault) = Input file (OfIma fault)
refusal_of file (Track fault) = Input file (OfTrack fault)
refusal_of file (TooMuch blocks) = Input file (OfMuch blocks)
refusal_of file NoMemory = Memory

-- what a file was taken apart into, or that status
abbrev pub or_status : List ℕ → Result (List Recovered) DecompileFault → Result (List Recovered) Status
or_status file (Ok entries) = Ok entries
or_status file (Err fault) = Err (refusal_of file fault)

-- the entries of the file that a front is, or the first fault
unfoldable pub entries_from : Kind → List ℕ → List ℕ → Result (List Recovered) Status
entries_from kind file front = do
  bytes ← whole_in file front
  or_status file (decompiled (form_of kind) bytes)

-- the file's front is fetched, and what it says decides
abbrev pub entries_read : Files → Kind → List ℕ → Read (List Recovered)
entries_read files kind file = fetched_for file (entries_from kind file (front_in files file 8388608))

-- the entries of a file
abbrev pub entries_in : Files → Kind → List ℕ → Result (List Recovered) Status
entries_in files kind file = (entries_read files kind file).gives

-- the calls up to them
abbrev pub entries_reading : Files → Kind → List ℕ → Reading
entries_reading files kind file = as_reading (entries_read files kind file)

-- the file is read, and then its entries are stored and told
abbrev pub decompile_course : Files → Kind → List ℕ → List ℕ → Reading
decompile_course files kind file output =
    as_reading (read_on (entries_read files kind file).calls (entries_in files kind file) (λ entries. written_under (names_in (entry_files output 0 entries))))

-- what is stored and said for a file: the WAVE files of its entries, which are read as the entries, and their lines
pub record IsDecompiled (read : Result (List Recovered) Status) (output : List ℕ) (writes : List NamedFile) (line : List ℕ) : Type 0 where
  pub entries : List Recovered
  pub entries_are : read ≡ Ok entries
  pub few : length entries ≤ 64
  pub files : writes ≡ entry_files output 0 entries
  pub told : line ≡ entry_lines 0 entries
  pub kept : AreKept entries

-- a stored file holds entry j of a source: it is read as the entry's samples, rate and loop, and where the entry settles or has
-- no loop, these samples and then their loop sound as its player for ever
pub record HoldsEntry (form : Form) (source : List ℕ) (j : ℕ) (entry : Recovered) (stored : List ℕ) : Type 0 where
  pub file : stored ≡ wave_of entry
  pub sound : ReadsAs stored entry.rate entry.samples entry.loop_at
  pub heard : IsHeard form source j entry

-- what `decompile` has done where it ends well; `held` are the files before
pub record HasDecompiled (held : Files) (kind : Kind) (file output : List ℕ) (a b : World) : Type 0 where
  pub entries : List Recovered
  -- the file has just these entries, and exactly their files were set, and exactly their lines were said
  pub entries_are : decompiled (form_of kind) (content_of held file) ≡ Ok entries
  pub files : b.files ≡ all_stored a.files (entry_files output 0 entries)
  pub said : b.said ≡ grown a.said (entry_lines 0 entries)
  -- the file was fetched, a file was stored for each entry, and the lines were said in one call
  pub calls : b.calls ≡ raised (1 + length entries + 1) a.calls
  -- so now the file of each entry holds it
  pub kept : (after : Files) → b.files ≡ Some after → (j : ℕ) (other : Recovered) → j < length entries →
      HoldsEntry (form_of kind) (content_of held file) j (get_or entries j other) (content_of after (entry_name output j))

-- what `decompile` answers, in its own words: r is the answer, from a to b
pub record AnswersDecompile (held : Files) (kind : Kind) (file output : List ℕ) (a b : World) (r : Status) : Type 0 where
  pub done : r ≡ Done → HasDecompiled held kind file output a b
  -- where the host does not fail, what the file says decides, unless there was no memory
  pub outcome : is_device r ≡ false → Tells Memory r (status_of (entries_in held kind file))
  -- wherever it ended, the files of a front of the entries are set, and at most the next one is not known
  pub front : (entries : List Recovered) → entries_in held kind file ≡ Ok entries → PartlySet (entry_files output 0 entries) a.files b.files
