-- The command `decompile`, over plain variables.
use Rattle.std.proofs.Common.{◌≡◌, ◌≢◌, ◌≤◌, ◌⊎◌, ℕ, List, length, Bool, true, false, cond, nat_lt, refl, sym, ap, subst, ◌∙◌, inl, inr, Result, Ok, Err}
use Rattle.adpcm_nums.specs.Outcome.{Gives, ◌>>=◌}
use Rattle.host_files.specs.Outside.{World, Files, Rose}
use Rattle.host_files.specs.declared.named_file.NamedFile.{NamedFile}
use Rattle.machine_core.specs.declared.state.Kind.{Kind}
use Rattle.decompile_core.specs.declared.fault.DecompileFault.{DecompileFault}
use Rattle.decompile_core.specs.declared.fault.DecompileFault.TheVariants.{Image, Vag, Ima as WaveFault, Track, TooMuch, NoMemory}
use Rattle.decompile_core.specs.declared.recovered.Recovered.{Recovered}
use Rattle.decompile_core.specs.Decompiled.{decompiled}
use Rattle.command_faults.specs.declared.status.Status.{Status}
use Rattle.command_faults.specs.declared.status.Status.TheVariants.{Words, Input, Memory}
use Rattle.command_faults.specs.declared.input_fault.InputFault.{InputFault}
use Rattle.command_faults.specs.declared.input_fault.InputFault.TheVariants.{FileLong, TooMuch as OfMuch, Image as OfImage, Vag as OfVag, Ima as OfIma, Track as OfTrack}
use Rattle.command_plan.specs.Ending.{is_device, ending_of}
use Rattle.command_plan.specs.Plan.{names_in}
use Rattle.command_plan.specs.Read.{as_reading, given, fetched_for, written_under, Reads}
use Rattle.command_plan.specs.Reading.{fetched, status_of}
use Rattle.command_plan.specs.Steps.{Comes, Halts, HasRead, Keeps, writing}
use Rattle.command_plan.specs.Promise.{Reaches}
use Rattle.command_plan.proofs.Readings.{reads_on}
use Rattle.command_plan.proofs.ReadOn.{given_halts}
use Rattle.command_plan.proofs.Tests.{decides}
use Rattle.command_plan.proofs.Promised.{then_reaches, written}
use Rattle.command_plan.specs.Front.{whole_in}
use Rattle.tool_decompile.specs.Decompile.{form_of, refusal_of, or_status, entries_from, entries_read, entries_in, entries_reading, decompile_course, IsDecompiled}
use Rattle.tool_decompile.specs.EntryFiles.{entry_files}

-- want of memory, or a fault of the file
abbrev pub IsRefusal : List ℕ → Status → Type 0
IsRefusal file s = (s ≡ Memory) ⊎ ((fault : InputFault) × (s ≡ Input file fault))

-- nothing else comes of it
abbrev pub Refuses : {T : Type 0} → List ℕ → Result T Status → Type 0
Refuses file (Ok v) = Unit {0}
Refuses file (Err s) = IsRefusal file s

refusal-is : (file : List ℕ) (fault : DecompileFault) → IsRefusal file (refusal_of file fault)
refusal-is file (Image fault) = inr (OfImage fault, refl)
refusal-is file (Vag fault) = inr (OfVag fault, refl)
refusal-is file (WaveFault fault) = inr (OfIma fault, refl)
refusal-is file (Track fault) = inr (OfTrack fault, refl)
refusal-is file (TooMuch blocks) = inr (OfMuch blocks, refl)
refusal-is file NoMemory = inl refl

or_status-refuses : (file : List ℕ) (r : Result (List Recovered) DecompileFault) → Refuses file (or_status file r)
or_status-refuses file (Ok entries) = tt
or_status-refuses file (Err fault) = refusal-is file fault

by_length : (kind : Kind) (file front : List ℕ) (most : ℕ) (long : Bool) → Refuses file (cond long (Err (Input file (FileLong most))) (Ok front) >>= (λ bytes. or_status file (decompiled (form_of kind) bytes)))
by_length kind file front most true = inr (FileLong most, refl)
by_length kind file front most false = or_status-refuses file (decompiled (form_of kind) front)

pub entries-refuses : (kind : Kind) (file front : List ℕ) → Refuses file (entries_from kind file front)
unfolding entries_from whole_in
entries-refuses kind file front = by_length kind file front 8388608 (nat_lt 8388608 (length front))

-- what is refused is refused for want of memory, or as a fault of the file
refused_as : {T : Type 0} (P : Status → Type 0) (file : List ℕ) (read : Result T Status) (s : Status) → Refuses file read → (s ≡ Memory) ⊎ (read ≡ Err s) → P Memory → ((fault : InputFault) → P (Input file fault)) → P s
refused_as {T = T} P file read s h one memory input = elim one as (λ _. P s) [
  | inl e ↦ subst P (sym e) memory
  | inr e ↦
      let k : Refuses {T = T} file (Err s) = subst (Refuses {T = T} file) e h in elim k as (λ _. P s) [
        | inl none ↦ subst P (sym none) memory
        | inr fault ↦ subst P (sym fault.1) (input fault.0)
      ]
]

-- so it brings about no failed call
pub keeps_read : {X T : Type 0} (view : X → T) (a b : World) (file : List ℕ) (read : Result T Status) (r : Result X Status) → Refuses file read → a.faults ≤ b.faults → Gives Memory view r read → Keeps a b (status_of r)
keeps_read view a b file read (Ok v) h later one = record { later = later; device = λ e. cc; words = λ e. cc }
keeps_read view a b file read (Err s) h later one = record {
  later = later;
  device = refused_as (λ t. is_device t ≡ true → Rose a.faults b.faults) file read s h one (λ e. cc) (λ fault e. cc);
  words = refused_as (λ t. t ≢ Words) file read s h one (λ e. cc) (λ fault e. cc);
}

given_entries : {X T : Type 0} (view : X → T) (file : List ℕ) (read : Result T Status) (r : Result X Status) (a : World) → Refuses file read → Gives Memory view r read → Reads view (given read) a a r
given_entries view file read (Ok v) a k one = (decides (status_of read) a (ap status_of one), one)
given_entries {T = T} view file read (Err s) a k one = elim one as (λ _. Halts (as_reading (given read)) a a s) [
  | inl e ↦ given_halts read s a (inl e)
  | inr e ↦
      let is : IsRefusal file s = subst (Refuses {T = T} file) e k in elim is as (λ _. Halts (as_reading (given read)) a a s) [
        | inl none ↦ given_halts read s a (inl none)
        | inr fault ↦ given_halts read s a (inr (ap ending_of fault.1, e))
      ]
]

-- the file was fetched, and what it says decides
pub reads_entries : {X T : Type 0} (view : X → T) (file : List ℕ) (read : Result T Status) (r : Result X Status) (a b : World) → HasRead (fetched file) a b → Refuses file read → Gives Memory view r read → Reads view (fetched_for file read) a b r
reads_entries view file read r a b h k one = reads_on (fetched file) (as_reading (given read)) a b b r (λ v. read ≡ Ok (view v)) h (given_entries view file read r b k one)

-- its entries are stored and told
pub stores_entries : (files : Files) (kind : Kind) (file output : List ℕ) (entries : List Recovered) (made ws : List NamedFile) (told line : List ℕ) (a m b : World) (s : Status) → ws ≡ made → line ≡ told → HasRead (entries_reading files kind file) a m → entries_in files kind file ≡ Ok entries → IsDecompiled (Ok entries) output made told → Comes (writing ws line) m b s → Reaches (decompile_course files kind file output) (IsDecompiled (entries_in files kind file) output) a b s
stores_entries files kind file output entries made ws told line a m b s same_files same_lines h read is r =
    let may : IsDecompiled (entries_in files kind file) output ws line = record {
      entries = is.entries;
      entries_are = read ∙ is.entries_are;
      few = is.few;
      files = same_files ∙ is.files;
      told = same_lines ∙ is.told;
      kept = is.kept;
    } in
    let May = IsDecompiled (entries_in files kind file) output in
    then_reaches (entries_read files kind file) (λ es. written_under (names_in (entry_files output 0 es))) is.entries May a m b s (read ∙ is.entries_are) h
    (written May (names_in (entry_files output 0 is.entries)) ws line m b s may (ap names_in may.files) r)
