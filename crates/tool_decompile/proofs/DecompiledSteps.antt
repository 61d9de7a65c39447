-- What `decompile` has done, in its own words, over plain variables.
use Rattle.std.proofs.Common.{◌≡◌, ◌≤◌, ◌<◌, ℕ, ◌+◌, List, length, take, get_or, Bool, true, false, cond, nat_lt, refl, sym, ap, subst, ◌∙◌, arith, Option, Some, None, Result, Ok, Err}
use Rattle.std.proofs.lemmas.Bool.{ltb-false}
use Rattle.std.proofs.lemmas.List.{length-take, take_all}
use Rattle.std.proofs.lemmas.List.Elements.{All-get_or}
use Rattle.adpcm_nums.specs.Outcome.{Tells, ◌>>=◌}
use Rattle.host_files.specs.Outside.{World, Files, content_of, grown, raised}
use Rattle.wave_form.specs.Reading.{read_of}
use Rattle.machine_core.specs.declared.state.Kind.{Kind}
use Rattle.decompile_core.specs.declared.form.Form.{Form}
use Rattle.decompile_core.specs.declared.fault.DecompileFault.{DecompileFault}
use Rattle.decompile_core.specs.declared.recovered.Recovered.{Recovered}
use Rattle.decompile_core.specs.Decompiled.{decompiled}
use Rattle.decompile_core.specs.Heard.{IsHeard}
use Rattle.command_faults.specs.declared.status.Status.{Status}
use Rattle.command_faults.specs.declared.status.Status.TheVariants.{Input, Memory}
use Rattle.command_faults.specs.declared.input_fault.InputFault.TheVariants.{FileLong}
use Rattle.command_plan.specs.Plan.{names_in, all_stored}
use Rattle.command_plan.specs.Read.{written_under}
use Rattle.command_plan.specs.Reading.{status_of}
use Rattle.command_plan.specs.Promise.{Promises, Finishes}
use Rattle.command_plan.proofs.Kept.{kept_at}
use Rattle.command_plan.proofs.ReadOn.{then-count, then-outcome, written-count}
use Rattle.command_plan.proofs.Promised.{answers, done_is}
use Rattle.command_plan.specs.Front.{front_in}
use Rattle.command_plan.specs.Front.{whole_in}
use Rattle.tool_decompile.specs.Decompile.{form_of, or_status, entries_from, entries_read, entries_in, decompile_course, IsDecompiled, HasDecompiled, AnswersDecompile}
use Rattle.tool_decompile.specs.EntryFiles.{entry_file, entry_files, entry_name, IsKept}
use Rattle.tool_decompile.proofs.FrontSteps.{front_set}
use Rattle.tool_decompile.proofs.EntryNames.{file_at, names_count, names_distinct}

-- what was decompiled, where nothing is refused
or_status-is : (file : List ℕ) (r : Result (List Recovered) DecompileFault) (entries : List Recovered) → or_status file r ≡ Ok entries → r ≡ Ok entries
or_status-is file (Ok found) entries e = let same : found ≡ entries = cc in ap Ok same
or_status-is file (Err fault) entries e = cc

-- a front that is not too long is the file
by_length : (kind : Kind) (file front : List ℕ) (most : ℕ) (long : Bool) (entries : List Recovered) → cond long (Err (Input file (FileLong most))) (Ok front) >>= (λ bytes. or_status file (decompiled (form_of kind) bytes)) ≡ Ok entries → (long ≡ false) × (decompiled (form_of kind) front ≡ Ok entries)
by_length kind file front most true entries e = cc
by_length kind file front most false entries e = (refl, or_status-is file (decompiled (form_of kind) front) entries e)

from_front : (kind : Kind) (file front : List ℕ) (entries : List Recovered) → entries_from kind file front ≡ Ok entries → (nat_lt 8388608 (length front) ≡ false) × (decompiled (form_of kind) front ≡ Ok entries)
unfolding entries_from whole_in
from_front kind file front entries e = by_length kind file front 8388608 (nat_lt 8388608 (length front)) entries e

short_front : (n : ℕ) (bytes : List ℕ) → nat_lt n (length (take (n + 1) bytes)) ≡ false → take (n + 1) bytes ≡ bytes
short_front n bytes e =
    let short : length (take (n + 1) bytes) ≤ n = ltb-false n (length (take (n + 1) bytes)) e in
    let size = length-take (n + 1) bytes in
    take_all (n + 1) bytes (omega (arith, short, size))

whole : (files : Files) (file : List ℕ) → nat_lt 8388608 (length (front_in files file 8388608)) ≡ false → front_in files file 8388608 ≡ content_of files file
unfolding front_in
whole files file e = short_front 8388608 (content_of files file) e

from_file : (files : Files) (kind : Kind) (file : List ℕ) (entries : List Recovered) → entries_in files kind file ≡ Ok entries → decompiled (form_of kind) (content_of files file) ≡ Ok entries
from_file files kind file entries e =
    let got = from_front kind file (front_in files file 8388608) entries e in
    subst (λ (bytes : List ℕ). decompiled (form_of kind) bytes ≡ Ok entries) (whole files file got.0) got.1

-- the calls of a run that ends well
calls_are : (files : Files) (kind : Kind) (file output : List ℕ) (entries : List Recovered) → entries_in files kind file ≡ Ok entries → length (decompile_course files kind file output).calls ≡ 1 + length entries + 1
calls_are files kind file output entries e =
    let names = names_in (entry_files output 0 entries) in
    let all = then-count (entries_read files kind file) (λ es. written_under (names_in (entry_files output 0 es))) entries e in
    omega (arith, all, written-count names, names_count output entries)

-- how entries sound
abbrev pub Sounds : Type 0
Sounds = (form : Form) (bytes : List ℕ) (entries : List Recovered) (j : ℕ) (other : Recovered) → decompiled form bytes ≡ Ok entries → j < length entries → IsHeard form bytes j (get_or entries j other)

-- what was done at `Done`
has_decompiled : (held : Files) (kind : Kind) (file output : List ℕ) (a b : World) → a.files ≡ Some held → Sounds → Finishes (decompile_course held kind file output) (IsDecompiled (entries_in held kind file) output) a b → HasDecompiled held kind file output a b
has_decompiled held kind file output a b told sounds f =
    let entries = f.may.entries in
    let are : decompiled (form_of kind) (content_of held file) ≡ Ok entries = from_file held kind file entries f.may.entries_are in
    let files : b.files ≡ all_stored a.files (entry_files output 0 entries) = f.files ∙ ap (all_stored a.files) f.may.files in
    record {
      entries = entries;
      entries_are = are;
      files = files;
      said = f.said ∙ ap (grown a.said) f.may.told;
      calls = f.calls ∙ ap (λ n. raised n a.calls) (calls_are held kind file output entries f.may.entries_are);
      kept = λ after is j other h.
          let one : content_of after (entry_name output j) ≡ (entry_file output j (get_or entries j other)).bytes =
          kept_at held after (entry_files output 0 entries) j (entry_file output j (get_or entries j other)) (names_distinct output entries f.may.few) (file_at output entries j other h)
          (sym (files ∙ ap (λ (o : Option Files). all_stored o (entry_files output 0 entries)) told) ∙ is) in
          let read : IsKept (get_or entries j other) = All-get_or IsKept entries j other h f.may.kept in
          record {
            file = one;
            sound = record { sampler = read.sampler; sound = ap (λ bytes. read_of bytes None) one ∙ read.sound; loop_is = read.loop_is };
            heard = sounds (form_of kind) (content_of held file) entries j other are h;
          };
    }

-- what the promise says in the command's own words
pub answers_decompile : (held : Files) (kind : Kind) (file output : List ℕ) (a b : World) (r : Status) → a.files ≡ Some held → Sounds → Promises (decompile_course held kind file output) (IsDecompiled (entries_in held kind file) output) a b r → AnswersDecompile held kind file output a b r
answers_decompile held kind file output a b r told sounds h =
    let course = decompile_course held kind file output in
    let choice = IsDecompiled (entries_in held kind file) output in
    let is : course.outcome ≡ status_of (entries_in held kind file) = then-outcome (entries_read held kind file) (λ es. written_under (names_in (entry_files output 0 es))) (λ es. refl) in
    record {
      done = λ e. has_decompiled held kind file output a b told sounds (done_is course choice a b r h e);
      outcome = λ calm. subst (λ (s : Status). Tells Memory r s) is (answers course choice a b r h calm);
      front = front_set course (entries_in held kind file) output a b r h;
    }
