-- The files and lines of the entries of a file, one after another.
use Rattle.std.proofs.Common.{◌≡◌, ℕ, ℤ, ◌^◌, Result, Ok, Err, Option, Some, None, IfOk, IfSome, ◌<◌, ◌≤◌, ◌+◌, List, [], ◌∷◌, ◌++◌, length, drop, take, get_or, refl, sym, ap, subst, ◌∙◌, arith, add-one, All}
use Rattle.std.proofs.lemmas.List.{drop_more, append_assoc, append-nil}
use Rattle.std.proofs.lemmas.List.Elements.{All-more}
use Rattle.adpcm_nums.specs.Sample.{AreSamples}
use Rattle.adpcm_nums.specs.declared.loop_at.LoopAt.{LoopAt}
use Rattle.smpl_loops.specs.Loops.{first_loop_of}
use Rattle.smpl_loops.specs.Sampler.{sampler_of}
use Rattle.wave_form.specs.Reading.{read_of}
use Rattle.wave_form.specs.Written.{wave_loop_file}
use Rattle.host_files.specs.declared.named_file.NamedFile.{NamedFile}
use Rattle.decompile_core.specs.declared.recovered.Recovered.{Recovered}
use Rattle.decompile_core.specs.Recovered.{IsEntry}
use Rattle.tool_decompile.specs.EntryFiles.{entry_file, entry_files, IsKept, sound_file}
use Rattle.tool_decompile.specs.EntryLines.{entry_line, entry_lines}

-- the entries from number i on
left_at : (entries : List Recovered) (i : ℕ) (entry : Recovered) → i < length entries → entry ≡ get_or entries i entry → drop i entries ≡ entry ∷ drop (i + 1) entries
left_at entries i entry h is = drop_more entries i entry h ∙ ap (λ e. e ∷ drop (i + 1) entries) (sym is)

lines_next : (i : ℕ) (entry : Recovered) (rest : List Recovered) → entry_lines i (entry ∷ rest) ≡ entry_line i entry ++ entry_lines (i + 1) rest
unfolding entry_lines
lines_next i entry rest = ap (λ n. entry_line i entry ++ entry_lines n rest) (sym (add-one i))

files_next : (output : List ℕ) (i : ℕ) (entry : Recovered) (rest : List Recovered) → entry_files output i (entry ∷ rest) ≡ entry_file output i entry ∷ entry_files output (i + 1) rest
unfolding entry_files
files_next output i entry rest = ap (λ n. entry_file output i entry ∷ entry_files output n rest) (sym (add-one i))

lines_last : (i : ℕ) → entry_lines i [] ≡ []
unfolding entry_lines
lines_last i = refl

files_last : (output : List ℕ) (i : ℕ) → entry_files output i [] ≡ []
unfolding entry_files
files_last output i = refl

-- one line more, and one fewer that is still to be written
pub lines_more : (lines new all : List ℕ) (entries : List Recovered) (i : ℕ) (entry : Recovered) → i < length entries → entry ≡ get_or entries i entry → lines ++ entry_lines i (drop i entries) ≡ all → new ≡ lines ++ entry_line i entry → new ++ entry_lines (i + 1) (drop (i + 1) entries) ≡ all
lines_more lines new all entries i entry h is left grown =
    ap (λ xs. xs ++ entry_lines (i + 1) (drop (i + 1) entries)) grown
    ∙ append_assoc lines (entry_line i entry) (entry_lines (i + 1) (drop (i + 1) entries))
    ∙ ap (λ xs. lines ++ xs) (sym (ap (entry_lines i) (left_at entries i entry h is) ∙ lines_next i entry (drop (i + 1) entries)))
    ∙ left

-- none is left
pub lines_all : (lines all : List ℕ) (entries : List Recovered) (i : ℕ) → drop i entries ≡ [] → lines ++ entry_lines i (drop i entries) ≡ all → lines ≡ all
lines_all lines all entries i end left = sym (append-nil lines) ∙ ap (λ xs. lines ++ xs) (sym (ap (entry_lines i) end ∙ lines_last i)) ∙ left

-- the same of the files
pub files_more : (output : List ℕ) (files new all : List NamedFile) (file : NamedFile) (entries : List Recovered) (i : ℕ) (entry : Recovered) → i < length entries → entry ≡ get_or entries i entry → files ++ entry_files output i (drop i entries) ≡ all → file ≡ entry_file output i entry → new ≡ files ++ file ∷ [] → new ++ entry_files output (i + 1) (drop (i + 1) entries) ≡ all
files_more output files new all file entries i entry h is left made grown =
    ap (λ xs. xs ++ entry_files output (i + 1) (drop (i + 1) entries)) (grown ∙ ap (λ f. files ++ f ∷ []) made)
    ∙ append_assoc files (entry_file output i entry ∷ []) (entry_files output (i + 1) (drop (i + 1) entries))
    ∙ ap (λ xs. files ++ xs) (sym (ap (entry_files output i) (left_at entries i entry h is) ∙ files_next output i entry (drop (i + 1) entries)))
    ∙ left

pub files_all : (output : List ℕ) (files all : List NamedFile) (entries : List Recovered) (i : ℕ) → drop i entries ≡ [] → files ++ entry_files output i (drop i entries) ≡ all → files ≡ all
files_all output files all entries i end left = sym (append-nil files) ∙ ap (λ xs. files ++ xs) (sym (ap (entry_files output i) end ∙ files_last output i)) ∙ left

-- what holds of the files so far holds of one more
pub kept_more : (entries : List Recovered) (i : ℕ) (entry : Recovered) → i < length entries → entry ≡ get_or entries i entry → All IsKept (take i entries) → IsKept entry → All IsKept (take (i + 1) entries)
kept_more entries i entry h is before here = All-more IsKept entries i entry h before (subst IsKept is here)

-- how the file of an entry with a loop is read
abbrev pub ReadsSound : Type 0
ReadsSound = (rate : ℕ) (samples : List ℤ) (at : LoopAt) → 1 ≤ rate → rate ≤ 1000000 → length samples ≤ 2 ^ 24 → AreSamples samples
    → read_of (wave_loop_file rate samples at) None ≡ Ok (record { rate = rate; samples = samples; sampler = Some (sampler_of rate at) })

abbrev pub ReadsLoop : Type 0
ReadsLoop = (rate frames : ℕ) (at : LoopAt) → at.start ≤ at.end → at.end < frames → frames < 2 ^ 32 → first_loop_of (Some (sampler_of rate at)) frames ≡ Ok (Some at)

kept_with : (entry : Recovered) (at : LoopAt) → entry.loop_at ≡ Some at → IsEntry entry → AreSamples entry.samples → ReadsSound → ReadsLoop → IsKept entry
kept_with entry at e is range sound_law loop_law =
    let forward : at.start ≤ at.end = subst (λ (p : Option LoopAt). IfSome p (λ (x : LoopAt). x.start ≤ x.end)) e is.forward in
    let inside : at.end < length entry.samples = subst (λ (p : Option LoopAt). IfSome p (λ (x : LoopAt). x.end < length entry.samples)) e is.inside in
    record {
      sampler = Some (sampler_of entry.rate at);
      sound = ap (λ (p : Option LoopAt). read_of (sound_file entry.rate entry.samples p) None) e ∙ sound_law entry.rate entry.samples at is.some_rate is.low_rate is.few range;
      loop_is = loop_law entry.rate (length entry.samples) at forward inside (omega (arith, is.few)) ∙ ap Ok (sym e);
    }

for_each_answer : {X E : Type 0} (P : Type 0) (r : Result X E) → P → IfOk r (λ x. P)
for_each_answer P (Ok x) p = p
for_each_answer P (Err e) p = tt

pub kept_loop : {X E : Type 0} (r : Result X E) (entry : Recovered) (at : LoopAt) → entry.loop_at ≡ Some at → IsEntry entry → AreSamples entry.samples → ReadsSound → ReadsLoop → IfOk r (λ x. IsKept entry)
kept_loop r entry at e is range sound_law loop_law = for_each_answer (IsKept entry) r (kept_with entry at e is range sound_law loop_law)
