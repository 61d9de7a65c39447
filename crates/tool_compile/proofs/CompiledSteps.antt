-- What `compile` has done, in its own words, over plain variables.
use Rattle.std.proofs.Common.{◌≡◌, ℕ, ◌+◌, List, length, refl, sym, ap, ◌∙◌, arith, Option, Some, Ok}
use Rattle.host_files.specs.Outside.{World, Files, raised}
use Rattle.manifest_reader.specs.Meaning.{Content}
use Rattle.command_faults.specs.declared.status.Status.{Status}
use Rattle.command_plan.specs.Plan.{all_stored}
use Rattle.command_plan.specs.Read.{written_under}
use Rattle.command_plan.specs.Promise.{Promises, Finishes}
use Rattle.command_plan.proofs.ReadOn.{then-count, then-gave, all-count, written-count}
use Rattle.command_plan.proofs.Promised.{answers, done_is}
use Rattle.tool_files.specs.declared.source.Source.{Source}
use Rattle.tool_files.specs.Source.{rule_of}
use Rattle.tool_files.specs.Sources.{manifest_read, source_read, each_read, sources_read}
use Rattle.tool_compile.specs.Compile.{bank_names, bank_course, compile_course, MayStore}
use Rattle.tool_compile.specs.Compiled.{HasCompiled, AnswersCompile}
use Rattle.tool_files.proofs.RoomSteps.{room_for}

-- the calls of a run that ends well: the manifest, each source, each of the bank's files, and the report
compile_calls : (files : Files) (manifest : List ℕ) (m : Content) (sources : List Source) → (manifest_read files manifest).gives ≡ Ok m → (sources_read files m).gives ≡ Ok sources → length (compile_course files manifest).calls ≡ 1 + length m.samples + length (bank_names m) + 1
compile_calls files manifest m sources meaning read =
    let each = each_read files (rule_of m) m.samples in
    let first = then-gave each (room_for m) sources read in
    let all = then-count (manifest_read files manifest) (bank_course files) m meaning in
    let bank = then-count (sources_read files m) (λ ss. written_under (bank_names m)) sources read in
    let tested = then-count each (room_for m) first.0 first.1 in
    let fetched = all-count (λ j entry. source_read files (rule_of m) entry) 0 m.samples first.0 (λ j entry. refl) first.1 in
    omega (arith, all, bank, tested, fetched, written-count (bank_names m))

-- what was done at `Done`
has_compiled : (held : Files) (manifest : List ℕ) (a b : World) → a.files ≡ Some held → Finishes (compile_course held manifest) (MayStore held manifest) a b → HasCompiled held manifest a b
has_compiled held manifest a b told f = record {
  content = f.may.content;
  meaning = f.may.meaning;
  sources = f.may.sources;
  read = f.may.read;
  writes = f.writes;
  line = f.line;
  bank = f.may.bank;
  files = f.files;
  said = f.said;
  kept = λ after is. f.may.bank.stored held after (sym (f.files ∙ ap (λ (o : Option Files). all_stored o f.writes) told) ∙ is);
  calls = f.calls ∙ ap (λ n. raised n a.calls) (compile_calls held manifest f.may.content f.may.sources f.may.meaning f.may.read);
}

-- what the promise says in the command's own words
pub answers_compile : (held : Files) (manifest : List ℕ) (a b : World) (r : Status) → a.files ≡ Some held → Promises (compile_course held manifest) (MayStore held manifest) a b r → AnswersCompile held manifest a b r
answers_compile held manifest a b r told h =
    let course = compile_course held manifest in record {
      done = λ e. has_compiled held manifest a b told (done_is course (MayStore held manifest) a b r h e);
      outcome = λ calm. answers course (MayStore held manifest) a b r h calm;
    }
