use Rattle.std.proofs.Common.{rules, ◌≡◌, ◌≤◌, ap, sym, subst, ◌∙◌, List, ℕ, arith, length, Ok}
use Rattle.std.specs.List.{IsDistinct}
use Rattle.std.specs.Str.{bytes_eq}
use Rattle.host_files.specs.Outside.{content_of}
use Rattle.bank_kinds.specs.Kinds.{codec_for}
use Rattle.bank_compile.specs.declared.sample.SampleOut.{SampleOut}
use Rattle.manifest_reader.specs.Meaning.{content_of as content}
use Rattle.bank_compile.specs.Bank.{bank_of}
use Rattle.bank_compile.specs.Told.{report_text}
use Rattle.manifest_reader.specs.Stored.{cert_name_of}
use Rattle.command_plan.specs.Plan.{names_in}
use Rattle.tool_compile.specs.Compile.{bank_names, effort_of, IsMadeOf}
use Rattle.tool_files.specs.Ready.{IsReady}
use Rattle.tool_compile.proofs.BankSteps.{zip_at, all_at, bank-files, names_stored, few_files, files_held, stored_sample}
use Rattle.tool_compile.proofs.form_bank.form_bank.Goals as goal

-- there are few files
pub overflow_cast-len : goal.overflow_cast-len
overflow_cast-len c =
    let m = content c.args.manifest.now in
    let outs = c.in_ok-outs.outs.items in
    let writes = c.in-Ok.files.items in
    let stored : bank_of m.kind m.block m.bank m.base outs ≡ Ok writes = ap (λ (os : List SampleOut). bank_of m.kind m.block m.bank m.base os) (sym c.as_slice.ensures.value) ∙ c.in-Ok.ensures in
    let few : length outs ≤ 64 = omega (arith, c.in_ok-outs.ensures.count, c.requires.few) in
    let count : c.len.result ≡ length writes = search rules in
    let small = few_files m outs writes (bank-files m outs writes stored) in
    omega (arith, few, count, small)

pub returns : goal.returns
returns c =
    let m = content c.args.manifest.now in
    let sources = c.args.sources.items in
    let outs = c.in_ok-outs.outs.items in
    let writes = c.in-Ok.files.items in
    let made = c.in_ok-outs.ensures.made in
    let stored : bank_of m.kind m.block m.bank m.base outs ≡ Ok writes = ap (λ (os : List SampleOut). bank_of m.kind m.block m.bank m.base os) (sym c.as_slice.ensures.value) ∙ c.in-Ok.ensures in
    let few : length outs ≤ 64 = omega (arith, c.in_ok-outs.ensures.count, c.requires.few) in
    let count : c.len.result ≡ length writes = search rules in
    let files = bank-files m outs writes stored in
    let names : names_in writes ≡ bank_names m = names_stored m sources outs writes c.requires.named made files in
    let once : IsDistinct bytes_eq (names_in writes) = subst (λ (ns : List (List ℕ)). IsDistinct bytes_eq ns) (sym names) c.requires.once in
    record {
      outs = outs;
      made = made;
      files = stored;
      names = names;
      once = once;
      told = c.in_ok-line.ensures ∙ (ap (λ (os : List SampleOut). report_text os c.len.result) c.as_slice-2.ensures.value ∙ ap (report_text outs) count);
      stored = λ before after set j source out s o.
          let is = zip_at (IsMadeOf m) sources outs j source out made s o in
          let ready = all_at (IsReady m.kind m.block) sources j source c.requires.ready s in
          let laws = c.kinds_encode.ensures m.kind m.block c.requires.block in
          let held = files_held before after writes once set in
          let certified = c.stored_bank_replays.ensures.certified m.kind m.block (content_of after) m.bank m.base outs writes j out (effort_of m) source.name source.rate source.fitted
          c.requires.block c.in_ok-outs.ensures.outs stored held o is.compiled in
          stored_sample m (content_of after) j source out is
          (c.stored_bank_replays.ensures.replays m.kind m.block (content_of after) m.bank m.base outs writes j out (effort_of m) source.name source.rate source.fitted
          c.requires.block few c.in_ok-outs.ensures.outs stored held o is.compiled)
          certified (c.certified_bounds_hold.ensures (codec_for m.kind m.block) source.fitted (content_of after (cert_name_of m.bank source.name)) out.report.bound out.report.levels laws ready.fit certified);
    }
