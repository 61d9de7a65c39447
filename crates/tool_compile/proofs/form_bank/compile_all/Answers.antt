use Rattle.std.proofs.Common.{◌≡◌, ◌≤◌, rules, List, sym, subst, ◌∙◌, length, All, ◌++◌, ◌∷◌, []}
use Rattle.std.specs.List.{AllZip}
use Rattle.std.specs.Vec.{vec_len}
use Rattle.std.proofs.lemmas.List.Elements.{All-push}
use Rattle.std.proofs.lemmas.Iterator.Adapters.{YieldsList-from_vec}
use Rattle.std.proofs.lemmas.Iterator.Consumers.{YieldsList-end, YieldsList-turn}
use Rattle.bank_kinds.specs.Kinds.{codec_for}
use Rattle.bank_compile.specs.declared.sample.SampleOut.{SampleOut}
use Rattle.bank_compile.specs.Bank.{IsOut}
use Rattle.tool_files.specs.declared.source.Source.{Source}
use Rattle.tool_files.specs.Ready.{IsReady}
use Rattle.manifest_reader.specs.Meaning.{content_of}
use Rattle.tool_compile.specs.Compile.{IsMadeOf}
use Rattle.tool_files.proofs.SourceSteps.{zip_none, zip_push, map_same, zip_length, all_none}
use Rattle.tool_compile.proofs.form_bank.compile_all.Goals as goal

pub compile_source-requires-clause-ready : goal.compile_source-requires-clause-ready
compile_source-requires-clause-ready c =
    let gives = c.into_iter-source-iterator.ensures.into_iter_gives in
    let count : vec_len c.args.sources ≡ length c.args.sources.items = search rules in
    let turn = YieldsList-turn (YieldsList-from_vec c.args.sources.items gives.0 (gives.1 ∙ count)) c.loop-source.yielded c.loop-source.source-iterator c.loop-source.yielded_by c.next.result c.next.new.self c.in-Some.source c.in-Some.is c.next.ensures.steps in
    subst (λ (s : Source). IsReady c.args.manifest.now.kind c.args.manifest.now.block s) (sym turn.1) (c.requires.ready (length c.loop-source.yielded) c.in-Some.source turn.0)

pub loop-source-init : goal.loop-source-init
loop-source-init c = record {
  made = zip_none (IsMadeOf (content_of c.args.manifest.now)) c.new-outs.result.items c.new-outs.ensures.items;
  outs = all_none (IsOut (codec_for c.args.manifest.now.kind c.args.manifest.now.block)) c.new-outs.result.items c.new-outs.ensures.items;
  bounds = all_none (λ (out : SampleOut). out.report.bound ≤ out.report.error) c.new-outs.result.items c.new-outs.ensures.items;
}

pub loop-source-preserved : goal.loop-source-preserved
loop-source-preserved c = record {
  made = subst (λ (os : List SampleOut). AllZip (IsMadeOf (content_of c.args.manifest.now)) (c.loop-source.yielded ++ c.in-Some.source ∷ []) os) (sym c.in-Ok.ensures.items)
      (zip_push (IsMadeOf (content_of c.args.manifest.now)) c.loop-source.yielded c.loop-source.outs.items c.in-Some.source c.in_ok-out.out c.loop-source.invariant.made c.in_ok-out.ensures.made);
  outs = subst (λ (os : List SampleOut). All (IsOut (codec_for c.args.manifest.now.kind c.args.manifest.now.block)) os) (sym c.in-Ok.ensures.items) (All-push (IsOut (codec_for c.args.manifest.now.kind c.args.manifest.now.block)) c.loop-source.outs.items c.in_ok-out.out c.loop-source.invariant.outs c.in_ok-out.ensures.out);
  bounds = subst (λ (os : List SampleOut). All (λ (out : SampleOut). out.report.bound ≤ out.report.error) os) (sym c.in-Ok.ensures.items)
      (All-push (λ (out : SampleOut). out.report.bound ≤ out.report.error) c.loop-source.outs.items c.in_ok-out.out c.loop-source.invariant.bounds c.in_ok-out.ensures.bound);
}

pub returns : goal.returns
returns c =
    let gives = c.into_iter-source-iterator.ensures.into_iter_gives in
    let count : vec_len c.args.sources ≡ length c.args.sources.items = search rules in
    let end = YieldsList-end (YieldsList-from_vec c.args.sources.items gives.0 (gives.1 ∙ count)) c.loop-source.yielded c.loop-source.source-iterator c.loop-source.yielded_by c.next.result c.next.new.self c.in-None.is c.next.ensures.steps in
    let all : c.loop-source.yielded ≡ c.args.sources.items = map_same c.loop-source.yielded ∙ end.0 in
    let made = subst (λ (ss : List Source). AllZip (IsMadeOf (content_of c.args.manifest.now)) ss c.loop-source.outs.items) all c.loop-source.invariant.made in
    record {
      count = zip_length (IsMadeOf (content_of c.args.manifest.now)) c.args.sources.items c.loop-source.outs.items made;
      made = made;
      outs = c.loop-source.invariant.outs;
      bounds = c.loop-source.invariant.bounds;
    }
