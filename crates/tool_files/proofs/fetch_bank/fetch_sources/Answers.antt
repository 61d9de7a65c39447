use Rattle.std.proofs.Common.{◌≡◌, ℕ, ap}
use Rattle.std.proofs.lemmas.Result.{err_from_is_err_and}
use Rattle.loop_fit.specs.declared.rule.FitRule.{FitRule}
use Rattle.manifest_reader.specs.Meaning.{content_of}
use Rattle.tool_files.specs.Source.{rule_of}
use Rattle.tool_files.proofs.RoomSteps.{sources_refused, sources_tested}
use Rattle.tool_files.proofs.SourceSteps.{align_is, block_of, ready_all, ready_kept}
use Rattle.tool_files.proofs.fetch_bank.fetch_sources.Goals as goal

pub samples_in_block-requires : goal.samples_in_block-requires
samples_in_block-requires g c = align_is c.args.manifest.now.block c.requires.ranges.block

pub fetch_each-requires-clause-block : goal.fetch_each-requires-clause-block
fetch_each-requires-clause-block g c = block_of c.args.manifest.now.kind c.args.manifest.now.block c.samples_in_block.result c.requires.ranges.block c.samples_in_block.ensures.value

pub returns-in_err-sources-clause-told : goal.returns-in_err-sources-clause-told
returns-in_err-sources-clause-told g c = λ files told.
    let p = err_from_is_err_and c.from_residual.result c.from_residual.ensures.1 in
    let m = content_of c.args.manifest.now in
    let with : ℕ → FitRule = λ n. record { kind = m.kind; block = n; length = m.length; start = m.start } in
    let ruled : with c.samples_in_block.result ≡ rule_of m = ap with c.samples_in_block.ensures.value in
    rw (p.1, p.2) (
    sources_refused files m (with c.samples_in_block.result) c.as_slice.result.now (g.H.Host.world c.args.host.now) (g.H.Host.world c.fetch_each.new.host) c.in_err-sources.field-0.0 ruled c.as_slice.ensures.value (c.in_err-sources.ensures.told files told))

pub returns-clause-ready : goal.returns-clause-ready
returns-clause-ready g c =
    let m = content_of c.args.manifest.now in
    let rule : FitRule = record { kind = m.kind; block = c.samples_in_block.result; length = m.length; start = m.start } in
    ready_kept (λ v. v.items) c.in_ok-sources.sources c.with_room.result m.kind m.block
    (ready_all rule m.block c.in_ok-sources.sources.items c.samples_in_block.ensures.value c.in_ok-sources.ensures.ready) c.with_room.ensures.same

pub returns-clause-told : goal.returns-clause-told
returns-clause-told g c = λ files told.
    let m = content_of c.args.manifest.now in
    let with : ℕ → FitRule = λ n. record { kind = m.kind; block = n; length = m.length; start = m.start } in
    let ruled : with c.samples_in_block.result ≡ rule_of m = ap with c.samples_in_block.ensures.value in
    let got = c.in_ok-sources.ensures.told files told in
    sources_tested (λ v. v.items) files m (with c.samples_in_block.result) c.as_slice.result.now c.as_str.result.now c.in_ok-sources.sources c.with_room.result (g.H.Host.world c.args.host.now) (g.H.Host.world c.fetch_each.new.host)
    ruled c.as_slice.ensures.value c.as_str.ensures got.0 got.1 c.with_room.ensures.value
