use Rattle.std.proofs.Common.{inr, Err, sym, ap, ◌∙◌}
use Rattle.std.proofs.lemmas.List.{drop_all}
use Rattle.manifest_reader.specs.declared.fault.ManifestFault.TheVariants.{Clash}
use Rattle.manifest_reader.proofs.Apart.{apart_from_check}
use Rattle.manifest_reader.proofs.NameLaws.{entries_at, clash_on, clash_stops, clash_own, clash_ends}
use Rattle.manifest_reader.proofs.names.check_clash.Goals as goal

pub returns-then-is_stored-clause-value : goal.returns-then-is_stored-clause-value
returns-then-is_stored-clause-value c =
    let left = entries_at c.args.samples.now c.loop-sample.sample-index c.sample-item.result c.sample-item.is c.loop-sample-test.true in
    let stops = clash_stops c.args.stored.now c.args.own.now _ _ _ c.sample-item.result _ left c.as_str-file.ensures (sym c.if-is_stored.true ∙ c.is_stored.ensures) c.loop-sample.invariant in
    inr (stops ∙ ap (λ f. Err (Clash f)) (sym c.in_ok-copy_of.ensures))

pub loop-sample-preserved : goal.loop-sample-preserved
loop-sample-preserved c =
    let left = entries_at c.args.samples.now c.loop-sample.sample-index c.sample-item.result c.sample-item.is c.loop-sample-test.true in
    clash_on c.args.stored.now c.args.own.now _ _ _ c.sample-item.result _ left c.as_str-file.ensures (sym c.if-is_stored.false ∙ c.is_stored.ensures) c.loop-sample.invariant

pub returns-then-is_stored-2-clause-value : goal.returns-then-is_stored-2-clause-value
returns-then-is_stored-2-clause-value c =
    let stops = clash_own c.args.stored.now c.args.own.now _ _ (drop_all c.loop-sample.sample-index c.args.samples.now c.loop-sample-test.false) (sym c.if-is_stored-2.true ∙ c.is_stored-2.ensures) c.loop-sample.invariant in
    inr (stops ∙ ap (λ f. Err (Clash f)) (sym c.in_ok-copy_of-2.ensures))

pub returns-clause-apart : goal.returns-clause-apart
returns-clause-apart c = apart_from_check _ _ _ (clash_ends c.args.stored.now c.args.own.now _ _ (drop_all c.loop-sample.sample-index c.args.samples.now c.loop-sample-test.false) (sym c.if-is_stored-2.false ∙ c.is_stored-2.ensures) c.loop-sample.invariant)

pub returns-clause-value : goal.returns-clause-value
returns-clause-value c = clash_ends c.args.stored.now c.args.own.now _ _ (drop_all c.loop-sample.sample-index c.args.samples.now c.loop-sample-test.false) (sym c.if-is_stored-2.false ∙ c.is_stored-2.ensures) c.loop-sample.invariant
