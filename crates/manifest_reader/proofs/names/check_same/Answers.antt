use Rattle.std.proofs.Common.{inr, Err, sym, ap, ◌∙◌, take}
use Rattle.std.proofs.lemmas.List.{drop_all}
use Rattle.manifest_reader.specs.declared.fault.ManifestFault.TheVariants.{SameName}
use Rattle.manifest_reader.proofs.Apart.{distinct_from_check}
use Rattle.manifest_reader.proofs.NameLaws.{entries_at, seen_at, names_on, names_stop, names_end}
use Rattle.manifest_reader.proofs.names.check_same.Goals as goal

pub returns-then-stands_in-clause-value : goal.returns-then-stands_in-clause-value
returns-then-stands_in-clause-value c =
    let left = entries_at c.args.samples.now c.loop-i.i c.index-samples-i.result c.index-samples-i.is c.loop-i-test.true in
    let here = c.as_str-name.ensures ∙ ap (λ s. s.name) (sym c.index-samples-i.is) in
    let stops = names_stop (take c.loop-i.i c.args.samples.now) _ _ _ c.index-samples-i.result _ left here (sym c.if-stands_in.true ∙ c.stands_in.ensures) c.loop-i.invariant in
    inr (stops ∙ ap (λ n. Err (SameName n)) (sym c.in_ok-copy_of.ensures))

pub loop-i-preserved : goal.loop-i-preserved
loop-i-preserved c =
    let left = entries_at c.args.samples.now c.loop-i.i c.index-samples-i.result c.index-samples-i.is c.loop-i-test.true in
    let then = seen_at c.args.samples.now c.loop-i.i c.index-samples-i.result c.index-samples-i.is c.loop-i-test.true in
    let here = c.as_str-name.ensures ∙ ap (λ s. s.name) (sym c.index-samples-i.is) in
    names_on (take c.loop-i.i c.args.samples.now) _ _ _ _ c.index-samples-i.result _ left then here (sym c.if-stands_in.false ∙ c.stands_in.ensures) c.loop-i.invariant

pub returns-clause-distinct : goal.returns-clause-distinct
returns-clause-distinct c = distinct_from_check _ (names_end _ _ _ (drop_all c.loop-i.i c.args.samples.now c.loop-i-test.false) c.loop-i.invariant)

pub returns-clause-value : goal.returns-clause-value
returns-clause-value c = names_end _ _ _ (drop_all c.loop-i.i c.args.samples.now c.loop-i-test.false) c.loop-i.invariant
