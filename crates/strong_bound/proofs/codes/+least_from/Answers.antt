use Rattle.std.proofs.Common.{arith, ◌≡◌, ◌<◌, ◌+◌, ◌∙◌, ap, get_or, to_z, of_z, w32}
use Rattle.std.proofs.lemmas.Int.{ints}
use Rattle.std.specs.Prelude.{ℤ, pos}
use Rattle.adpcm_nums.specs.Sample.{IsSample}
use Rattle.machine_core.specs.Decoder.{cost_of}
use Rattle.strong_bound.proofs.SymbolCounts.{first-none, first-more, first-all, rest-under, steps-to, under-more}
use Rattle.strong_bound.proofs.codes.+least_from.Goals.{then-saturating_add-least, else-saturating_add-least}
use Rattle.strong_bound.proofs.codes.+least_from.Goals as goal

pub returns-then-nodes-eq0-clause-under : goal.returns-then-nodes-eq0-clause-under
returns-then-nodes-eq0-clause-under g t c =
    rest-under (g.M.Machine.rules c.args.machine.now).decoder c.args.targets.now c.args.twice c.args.head c.args.rests.now c.args.place c.args.from c.args.paid c.min.result c.requires.rests c.requires.place c.requires.from
    (omega (arith, c.min.ensures, c.saturating_add.ensures))

pub loop-code-init : goal.loop-code-init
loop-code-init g t c = record {
  most = omega arith;
  under = first-none (g.M.Machine.rules c.args.machine.now).decoder c.args.targets.now c.args.twice c.args.head c.args.place c.args.from c.args.paid c.args.top;
}

pub loop-code-preserved : goal.loop-code-preserved
loop-code-preserved g t c =
    let d = (g.M.Machine.rules c.args.machine.now).decoder in
    let place = c.args.place in
    let next = c.step-next.result in
    let counted = c.counted_with-counted.result in
    let old = c.loop-code.invariant in
    let within : place < d.samples = omega (arith, c.requires.place, c.if-place-block_samples.false, c.block_samples.ensures) in
    let target : IsSample (get_or c.args.targets.now place (pos 0)) = c.requires.targets place (pos 0) (omega (arith, within, c.requires.count)) in
    let same : to_z w32 (of_z w32 (get_or c.args.targets.now place (pos 0))) ≡ get_or c.args.targets.now place (pos 0) = omega (arith, ints, target.low, target.high) in
    let costs = c.cost-cost.ensures ∙ ap (λ (z : ℤ). cost_of d next z) same in
    let fits = steps-to (g.M.Machine.rules c.args.machine.now) (g.met.M.Machine.lawful c.args.machine.now) c.args.head place c.loop-code.code c.args.from next c.step-next.ensures c.requires.head within (omega (arith, c.symbols-code-end.ensures, c.loop-code-test.true)) c.requires.from in
    elim c.if-saturating_add-least.branch [
      | then-saturating_add-least w ↦ record {
        most = omega (arith, w.least-is, w.least_from-least.ensures.most, old.most);
        under = first-more d c.args.targets.now c.args.twice c.args.head place c.args.from c.args.paid c.loop-code.code c.loop-code.least _ counted c.cost-cost.result next within old.under (omega (arith, w.least-is, w.least_from-least.ensures.most)) c.step-next.ensures costs c.counted_with-counted.ensures
            (under-more d c.args.targets.now c.args.twice c.args.head (place + 1) next counted counted w.least_from-least.result _ (omega arith) (omega (arith, w.least-is)) w.least_from-least.ensures.under);
      }
      | else-saturating_add-least w ↦ record {
        most = omega (arith, w.least-is, old.most);
        under = first-more d c.args.targets.now c.args.twice c.args.head place c.args.from c.args.paid c.loop-code.code c.loop-code.least _ counted c.cost-cost.result next within old.under (omega (arith, w.least-is)) c.step-next.ensures costs c.counted_with-counted.ensures
            (rest-under d c.args.targets.now c.args.twice c.args.head c.args.rests.now (place + 1) next counted _ c.requires.rests (omega (arith, within)) fits (omega (arith, w.least-is, w.if-saturating_add-least.false, c.saturating_add-in-loop-code.ensures)));
      }
    ]

pub returns-clause-under : goal.returns-clause-under
returns-clause-under g t c =
    first-all (g.M.Machine.rules c.args.machine.now).decoder c.args.targets.now c.args.twice c.args.head c.args.place c.args.from c.args.paid c.loop-code.code c.loop-code.least
    (omega (arith, c.requires.place, c.if-place-block_samples.false, c.block_samples.ensures)) (omega (arith, c.symbols-code-end.ensures, c.loop-code-test.false)) c.loop-code.invariant.under
