use Rattle.std.proofs.Common.{arith, refl, ◌∙◌, ◌≡◌, ◌+ℤ◌, to_z, of_z, w32, w64}
use Rattle.std.proofs.lemmas.Int.{ints, to_z-of_z}
use mir.Val.{SFits}
use Rattle.std.specs.Prelude.{pos}
use Rattle.strong_bound.proofs.NearOutputs.{near-as, costs-as}
use Rattle.strong_bound.proofs.StateLaws.{older-none, older-more, states-all, times-costs}
use Rattle.strong_bound.proofs.states.under_states.Goals as goal

pub loop-step-init : goal.loop-step-init
loop-step-init g c = record {
  most = omega arith;
  under = older-none (g.M.Machine.rules c.args.machine.now).decoder c.args.targets.now c.args.twice c.args.head c.corner_of-corner.result c.args.entry c.args.top;
}

pub loop-step-preserved : goal.loop-step-preserved
loop-step-preserved g c =
    let least = c.under_last-least in
    let corner = c.corner_of-corner in
    let old = c.loop-step.invariant in
    let d = (g.M.Machine.rules c.args.machine.now).decoder in
    let fits : SFits w64 c.args.scale = c.ranges.scale in
    let same : to_z w64 (of_z w64 c.args.scale) ≡ c.args.scale = simp to_z-of_z in
    let first : to_z w32 (of_z w32 corner.result.a) ≡ corner.result.a = omega (arith, ints, corner.ensures.last.low, corner.ensures.last.high) in
    let output = to_z w32 (of_z w32 (to_z w32 (of_z w32 corner.result.b) +ℤ to_z w32 (of_z w32 c.from.result))) in
    let next : output ≡ corner.result.b +ℤ pos c.loop-step.step = omega (arith, ints, corner.ensures.older.low, corner.ensures.older.high, c.from.ensures, c.loop-step-test.true) in
    let again : to_z w32 (of_z w32 output) ≡ output = omega (arith, ints, next, corner.ensures.older.low, corner.ensures.older.high, c.loop-step-test.true) in
    let target : to_z w32 (of_z w32 c.args.entry.aim.b) ≡ c.args.entry.aim.b = omega (arith, ints, c.requires.older.low, c.requires.older.high) in
    record {
      most = omega (arith, least.ensures.most, old.most);
      under = older-more (g.M.Machine.rules c.args.machine.now).decoder c.args.targets.now c.args.twice c.args.head corner.result c.args.entry c.loop-step.step c.loop-step.least least.result c.saturating_mul-paid.result _ old.under least.ensures.most
          first next (times-costs c.args.entry.older c.missed-error.result _ c.saturating_mul-paid.result (omega (arith, c.saturating_mul-paid.ensures)) (costs-as _ _ _ _ _ _ _ (same ∙ c.requires.scale_is) again target c.missed-error.ensures)) least.ensures.under;
    }

pub returns-clause-under : goal.returns-clause-under
returns-clause-under g c =
    let fits : SFits w64 c.args.scale = c.ranges.scale in
    let same : to_z w64 (of_z w64 c.args.scale) ≡ c.args.scale = simp to_z-of_z in
    let corner = c.corner_of-corner in
    states-all (g.M.Machine.rules c.args.machine.now).decoder c.args.targets.now c.args.twice c.args.head c.args.rests.now c.args.scale corner.result c.args.entry c.args.top c.loop-step.step c.loop-step.least
    c.requires.rests c.requires.place c.requires.counted c.requires.once c.requires.scale_is (omega (arith, c.loop-step-test.false, c.loop-step.auto.step-end)) c.loop-step.invariant.under c.loop-step.invariant.most c.requires.near
    (near-as _ _ _ _ _ _ same refl refl corner.ensures.last) (near-as _ _ _ _ _ _ same refl refl corner.ensures.older)
