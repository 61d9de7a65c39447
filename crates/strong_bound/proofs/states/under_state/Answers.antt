use Rattle.std.proofs.Common.{arith, ap, ◌≡◌, ◌≤◌, ◌*◌, ◌∙◌, subst, ℕ, to_z, of_z, w32}
use Rattle.std.specs.Prelude.{ℤ}
use Rattle.std.proofs.lemmas.Int.{ints}
use Rattle.machine_core.specs.Decoder.{cost_of}
use Rattle.strong_bound.proofs.StateLaws.{entering-under}
use Rattle.strong_bound.proofs.SymbolCounts.{under-more}
use Rattle.strong_bound.proofs.states.under_state.Goals as goal

pub returns-then-saturating_add-top-clause-under : goal.returns-then-saturating_add-top-clause-under
returns-then-saturating_add-top-clause-under g c = λ fits.
    let d = (g.M.Machine.rules c.args.machine.now).decoder in
    let entry = c.args.entry in
    let same : to_z w32 (of_z w32 entry.aim.a) ≡ entry.aim.a = omega (arith, ints, c.requires.aim.low, c.requires.aim.high) in
    let cost = c.cost-cost.ensures ∙ ap (λ (z : ℤ). cost_of d c.args.at z) same in
    let counted : c.saturating_mul.result ≤ entry.last * cost_of d c.args.at entry.aim.a = subst (λ (z : ℕ). c.saturating_mul.result ≤ entry.last * z) cost (omega (arith, c.saturating_mul.ensures)) in
    entering-under d c.args.targets.now c.args.twice c.args.head c.args.rests.now entry.place c.args.at c.args.paid (entry.last * cost_of d c.args.at entry.aim.a) c.saturating_add-entering.result c.saturating_add.result c.args.top c.requires.rests c.requires.place fits
    (omega (arith, c.saturating_add-entering.ensures, counted)) (omega (arith, c.saturating_add.ensures)) c.if-saturating_add-top.true

pub returns-clause-under : goal.returns-clause-under
returns-clause-under g c = λ fits.
    let d = (g.M.Machine.rules c.args.machine.now).decoder in
    let entry = c.args.entry in
    let same : to_z w32 (of_z w32 entry.aim.a) ≡ entry.aim.a = omega (arith, ints, c.requires.aim.low, c.requires.aim.high) in
    let cost = c.cost-cost.ensures ∙ ap (λ (z : ℤ). cost_of d c.args.at z) same in
    let counted : c.saturating_mul.result ≤ entry.last * cost_of d c.args.at entry.aim.a = subst (λ (z : ℕ). c.saturating_mul.result ≤ entry.last * z) cost (omega (arith, c.saturating_mul.ensures)) in
    under-more d c.args.targets.now c.args.twice c.args.head entry.place c.args.at c.saturating_add-entering.result _ c.least_from.result c.least_from.result (omega (arith, c.saturating_add-entering.ensures, counted)) (omega arith) c.least_from.ensures.under
