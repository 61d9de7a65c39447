use Rattle.std.proofs.Common.{◌≡◌, ◌∙◌, ap, arith, get_or, pos, w32, rules}
use Rattle.std.specs.Prelude.{unsigned_abs}
use Rattle.std.proofs.lemmas.Int.{to_z-of_z}
use mir.Val.{SFits}
use Rattle.machine_core.proofs.States.{is-sample-at}
use Rattle.block_steps.proofs.Steps.{place-fits}
use Rattle.block_steps.proofs.stepping.symbols_within.Goals as goal

pub returns-clause-few : goal.returns-clause-few
returns-clause-few g c =
    let m = g.M.Machine.rules c.args.machine.now in
    let place = place-fits m (g.met.M.Machine.lawful c.args.machine.now) c.args.at c.requires.at in
    let target = get_or c.args.targets.now c.args.at.index (pos 0) in
    let spans = (g.met.M.Machine.boxed c.args.machine.now).spans c.args.at.place target c.args.slack place (is-sample-at c.args.targets.now c.requires.range c.args.at.index c.requires.within) in
    let t = c.target_at-target.result in
    let t_fits : SFits w32 t = search rules in
    let hi = c.symbol_span-span.result.hi in
    let hi_fits : SFits w32 hi = search rules in
    let hi_is : hi ≡ pos (m.last_symbol c.args.at.place target c.args.slack) =
    c.symbol_span-span.ensures.last ∙ ap (λ z. pos (m.last_symbol c.args.at.place z c.args.slack)) (to_z-of_z w32 t t_fits ∙ c.target_at-target.ensures.value) in
    let last : c.unsigned_abs-2.result ≡ m.last_symbol c.args.at.place target c.args.slack = c.unsigned_abs-2.ensures.value ∙ ap unsigned_abs (to_z-of_z w32 hi hi_fits ∙ hi_is) in
    let below = spans.1 in omega arith
