use Rattle.std.proofs.Common.{◌≡◌, ◌<◌, ◌*◌, IsTrue, sym, subst, rules, arith}
use Rattle.machine_core.specs.declared.state.State.{State}
use Rattle.machine_core.specs.Blocks.{Blocks, step_at}
use Rattle.machine_core.proofs.States.{step-fits}
use Rattle.path_encoder.proofs.played.step_in.Goals as goal

pub returns-clause-fits : goal.returns-clause-fits
returns-clause-fits g c =
    let r = g.M.Machine.rules c.args.machine.now in
    let list : Blocks = record { heads = c.args.heads.now; symbols = c.args.symbols.now } in
    let is : c.step.result ≡ step_at r.decoder list c.args.i c.args.from = search rules in
    let within : c.args.i < c.args.blocks * r.decoder.samples = (let count = c.requires.in_range.symbol_count in let i = c.requires.i in omega (arith, count, i)) in
    subst (λ (z : State). IsTrue (r.decoder.is_state z)) (sym is)
    (step-fits r (g.met.M.Machine.lawful c.args.machine.now) c.args.blocks list c.requires.in_range c.args.i c.args.from within c.requires.from)
