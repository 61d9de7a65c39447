use Rattle.std.proofs.Common.{arith}
use Rattle.machine_core.specs.declared.state.HeadRule.TheVariants.{FilterZero}
use Rattle.path_encoder.proofs.by_index.kept.Goals as goal

pub go_on-requires-clause-some : goal.go_on-requires-clause-some
go_on-requires-clause-some g c =
    let head = (g.met.M.Machine.lawful c.args.machine.now).some_head FilterZero in
    let below = head.1 in omega (arith, below)
