use Rattle.std.proofs.Common.{ap, get_or}
use Rattle.std.specs.Prelude.{pos}
use mir.Val.{of_z}
use Rattle.std.proofs.Common.{w32}
use Rattle.decompile_core.proofs.PlayingSteps.{not_again}
use Rattle.decompile_core.proofs.playings.is_again.Goals as goal

pub returns-then-samples-at : goal.returns-then-samples-at
returns-then-samples-at c =
    not_again (λ i. get_or c.args.samples.now i (pos 0)) c.args.at c.args.len c.loop-k.k c.loop-k-test.true c.loop-k.invariant (λ e. c.if-samples-at.true (ap (of_z w32) e))
