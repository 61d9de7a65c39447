use Rattle.std.proofs.Common.{arith}
use Rattle.spu_machine.proofs.Pairs.{spelling_from_each}
use Rattle.spu_machine.proofs.block.spell_block.Goals as goal

pub returns : goal.returns
returns c =
    spelling_from_each _ _ _ _ (omega arith) c.loop-i.invariant.len c.loop-i.invariant.head c.loop-i.invariant.flags (λ k h. c.loop-i.invariant.each k (omega arith))
