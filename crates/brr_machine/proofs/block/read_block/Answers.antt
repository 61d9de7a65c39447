use Rattle.std.proofs.Common.{arith}
use Rattle.brr_machine.proofs.Reading.{reads_spell, only_reads}
use Rattle.brr_machine.proofs.block.read_block.Goals as goal

pub returns-clause-spelled : goal.returns-clause-spelled
returns-clause-spelled c =
    reads_spell c.args.bytes.now c.loop-place.codes _ _ c.loop-place.invariant.len (omega arith) c.head_at.ensures.value c.flags_at.ensures.value
    (λ k h. c.loop-place.invariant.each k (omega arith))

pub returns-clause-only : goal.returns-clause-only
returns-clause-only c =
    only_reads c.args.bytes.now c.loop-place.codes _ _ c.loop-place.invariant.len c.head_at.ensures.value c.flags_at.ensures.value
    (λ k h. c.loop-place.invariant.each k (omega arith))
