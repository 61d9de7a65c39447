use Rattle.std.proofs.Common.{arith, inl, inr}
use Rattle.std.proofs.lemmas.Int.{ints}
use Rattle.block_bounds.proofs.products.error.Goals as goal

pub returns-else-scale-eq1-clause-value : goal.returns-else-scale-eq1-clause-value
returns-else-scale-eq1-clause-value c =
    elim c.requires.scale [
      | inl one ↦ absurd (c.if-scale-eq1.false (omega (arith, ints, one)))
      | inr two ↦ rw two (omega (arith, ints))
    ]
