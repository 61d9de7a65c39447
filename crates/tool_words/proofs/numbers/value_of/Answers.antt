use Rattle.std.proofs.Common.{arith}
use Rattle.tool_words.proofs.NumberSteps.{reads_number, reads_too_great, reads_none}
use Rattle.tool_words.proofs.numbers.value_of.Goals as goal

pub returns-then-value-greatest : goal.returns-then-value-greatest
returns-then-value-greatest c = reads_number c.args.word.now c.in-Ok.value c.args.greatest c.requires c.in-Ok.ensures.value.0 c.if-value-greatest.true

pub returns-else-value-greatest : goal.returns-else-value-greatest
returns-else-value-greatest c = reads_too_great c.args.word.now c.in-Ok.value c.args.greatest c.requires c.in-Ok.ensures.value.0 (omega (arith, c.if-value-greatest.false))

pub returns-in-Err : goal.returns-in-Err
returns-in-Err c = reads_none _ c.args.word.now c.in-Err.field-0 c.args.greatest c.requires c.in-Err.ensures.value.0 (omega (arith, c.ranges.greatest.fits))
