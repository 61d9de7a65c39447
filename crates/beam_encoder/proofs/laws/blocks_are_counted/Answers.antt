use Rattle.beam_encoder.proofs.CountLaws.{count-is, whole-are}
use Rattle.beam_encoder.proofs.laws.blocks_are_counted.Goals as goal

pub returns-clause-count : goal.returns-clause-count
returns-clause-count c = count-is

pub returns-clause-whole : goal.returns-clause-whole
returns-clause-whole c = whole-are
