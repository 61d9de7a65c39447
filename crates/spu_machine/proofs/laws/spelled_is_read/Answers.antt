use Rattle.std.proofs.Common.{refl}
use Rattle.spu_machine.specs.Spelling.{spelling}
use Rattle.spu_machine.proofs.Reading.{spelled_again, code_in-spelled}
use Rattle.spu_machine.proofs.laws.spelled_is_read.Goals as goal

pub returns-clause-fields : goal.returns-clause-fields
returns-clause-fields c = spelled_again

pub returns-clause-codes : goal.returns-clause-codes
returns-clause-codes c = λ head flags codes k len range h. code_in-spelled (spelling head flags codes) codes k refl len range h
