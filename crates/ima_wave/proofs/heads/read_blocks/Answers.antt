use Rattle.ima_wave.proofs.BlocksAgain.{whole-are}
use Rattle.ima_wave.proofs.heads.read_blocks.Goals as goal

pub returns-in-Ok-clause-are : goal.returns-in-Ok-clause-are
returns-in-Ok-clause-are c = whole-are c.args.align c.args.bytes.now c.requires.some c.in-Ok.ensures.sound
