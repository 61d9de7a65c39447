use Rattle.std.proofs.Common.{◌-◌, arith, w32}
use mir.Val.{SFits}
use Rattle.std.proofs.lemmas.Int.{to_z-of_z}
use Rattle.ima_machine.specs.Lawful.{align-low}
use Rattle.ima_machine.specs.Spelling.{symbol_of}
use Rattle.ima_machine.proofs.Spellings.{spelling_from_each}
use Rattle.ima_machine.proofs.machine.Ima.spell_block.Goals as goal

pub returns : goal.returns
returns c =
    let i = c.loop-k.invariant in
    let low = align-low c.args.self.now.align c.args.self.now.fits in
    let predictor : SFits w32 c.args.predictor = c.ranges.predictor in
    let b0 = simp to_z-of_z at i.low in
    let b1 = simp to_z-of_z at i.high in
    spelling_from_each (c.args.self.now.align - 4) c.args.index (symbol_of c.args.predictor) c.args.codes.now c.loop-k.out c.requires.count (omega (arith, i.size, low))
    b0 b1 i.head i.none (λ k h. i.each k (omega arith))
