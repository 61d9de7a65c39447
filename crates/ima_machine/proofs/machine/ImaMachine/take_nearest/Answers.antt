use Rattle.std.proofs.Common.{◌≡◌, arith, sym, ◌∙◌, subst, ℕ, w32}
use Rattle.std.specs.Prelude.{pos, ◌+ℤ◌, ◌-ℤ◌, ◌*ℤ◌}
use mir.Val.{SFits}
use Rattle.std.proofs.lemmas.Int.{to_z-of_z}
use Rattle.adpcm_nums.specs.Nums.{square_of}
use Rattle.machine_core.specs.Nearest.{taken}
use Rattle.ima_machine.specs.Ima.{ima, samples_in, first_state}
use Rattle.ima_machine.specs.Nearest.{later_taken}
use Rattle.ima_machine.proofs.NearestCodes.{taken-first, taken-later}
use Rattle.ima_machine.proofs.machine.ImaMachine.take_nearest.Goals as goal

pub returns-then-pos-eq0 : goal.returns-then-pos-eq0
returns-then-pos-eq0 c =
    let samples = samples_in c.args.self.now.align in
    let r = c.take_first.result in
    let target : SFits w32 c.args.target = c.ranges.target in
    let symbol : pos r.symbol ≡ c.args.target +ℤ pos 32768 = simp to_z-of_z at c.take_first.ensures.symbol in
    let cost : r.cost ≡ square_of (pos 1 *ℤ (first_state c.args.head r.symbol).a -ℤ c.args.target) = simp to_z-of_z at c.take_first.ensures.cost in
    let first : 0 ≡ c.args.pos = sym c.if-pos-eq0.true in
    subst (λ (p : ℕ). r ≡ taken (ima samples) c.args.head p c.args.from c.args.target) first
    (taken-first samples c.args.head c.args.from c.args.target r symbol c.take_first.ensures.range c.take_first.ensures.state cost)

pub returns-else-pos-eq0 : goal.returns-else-pos-eq0
returns-else-pos-eq0 c =
    let target : SFits w32 c.args.target = c.ranges.target in
    let nearest : c.take_later.result ≡ later_taken c.args.from c.args.target = simp to_z-of_z at c.take_later.ensures in
    nearest ∙ taken-later (samples_in c.args.self.now.align) c.args.head c.args.pos c.args.from c.args.target (omega arith)
