use Rattle.std.proofs.Common.{◌≡◌, arith, refl, sym, ◌∙◌, subst, ℕ, w32}
use Rattle.std.specs.Prelude.{pos, ◌+ℤ◌}
use mir.Val.{SFits}
use Rattle.std.proofs.lemmas.Int.{to_z-of_z}
use Rattle.machine_core.specs.Nearest.{nearest_symbol}
use Rattle.adpcm_nums.specs.Least.{first_least}
use Rattle.ima_machine.specs.Ima.{ima, samples_in}
use Rattle.ima_machine.specs.Nearest.{later_cost}
use Rattle.ima_machine.proofs.NearestCodes.{nearest-first, nearest-later}
use Rattle.ima_machine.proofs.machine.ImaMachine.nearest.Goals as goal

pub returns-then-pos-eq0 : goal.returns-then-pos-eq0
returns-then-pos-eq0 c =
    let samples = samples_in c.args.self.now.align in
    let target : SFits w32 c.args.target = c.ranges.target in
    let value : pos c.own_symbol.result ≡ c.args.target +ℤ pos 32768 = simp to_z-of_z at c.own_symbol.ensures.value in
    let first : 0 ≡ c.args.pos = sym c.if-pos-eq0.true in
    subst (λ (p : ℕ). c.own_symbol.result ≡ nearest_symbol (ima samples) c.args._head p c.args.from c.args.target) first
    (nearest-first samples c.args._head c.own_symbol.result 65536 c.args.from c.args.target value c.own_symbol.ensures.range refl)

pub returns-else-pos-eq0 : goal.returns-else-pos-eq0
returns-else-pos-eq0 c =
    let target : SFits w32 c.args.target = c.ranges.target in
    let nearest : c.nearest_code.result ≡ first_least (later_cost c.args.from c.args.target) 16 = simp to_z-of_z at c.nearest_code.ensures.value in
    nearest ∙ nearest-later (samples_in c.args.self.now.align) c.args._head c.args.pos c.args.from c.args.target (omega arith)
