use Rattle.std.proofs.Common.{◌≡◌, ◌-◌, length, arith, refl, ◌∙◌, ap}
use Rattle.adpcm_nums.specs.LeastValue.{least}
use Rattle.machine_core.specs.Floors.{allowed_floor, top}
use Rattle.adpcm_nums.proofs.LeastValueLaws.{least-none}
use Rattle.ima_machine.specs.ImaRules.{ima_rules}
use Rattle.ima_machine.proofs.Rows.{least-row-more}
use Rattle.ima_machine.proofs.chain.least_floor.Goals as goal

pub loop-index-init : goal.loop-index-init
loop-index-init c = least-none (allowed_floor (ima_rules (length c.args.targets.now)) c.args.rule c.args.targets.now) top

pub loop-index-preserved : goal.loop-index-preserved
loop-index-preserved c = c.min-least.ensures ∙ least-row-more (length c.args.targets.now) (length c.args.targets.now - 1) c.loop-index.index c.loop-index.least _ c.args.rule c.args.targets.now c.first_row-row.result
    refl c.first_row-row.ensures c.loop-index-test.true refl c.loop-index.invariant

pub returns : goal.returns
returns c =
    let all : c.loop-index.index ≡ 89 = omega arith in
    c.loop-index.invariant ∙ ap (λ n. least n (allowed_floor (ima_rules (length c.args.targets.now)) c.args.rule c.args.targets.now) top) all
