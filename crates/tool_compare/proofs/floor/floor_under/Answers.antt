use Rattle.std.proofs.Common.{◌≡◌, ℤ, List, ap, ◌∙◌, arith}
use Rattle.machine_core.specs.Blocks.{must_forget}
use Rattle.machine_core.specs.Floors.{floor_of_blocks}
use Rattle.loop_fit.specs.Segments.{segments_of}
use Rattle.loop_fit.proofs.SegmentsCut.{segments-cut}
use Rattle.tool_compare.proofs.floor.floor_under.Goals as goal

pub returns-clause-value : goal.returns-clause-value
returns-clause-value g c =
    let r = g.M.Machine.rules c.args.machine.now in
    let fitted = c.args.fitted.now in
    let fixed = must_forget r.kind fitted.loop_block in
    let whole = c.requires.whole in
    c.floor_of_blocks.ensures.value ∙ (ap (λ (z : List ℤ). floor_of_blocks r fixed z fitted.blocks) c.as_slice-targets.ensures.list
    ∙ c.segments_make_the_whole.ensures.floor r fitted.blocks fixed fitted.targets (segments_of r.kind fitted.blocks fitted.loop_block) (segments-cut r.kind fitted.blocks fitted.loop_block whole.some whole.loop_block))

pub returns-clause-below : goal.returns-clause-below
returns-clause-below g c = λ list legal.
    let r = g.M.Machine.rules c.args.machine.now in
    let fitted = c.args.fitted.now in
    let fixed = must_forget r.kind fitted.loop_block in
    let whole = c.requires.whole in
    let value : c.floor_of_blocks.result ≡ floor_of_blocks r fixed fitted.targets fitted.blocks =
    c.floor_of_blocks.ensures.value ∙ ap (λ (z : List ℤ). floor_of_blocks r fixed z fitted.blocks) c.as_slice-targets.ensures.list in
    let below = c.floors_hold.ensures r fixed fitted.blocks fitted.targets list (g.met.M.Machine.lawful c.args.machine.now) legal whole.count whole.range in
    omega (arith, value, below)
