use Rattle.std.proofs.Common.{◌≡◌, ◌≢◌, ℕ, ◌≤◌, IfOk, subst}
use Rattle.machine_core.specs.Blocks.{Blocks, IsLegal, first_only}
use Rattle.machine_core.specs.Sums.{sum_of}
use Rattle.open_cells.specs.Paths.{IsWhole}
use Rattle.branch_bound.specs.declared.top.Found.{Found}
use Rattle.branch_bound.proofs.top.bound_search.Goals as goal

pub returns-clause-least : goal.returns-clause-least
returns-clause-least g c =
    let d = (g.M.Machine.rules c.args.machine.now).decoder in
    subst (λ (b : ℕ). IfOk c.search_segment.result (λ (f : Found). f.cert.level ≡ 0 → (l : Blocks) → IsLegal d b first_only l → f.choice.sum ≤ sum_of d l c.args.targets.now b)) c.blocks_of-blocks.ensures c.search_segment.ensures.least

pub returns-clause-near : goal.returns-clause-near
returns-clause-near g c =
    let m = g.M.Machine.rules c.args.machine.now in
    subst (λ (b : ℕ). IfOk c.search_segment.result (λ (f : Found). f.cert.level ≢ 255 → (w : ℕ) → w ≤ c.args.best.sum → ((cost : ℕ) → IsWhole m c.args.targets.now b f.cert.level cost → w ≤ cost) → w ≤ f.cert.bound))
    c.blocks_of-blocks.ensures c.search_segment.ensures.near
