use Rattle.std.proofs.Common.{ap, ◌∙◌, arith}
use Rattle.std.specs.Prelude.{take}
use Rattle.page_pool.specs.Pages.{gathered}
use Rattle.page_pool.proofs.GatheredLaws.{length-gathered, gathered-cut, filled-cut, places-enough}
use Rattle.page_pool.proofs.Seen.{counted, full, take-least}
use Rattle.page_pool.proofs.pool.Pool.truncate.Goals as goal

pub invariant_of-self : goal.invariant_of-self
invariant_of-self g c = (filled-cut 1024 c.self.inside.pages.items c.self.inside.len c.min-self-inside.result c.self.invariant.0 (omega (arith, c.min-self-inside.ensures)), c.self.invariant.1)

pub returns-clause-items : goal.returns-clause-items
returns-clause-items g c =
    let pages = c.self.inside.pages.items in let n = c.self.inside.len in let m = c.min-self-inside.result in
    gathered-cut 1024 pages n m c.self.invariant.0 (omega (arith, c.min-self-inside.ensures))
    ∙ take-least (gathered 1024 pages n) n m c.args.count (length-gathered 1024 pages n c.self.invariant.0) c.min-self-inside.ensures
    ∙ ap (λ p. take c.args.count p.items) c.self.view_is

pub returns-clause-len : goal.returns-clause-len
returns-clause-len g c =
    let pages = c.self.inside.pages.items in let n = c.self.inside.len in let m = c.min-self-inside.result in
    let f = filled-cut 1024 pages n m c.self.invariant.0 (omega (arith, c.min-self-inside.ensures)) in
    length-gathered 1024 pages m f ∙ omega (arith, c.min-self-inside.ensures, counted pages n c.args.self.now c.self.invariant.0 c.self.view_is)

pub returns-clause-places : goal.returns-clause-places
returns-clause-places g c =
    let pages = c.self.inside.pages.items in let n = c.self.inside.len in let m = c.min-self-inside.result in
    let f = filled-cut 1024 pages n m c.self.invariant.0 (omega (arith, c.min-self-inside.ensures)) in
    omega (arith, length-gathered 1024 pages m f, places-enough 1024 pages m f, full pages n c.args.self.now c.self.invariant.0 c.self.view_is)
