use Rattle.std.proofs.Common.{◌-◌, sym, ap, subst, ◌∙◌, arith, [], length}
use Rattle.page_pool.specs.Pages.{gathered, AreFilled}
use Rattle.page_pool.proofs.GatheredLaws.{gathered-grow, filled-grow}
use Rattle.page_pool.proofs.Growing.{added_or_not, length-added}
use Rattle.page_pool.proofs.Seen.{counted}
use Rattle.page_pool.proofs.pool.Pool.reserve.Goals as goal

pub overflow_add-self-inside : goal.overflow_add-self-inside
overflow_add-self-inside g c = omega (arith, counted c.self.inside.pages.items c.self.inside.len c.args.self.now c.self.invariant.0 c.self.view_is, c.requires)

pub invariant_of-self : goal.invariant_of-self
invariant_of-self g c =
    let pages = c.self.inside.pages.items in let n = c.self.inside.len in
    let more = added_or_not [] c.grow_to.result pages c.grow_to.new.pages.items (c.div_ceil.result - length pages) c.grow_to.ensures.ok c.grow_to.ensures.err in
    let long = length-added [] pages c.grow_to.new.pages.items more.0 more.1 in (
      subst (λ ps. AreFilled 1024 ps n) (sym more.1) (filled-grow 1024 pages more.0 n c.self.invariant.0),
      omega (arith, long, more.2, c.div_ceil.ensures, c.self.invariant.1, counted pages n c.args.self.now c.self.invariant.0 c.self.view_is, c.requires),
    )

pub returns-clause-items : goal.returns-clause-items
returns-clause-items g c =
    let pages = c.self.inside.pages.items in let n = c.self.inside.len in
    let more = added_or_not [] c.grow_to.result pages c.grow_to.new.pages.items (c.div_ceil.result - length pages) c.grow_to.ensures.ok c.grow_to.ensures.err in
    ap (λ ps. gathered 1024 ps n) more.1 ∙ gathered-grow 1024 pages more.0 n ∙ ap (λ p. p.items) c.self.view_is
