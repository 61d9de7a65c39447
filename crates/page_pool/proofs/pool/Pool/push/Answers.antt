use Rattle.std.proofs.Common.{◌≡◌, ◌+◌, ◌-◌, ◌/◌, sym, ap, subst, ◌∙◌, arith, [], ◌∷◌, ◌++◌, length}
use Rattle.std.specs.Prelude.{max}
use Rattle.page_pool.specs.Pages.{gathered, AreFilled}
use Rattle.page_pool.proofs.GatheredLaws.{length-gathered, gathered-grow, filled-grow}
use Rattle.page_pool.proofs.Growing.{length-added}
use Rattle.page_pool.proofs.Seen.{counted}
use Rattle.page_pool.proofs.WrittenLaws.{written_behind}
use Rattle.page_pool.proofs.pool.Pool.push.Goals as goal

pub put_in-requires-clause-filled : goal.put_in-requires-clause-filled
put_in-requires-clause-filled g c =
    let pages = c.self.inside.pages.items in let n = c.self.inside.len in
    subst (λ ps. AreFilled 1024 ps n) (sym c.in_ok-grow_to.ensures.ok) (filled-grow 1024 pages (n / 1024 + 1 - length pages) n c.self.invariant.0)

pub overflow_add-self : goal.overflow_add-self
overflow_add-self g c = omega (arith, counted c.self.inside.pages.items c.self.inside.len c.args.self.now c.self.invariant.0 c.self.view_is, c.requires)

pub invariant_of-self-2 : goal.invariant_of-self-2
invariant_of-self-2 g c =
    let pages = c.self.inside.pages.items in let n = c.self.inside.len in
    let same : max n (n + 1) ≡ n + 1 = omega arith in
    let long = length-added [] pages c.grow_to.new.pages.items (n / 1024 + 1 - length pages) c.in_ok-grow_to.ensures.ok in (
      subst (λ k. AreFilled 1024 c.put_in.new.pages.items k) same c.put_in.ensures.filled,
      omega (arith, c.put_in.ensures.pages, long, c.self.invariant.1, counted pages n c.args.self.now c.self.invariant.0 c.self.view_is, c.requires),
    )

pub returns-clause-ok : goal.returns-clause-ok
returns-clause-ok g c =
    let pages = c.self.inside.pages.items in let n = c.self.inside.len in
    let same : max n (n + 1) ≡ n + 1 = omega arith in
    let before : gathered 1024 c.grow_to.new.pages.items n ≡ gathered 1024 pages n =
    ap (λ ps. gathered 1024 ps n) c.in_ok-grow_to.ensures.ok ∙ gathered-grow 1024 pages (n / 1024 + 1 - length pages) n in
    let count : n ≡ length (gathered 1024 c.grow_to.new.pages.items n) = sym (ap length before ∙ length-gathered 1024 pages n c.self.invariant.0) in
    ap (λ k. gathered 1024 c.put_in.new.pages.items k) (sym same) ∙ c.put_in.ensures.items ∙ written_behind (gathered 1024 c.grow_to.new.pages.items n) n c.args.item count
    ∙ ap (λ l. l ++ c.args.item ∷ []) (before ∙ ap (λ p. p.items) c.self.view_is)
