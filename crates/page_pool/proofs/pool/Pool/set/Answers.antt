use Rattle.std.proofs.Common.{◌≡◌, ◌+◌, ◌<◌, sym, ap, subst, ◌∙◌, arith, length, slice_set}
use Rattle.std.specs.Prelude.{max}
use Rattle.page_pool.specs.Pages.{gathered, AreFilled}
use Rattle.page_pool.proofs.GatheredLaws.{length-gathered, places-enough}
use Rattle.page_pool.proofs.Seen.{counted}
use Rattle.page_pool.proofs.WrittenLaws.{written_over}
use Rattle.page_pool.proofs.pool.Pool.set.Goals as goal

pub put_in-requires-clause-behind : goal.put_in-requires-clause-behind
put_in-requires-clause-behind g c = omega (arith, counted c.self.inside.pages.items c.self.inside.len c.args.self.now c.self.invariant.0 c.self.view_is, c.requires)

pub put_in-requires-clause-room : goal.put_in-requires-clause-room
put_in-requires-clause-room g c =
    let pages = c.self.inside.pages.items in let n = c.self.inside.len in
    omega (arith, counted pages n c.args.self.now c.self.invariant.0 c.self.view_is, c.requires, places-enough 1024 pages n c.self.invariant.0)

pub invariant_of-self : goal.invariant_of-self
invariant_of-self g c =
    let pages = c.self.inside.pages.items in let n = c.self.inside.len in
    let same : max n (c.args.place + 1) ≡ n = omega (arith, counted pages n c.args.self.now c.self.invariant.0 c.self.view_is, c.requires) in
    (subst (λ k. AreFilled 1024 c.put_in.new.pages.items k) same c.put_in.ensures.filled, omega (arith, c.put_in.ensures.pages, c.self.invariant.1))

pub returns-clause-items : goal.returns-clause-items
returns-clause-items g c =
    let pages = c.self.inside.pages.items in let n = c.self.inside.len in
    let count = counted pages n c.args.self.now c.self.invariant.0 c.self.view_is in
    let same : max n (c.args.place + 1) ≡ n = omega (arith, count, c.requires) in
    let within : c.args.place < length (gathered 1024 pages n) = omega (arith, length-gathered 1024 pages n c.self.invariant.0, count, c.requires) in
    ap (λ k. gathered 1024 c.put_in.new.pages.items k) (sym same) ∙ c.put_in.ensures.items ∙ written_over (gathered 1024 pages n) c.args.place c.args.item within
    ∙ ap (λ p. slice_set p.items c.args.place c.args.item) c.self.view_is
