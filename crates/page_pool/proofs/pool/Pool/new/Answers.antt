use Rattle.std.proofs.Common.{refl, sym, ap, subst, arith, length}
use Rattle.page_pool.specs.Pages.{gathered, AreFilled}
use Rattle.page_pool.proofs.pool.Pool.new.Goals as goal

pub invariant_of-result : goal.invariant_of-result
unfolding AreFilled
invariant_of-result g c = (subst (λ pages. AreFilled 1024 pages 0) (sym c.new.ensures.items) refl, omega (arith, ap length c.new.ensures.items))

pub returns-clause-items : goal.returns-clause-items
unfolding gathered
returns-clause-items g c = ap (λ pages. gathered 1024 pages 0) c.new.ensures.items
