use Rattle.std.proofs.Common.{arith}
use Rattle.page_pool.proofs.Seen.{counted}
use Rattle.page_pool.proofs.pool.Pool.pages.Goals as goal

pub returns : goal.returns
returns g c = omega (arith, counted c.self.inside.pages.items c.self.inside.len c.args.self.now c.self.invariant.0 c.self.view_is, c.div_ceil.ensures)
