use Rattle.std.proofs.Common.{arith}
use Rattle.page_pool.proofs.Seen.{counted}
use Rattle.page_pool.proofs.pool.Pool.get.Goals as goal

pub item_at-requires-clause-within : goal.item_at-requires-clause-within
item_at-requires-clause-within g c = omega (arith, counted c.self.inside.pages.items c.self.inside.len c.args.self.now c.self.invariant.0 c.self.view_is, c.requires)
