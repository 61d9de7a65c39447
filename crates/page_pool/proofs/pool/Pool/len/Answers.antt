use Rattle.page_pool.proofs.Seen.{counted}
use Rattle.page_pool.proofs.pool.Pool.len.Goals as goal

pub returns : goal.returns
returns g c = counted c.self.inside.pages.items c.self.inside.len c.args.self.now c.self.invariant.0 c.self.view_is
