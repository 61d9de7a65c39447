use Rattle.bound_cert.proofs.ByNumber.{next-is}
use Rattle.bound_cert.proofs.layer.LayerView.next.Goals as goal

pub returns : goal.returns
returns c = next-is c.self.inside.bytes.now c.self.inside.at c.self.inside.left c.u32_in-count.result c.args.self.now c.if-self-eq0.false c.u32_in-count.ensures c.self.view_is
