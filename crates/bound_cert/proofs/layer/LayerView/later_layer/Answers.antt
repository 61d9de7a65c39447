use Rattle.std.proofs.Common.{◌∙◌}
use Rattle.bound_cert.proofs.Finding.{later-at}
use Rattle.bound_cert.proofs.layer.LayerView.later_layer.Goals as goal

pub returns-in-Some : goal.returns-in-Some
returns-in-Some c = c.in-Some.ensures.found ∙ later-at c.self.inside.bytes.now c.self.inside.at c.self.inside.left c.u32_in.result c.args.key c.args.self.now c.u32_in.ensures c.self.view_is

pub returns-in-None : goal.returns-in-None
returns-in-None c = c.in-None.ensures.found ∙ later-at c.self.inside.bytes.now c.self.inside.at c.self.inside.left c.u32_in.result c.args.key c.args.self.now c.u32_in.ensures c.self.view_is
