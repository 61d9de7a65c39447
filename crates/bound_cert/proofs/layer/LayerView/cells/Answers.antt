use Rattle.std.proofs.Common.{sym, ◌∙◌, ap, length}
use Rattle.bound_cert.specs.Content.{Here}
use Rattle.bound_cert.proofs.ByNumber.{length-cells}
use Rattle.bound_cert.proofs.layer.LayerView.cells.Goals as goal

pub returns : goal.returns
returns c = c.u32_in.ensures ∙ (sym (length-cells _ _ _) ∙ ap (λ (h : Here). length h.layer.cells) c.self.view_is)
