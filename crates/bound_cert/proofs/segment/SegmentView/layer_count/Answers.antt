use Rattle.std.proofs.Common.{◌∙◌, ap, sym, length}
use Rattle.bound_cert.specs.Content.{Segment}
use Rattle.bound_cert.proofs.PlaceSteps.{length-layers}
use Rattle.bound_cert.proofs.segment.SegmentView.layer_count.Goals as goal

pub returns : goal.returns
returns c = c.u32_in.ensures ∙ (sym (length-layers _ _ _) ∙ ap (λ (h : Segment). length h.layers) c.self.view_is)
