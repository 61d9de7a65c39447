use Rattle.std.proofs.Common.{sym, List, ap, ◌∙◌, Some}
use Rattle.std.specs.Prelude.{slice_get}
use Rattle.std.proofs.lemmas.Option.{slice_get-get_or}
use Rattle.bound_cert.specs.Content.{Layer}
use Rattle.bound_cert.proofs.writing.put_segment.Goals as goal

pub put_layer-requires : goal.put_layer-requires
put_layer-requires c =
    c.requires.layers c.loop-layer.layer-index c.layer-item.result
    (ap (λ (z : List Layer). slice_get z c.loop-layer.layer-index) (sym c.layers-layers.ensures) ∙ (slice_get-get_or c.layers-layers.result.now c.loop-layer.layer-index c.layer-item.result c.loop-layer-test.true ∙ ap (λ (z : Layer). Some z) (sym c.layer-item.is)))
