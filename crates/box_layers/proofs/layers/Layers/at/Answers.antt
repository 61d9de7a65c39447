use Rattle.std.proofs.Common.{arith, ap, sym, subst, ◌∙◌, length}
use Rattle.std.proofs.lemmas.List.{length-map}
use Rattle.box_layers.specs.declared.layer.Layer.{Layer}
use Rattle.box_layers.specs.Layers.{IsLayer, LayerLists, lists_of}
use Rattle.box_layers.proofs.Placed.{layer-in}
use Rattle.box_layers.proofs.layers.Layers.at.Goals as goal

pub returns-clause-ascends : goal.returns-clause-ascends
returns-clause-ascends c =
    let n = sym (length-map c.self.inside.layers.items lists_of) ∙ ap (length {A = LayerLists}) c.self.view_is in
    (subst (λ (l : Layer). IsLayer (lists_of l)) (sym c.index.ensures) (layer-in c.self.inside.layers.items c.args.i c.index.result.now (omega (arith, n, c.requires)) c.self.invariant)).ascends
