use Rattle.std.proofs.Common.{arith, ap, sym, ◌∙◌, subst, Some}
use Rattle.box_layers.specs.declared.layer.Layer.{Layer}
use Rattle.box_layers.specs.Keys.{key_same}
use Rattle.box_layers.specs.Layers.{IsLayer, lists_of}
use Rattle.box_layers.proofs.Placed.{first-here, layer-in, none-from, none-same}
use Rattle.box_layers.proofs.layers.layer_with.Goals as goal

pub returns-then-is_key_same-clause-value : goal.returns-then-is_key_same-clause-value
returns-then-is_key_same-clause-value c =
    let layers = c.args.layers.now in let i = c.layers_before-i.result in let layer = c.index-layers-i.result in
    let same = sym c.is_key_same.ensures ∙ c.if-is_key_same.true in
    let e = c.index-layers-i.is in
    ap (λ (z : Layer). Some (lists_of z)) e ∙ sym (first-here layers c.args.key i layer (omega (arith, c.layers_before-i.ensures.within, c.if-i-layers.false))
    (λ k h. c.layers_before-i.ensures.below k layer h) (ap (λ (z : Layer). key_same z.key c.args.key) (sym e) ∙ same))

pub returns-then-is_key_same-clause-ascends : goal.returns-then-is_key_same-clause-ascends
returns-then-is_key_same-clause-ascends c =
    (subst (λ (z : Layer). IsLayer (lists_of z)) (sym c.index-layers-i.is)
    (layer-in c.args.layers.now c.layers_before-i.result c.index-layers-i.result (omega (arith, c.layers_before-i.ensures.within, c.if-i-layers.false)) c.requires)).ascends

pub returns-then-i-layers-clause-value : goal.returns-then-i-layers-clause-value
returns-then-i-layers-clause-value c = sym (none-from c.args.layers.now c.args.key (λ k d l. c.layers_before-i.ensures.below k d (let e = c.if-i-layers.true in omega arith)))

pub returns-else-is_key_same-clause-value : goal.returns-else-is_key_same-clause-value
returns-else-is_key_same-clause-value c =
    let layers = c.args.layers.now in let i = c.layers_before-i.result in let layer = c.index-layers-i.result in
    let not = sym c.is_key_same.ensures ∙ c.if-is_key_same.false in
    sym (none-same layers c.args.key i layer c.requires (λ k h. c.layers_before-i.ensures.below k layer h) (λ k h l. c.layers_before-i.ensures.from k layer h l)
    (λ h. ap (λ (z : Layer). key_same z.key c.args.key) (sym c.index-layers-i.is) ∙ not))
