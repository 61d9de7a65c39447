use Rattle.std.proofs.Common.{ap, sym, subst, ◌∙◌, length, List, ℕ}
use Rattle.machine_core.specs.declared.boxes.Cell.{Cell}
use Rattle.box_layers.specs.Cells.{IsAscending}
use Rattle.box_layers.specs.Layers.{IsAbove, LayerLists}
use Rattle.box_layers.specs.Pairs.{paired}
use Rattle.box_layers.proofs.Placed.{pushed-layers}
use Rattle.box_layers.proofs.layers.Layers.place.Goals as goal

pub invariant_of-self : goal.invariant_of-self
invariant_of-self c =
    let cells = c.in-Ok.ensures in
    let values = c.in-Ok-laid_out.ensures in
    let vs = c.args.values.now.items in
    pushed-layers _ _ _ _ c.push.ensures.items c.self.invariant
    (record {
      same_length = ap (length {A = ℕ}) values ∙ (c.requires.same_length ∙ ap (length {A = Cell}) (sym cells));
      ascends = subst (λ (z : List ℕ). IsAscending (paired c.in-Ok.s.now z)) (sym values) (subst (λ (z : List Cell). IsAscending (paired z vs)) (sym cells) c.requires.ascends);
    })
    (subst (λ (ls : List LayerLists). IsAbove c.args.key ls) (sym c.self.view_is) c.requires.above)
