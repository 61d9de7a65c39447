-- The layer that a search finds.
use Rattle.std.proofs.Common.{◌≡◌, ℕ, ◌∙◌, List, [], ◌∷◌, length, sym, ap, refl, Some, inl, inr}
use Rattle.std.proofs.lemmas.Bool.{cond-true, cond-false, cases_Bool}
use Rattle.box_layers.specs.declared.key.Key.{Key}
use Rattle.box_layers.specs.Keys.{key_same}
use Rattle.bound_cert.specs.Content.{Layer, found_at, end_of}
use Rattle.cert_check.specs.Layers.{cells_for, cells_here}

-- the cells of the layer that a search finds
pub found-cells : (at : ℕ) (xs : List Layer) (key : Key) → cells_here (found_at at xs key) ≡ cells_for xs key
found-cells at [] key = refl
found-cells at (x ∷ xs) key =
    elim (cases_Bool (key_same x.key key)) [
      | inl y ↦ ap cells_here (cond-true (key_same x.key key) (Some (record { at = at; layer = x; later = xs })) (found_at (end_of at (length x.cells)) xs key) y) ∙ sym (cond-true (key_same x.key key) x.cells (cells_for xs key) y)
      | inr n ↦ ap cells_here (cond-false (key_same x.key key) (Some (record { at = at; layer = x; later = xs })) (found_at (end_of at (length x.cells)) xs key) n)
          ∙ (found-cells (end_of at (length x.cells)) xs key ∙ sym (cond-false (key_same x.key key) x.cells (cells_for xs key) n))
    ]
