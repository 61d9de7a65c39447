-- A row's sum, with its factors in other words.
use Rattle.std.proofs.Common.{◌≡◌, ap, ◌∙◌}
use Rattle.std.specs.Prelude.{ℤ, ◌-ℤ◌, ◌*ℤ◌}
use Rattle.row_bound.specs.declared.row.Row.{Row as ErrorRow}

pub sum-as : (row : ErrorRow) (d a b x y z : ℤ) → row.d ≡ d → row.a ≡ a → row.b ≡ b → row.d *ℤ z -ℤ row.a *ℤ x -ℤ row.b *ℤ y ≡ d *ℤ z -ℤ a *ℤ x -ℤ b *ℤ y
sum-as row d a b x y z p q r =
    ap (λ t. t *ℤ z -ℤ row.a *ℤ x -ℤ row.b *ℤ y) p ∙ (ap (λ t. d *ℤ z -ℤ t *ℤ x -ℤ row.b *ℤ y) q ∙ ap (λ t. d *ℤ z -ℤ a *ℤ x -ℤ t *ℤ y) r)
