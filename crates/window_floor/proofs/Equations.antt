-- The errors of places that a filter ties together keep a linear equation.
use Rattle.std.proofs.Common.{◌≡◌, arith, ap, sym, ◌∙◌}
use Rattle.std.specs.Prelude.{ℤ, pos, ◌+ℤ◌, ◌-ℤ◌, ◌*ℤ◌}
use Rattle.std.proofs.lemmas.Int.{ints}
use Rattle.adpcm_nums.proofs.ProductLaws.{mul-sub, mul-swap}

-- d times an error s*y - x
error-times : (d s y x : ℤ) → d *ℤ (s *ℤ y -ℤ x) ≡ s *ℤ (d *ℤ y) -ℤ d *ℤ x
error-times d s y x = mul-sub d (s *ℤ y) x ∙ ap (λ z. z -ℤ d *ℤ x) (mul-swap d s y)

-- a factor times a difference of three
three-times : (s p q r : ℤ) → s *ℤ (p -ℤ q -ℤ r) ≡ s *ℤ p -ℤ s *ℤ q -ℤ s *ℤ r
three-times s p q r = mul-sub s (p -ℤ q) r ∙ ap (λ z. z -ℤ s *ℤ r) (mul-sub s p q)

-- y is what the filter gives from o and r with sample a and rounding e, less a wrap
filtered : (d a b bias e sample o r raw wrap y : ℤ) → (d *ℤ raw) ≡ (d *ℤ sample +ℤ a *ℤ o +ℤ b *ℤ r +ℤ bias -ℤ e) → y ≡ raw -ℤ wrap
    → d *ℤ y -ℤ a *ℤ o -ℤ b *ℤ r ≡ d *ℤ (sample -ℤ wrap) +ℤ bias -ℤ e
filtered d a b bias e sample o r raw wrap y h k =
    let at : d *ℤ y ≡ d *ℤ raw -ℤ d *ℤ wrap = ap (λ z. d *ℤ z) k ∙ mul-sub d raw wrap in
    let moved = mul-sub d sample wrap in omega (arith, ints, h, at, moved)

-- the equation of the errors
pub error-equation : (d a b bias e s sample o r x at_o at_r raw wrap y : ℤ)
    → (d *ℤ raw) ≡ (d *ℤ sample +ℤ a *ℤ at_o +ℤ b *ℤ at_r +ℤ bias -ℤ e) → y ≡ raw -ℤ wrap
    → d *ℤ (s *ℤ y -ℤ x) -ℤ a *ℤ (s *ℤ at_o -ℤ o) -ℤ b *ℤ (s *ℤ at_r -ℤ r) ≡ pos 0 -ℤ (d *ℤ x -ℤ a *ℤ o -ℤ b *ℤ r -ℤ s *ℤ (d *ℤ (sample -ℤ wrap) +ℤ bias -ℤ e))
error-equation d a b bias e s sample o r x at_o at_r raw wrap y h k =
    let given : s *ℤ (d *ℤ y) -ℤ s *ℤ (a *ℤ at_o) -ℤ s *ℤ (b *ℤ at_r) ≡ s *ℤ (d *ℤ (sample -ℤ wrap) +ℤ bias -ℤ e) =
    sym (three-times s (d *ℤ y) (a *ℤ at_o) (b *ℤ at_r)) ∙ ap (λ z. s *ℤ z) (filtered d a b bias e sample at_o at_r raw wrap y h k) in
    omega (arith, ints, given, error-times d s y x, error-times a s at_o o, error-times b s at_r r)
