-- The numbers of a place's layer.
use Rattle.std.proofs.Common.{◌≡◌, arith, ap, ◌∙◌, w64, to_z, of_z}
use Rattle.std.specs.Prelude.{ℤ, pos, ◌-ℤ◌, ◌*ℤ◌, ◌≤ℤ◌, unsigned_abs}
use Rattle.std.proofs.lemmas.Int.{ints}

-- an end of the interval, as the code holds its parts
pub end-is : (e t s s' x x' q q' r y : ℤ) → t ≡ e → e ≡ s' *ℤ x' -ℤ q' → s' ≡ s → x' ≡ x → q' ≡ q → q ≡ r → x ≡ y → t ≡ s *ℤ y -ℤ r
end-is e t s s' x x' q q' r y te h hs hx hq hr hy =
    let one : s' *ℤ x' ≡ s *ℤ y = ap (λ a. a *ℤ x') hs ∙ ap (λ a. s *ℤ a) (hx ∙ hy) in omega (arith, ints, te, h, one, hq, hr)

pub natural : (e : ℤ) → pos 0 ≤ℤ e → e ≡ pos (unsigned_abs e)
natural e h = omega (arith, ints, h)

pub less-natural : (b e : ℤ) → pos 0 ≤ℤ e → b -ℤ e ≡ b -ℤ pos (unsigned_abs e)
less-natural b e h = ap (λ t. b -ℤ t) (natural e h)

-- a difference of small numbers, as the code holds it
pub difference-held : (b e : ℤ) → pos 0 ≤ℤ b → b ≤ℤ pos 128 → pos 0 ≤ℤ e → e ≤ℤ pos 128 → to_z w64 (of_z w64 (to_z w64 (of_z w64 b) -ℤ to_z w64 (of_z w64 e))) ≡ b -ℤ e
difference-held b e bl bh el eh =
    let sb : to_z w64 (of_z w64 b) ≡ b = omega (arith, ints, bl, bh) in
    let se : to_z w64 (of_z w64 e) ≡ e = omega (arith, ints, el, eh) in
    rw (sb, se) (omega (arith, ints, bl, bh, el, eh))

-- an error, as the code holds its numbers
pub error-as : (s y x s' y' x' e : ℤ) → s' ≡ s → y' ≡ y → x' ≡ x → e ≡ s' *ℤ y' -ℤ x' → e ≡ s *ℤ y -ℤ x
error-as s y x s' y' x' e es ey ex is = is ∙ (ap (λ t. t *ℤ y' -ℤ x') es ∙ (ap (λ t. s *ℤ t -ℤ x') ey ∙ ap (λ t. s *ℤ y -ℤ t) ex))
