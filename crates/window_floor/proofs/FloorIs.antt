-- The floor of a window from what the code's parts give.
use Rattle.std.proofs.Common.{◌≡◌, ℕ, min, ap, ◌∙◌}
use Rattle.std.specs.Prelude.{ℤ, List}
use Rattle.window_floor.specs.Row.{Row}
use Rattle.window_floor.specs.Miss.{rho_of, least_miss}
use Rattle.window_floor.specs.Floor.{output_cost, shared_cost, clamped_floor, window_floor}

-- rho of the numbers as the code holds them
pub rho-is : (w : Row) (r o x r' o' x' rho : ℤ) → r' ≡ r → o' ≡ o → x' ≡ x → rho ≡ rho_of w r' o' x' → rho ≡ rho_of w r o x
rho-is w r o x r' o' x' rho p q s e = e ∙ (ap (λ z. rho_of w z o' x') p ∙ (ap (λ z. rho_of w r z x') q ∙ ap (λ z. rho_of w r o z) s))

-- a cost of the numbers as the code holds them
pub cost-is : (w : Row) (y t y' t' : ℤ) (n : ℕ) → y' ≡ y → t' ≡ t → n ≡ output_cost w y' t' → n ≡ output_cost w y t
cost-is w y t y' t' n p q e = e ∙ (ap (λ z. output_cost w z t') p ∙ ap (λ z. output_cost w y z) q)

-- the floor of a miss, from its three parts
pub clamped-is : (w : Row) (miss : ℕ) (first second x : ℤ) (shared a b clamped n : ℕ)
    → shared ≡ shared_cost w miss → a ≡ output_cost w first x → b ≡ output_cost w second x → clamped ≡ min a b → n ≡ min shared clamped
    → n ≡ clamped_floor w miss first second x
clamped-is w miss first second x shared a b clamped n s u v c e =
    let ends = c ∙ (ap (λ z. min z b) u ∙ ap (λ z. min (output_cost w first x) z) v) in
    e ∙ (ap (λ z. min z clamped) s ∙ ap (λ z. min (shared_cost w miss) z) ends)

-- the floor of the least miss
pub floor-is : (w : Row) (samples : List ℤ) (first second r o x rho target : ℤ) (miss n : ℕ)
    → rho ≡ rho_of w r o x → miss ≡ least_miss w rho samples → target ≡ x → n ≡ clamped_floor w miss first second target
    → n ≡ window_floor w samples first second r o x
unfolding window_floor
floor-is w samples first second r o x rho target miss n p q t e =
    let least = q ∙ ap (λ z. least_miss w z samples) p in
    e ∙ (ap (λ z. clamped_floor w z first second target) least ∙ ap (λ z. clamped_floor w (least_miss w (rho_of w r o x) samples) first second z) t)
