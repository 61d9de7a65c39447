-- Factors, as the code reads them from a list.
use Rattle.std.proofs.Common.{◌≡◌, ℕ, ◌≤◌, arith, ap, ◌∙◌, refl, w64, to_z, of_z}
use Rattle.std.specs.Prelude.{ℤ, pos, negsuc, ◌≤ℤ◌, List, get_or, length}
use mir.Val.{SFits}
use Rattle.std.proofs.lemmas.Int.{ints}
use Rattle.std.specs.Int.{int_min, int_max}
use Rattle.std.proofs.lemmas.List.{get_or_past}
use Rattle.row_bound.specs.Bound.{factor}

pub factor-past : (mus : List ℤ) (i : ℕ) → length mus ≤ i → pos 0 ≡ factor mus i
unfolding factor
factor-past mus i h = let e = get_or_past mus i (pos 0) h in rw e refl

pub factor-is : (mus : List ℤ) (i : ℕ) (x : ℤ) → x ≡ get_or mus i (pos 0) → int_max (negsuc 268435455) (int_min x (pos 268435456)) ≡ factor mus i
unfolding factor
factor-is mus i x e = ap (λ t. int_max (negsuc 268435455) (int_min t (pos 268435456))) e

pub kept : (x : ℤ) → SFits w64 x → to_z w64 (of_z w64 x) ≡ x
kept x fits = omega (arith, ints, fits)

clamp-order : (x n m : ℤ) → n ≡ int_min x (pos 268435456) → m ≡ int_max n (negsuc 268435455) → m ≡ int_max (negsuc 268435455) (int_min x (pos 268435456))
clamp-order x n m e f = grind (arith, ints)

clamp-range : (x n m : ℤ) → n ≡ int_min x (pos 268435456) → m ≡ int_max n (negsuc 268435455) → (negsuc 268435455 ≤ℤ m) × (m ≤ℤ pos 268435456)
clamp-range x n m e f = (grind (arith, ints), grind (arith, ints))

same-clamp : (x n m : ℤ) → n ≡ int_min x (pos 268435456) → m ≡ int_max (to_z w64 (of_z w64 n)) (negsuc 268435455) → SFits w64 n → to_z w64 (of_z w64 m) ≡ int_max (negsuc 268435455) (int_min x (pos 268435456))
same-clamp x n m e f fits =
    let k : m ≡ int_max n (negsuc 268435455) = f ∙ ap (λ t. int_max t (negsuc 268435455)) (kept n fits) in
    let r = clamp-range x n m e k in
    let s : to_z w64 (of_z w64 m) ≡ m = omega (arith, ints, r.0, r.1) in s ∙ clamp-order x n m e k

pub factor-kept : (mus : List ℤ) (i : ℕ) (n m : ℤ) → n ≡ int_min (get_or mus i (pos 0)) (pos 268435456) → m ≡ int_max (to_z w64 (of_z w64 n)) (negsuc 268435455) → SFits w64 n → to_z w64 (of_z w64 m) ≡ factor mus i
unfolding factor
factor-kept mus i n m e f fits = same-clamp (get_or mus i (pos 0)) n m e f fits
