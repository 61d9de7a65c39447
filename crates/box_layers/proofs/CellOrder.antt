-- The order of cells.
use Rattle.std.proofs.Common.{◌≡◌, arith, refl, ap, ◌∙◌, Bool, true, false, ℤ, pos, ◌&&◌}
use Rattle.std.specs.Prelude.{◌+ℤ◌, ◌≤ℤ◌}
use Rattle.std.proofs.lemmas.Int.{ints}
use Rattle.machine_core.specs.declared.boxes.Cell.{Cell}
use Rattle.std.proofs.lemmas.Bool.Decides.{nat_tests}
use Rattle.box_layers.specs.declared.key.Key.{Key}
use Rattle.box_layers.specs.Cells.{before, in_range, same_cell}
use Rattle.box_layers.specs.Keys.{key_before}

in-true : (l h x : ℤ) → in_range l h x ≡ true → (l ≤ℤ x) × (x ≤ℤ h)
in-true l h x e = (grind (arith, ints), grind (arith, ints))

in-make : (l h x : ℤ) → l ≤ℤ x → x ≤ℤ h → in_range l h x ≡ true
in-make l h x p q = grind (arith, ints)

and-true : (a b : Bool) → (a && b) ≡ true → (a ≡ true) × (b ≡ true)
and-true true b h = (refl, h)
and-true false b h = cc

and-make : (a b : Bool) → a ≡ true → b ≡ true → (a && b) ≡ true
and-make a b p q = rw (p, q) refl

pub same-true : (c d : Cell) → same_cell c d ≡ true → c ≡ d
unfolding before same_cell
same-true c d h =
    let p = and-true _ _ h in let a = in-true c.a c.a d.a p.0 in let b = in-true c.b c.b d.b p.1 in
    let x : c.a ≡ d.a = omega (arith, ints) in
    let y : c.b ≡ d.b = omega (arith, ints) in
    let mk : ℤ → ℤ → Cell = λ a b. record { a = a; b = b } in
    ap (λ z. mk z c.b) x ∙ ap (mk d.a) y

pub same-refl : (c : Cell) → same_cell c c ≡ true
unfolding before same_cell
same-refl c = and-make _ _ (in-make c.a c.a c.a (omega (arith, ints)) (omega (arith, ints))) (in-make c.b c.b c.b (omega (arith, ints)) (omega (arith, ints)))

pub before-not-same : (c d : Cell) → before c d ≡ true → same_cell c d ≡ false
unfolding before same_cell
before-not-same c d h = grind (arith, ints)

pub after-not-same : (c d : Cell) → before d c ≡ true → same_cell c d ≡ false
unfolding before same_cell
after-not-same c d h = grind (arith, ints)

pub lt-trans : (c d e : Cell) → before c d ≡ true → before d e ≡ true → before c e ≡ true
unfolding before same_cell
lt-trans c d e h k = grind (arith, ints)

-- what is not before d is after all that d is after
pub ge-lt : (c d e : Cell) → before c d ≡ false → before c e ≡ true → before e d ≡ false
unfolding before same_cell
ge-lt c d e h k = grind (arith, ints)

pub le-lt : (c d e : Cell) → before d c ≡ false → before d e ≡ true → before c e ≡ true
unfolding before same_cell
le-lt c d e h k = grind (arith, ints)

pub le-not-same : (c d : Cell) → before c d ≡ false → same_cell c d ≡ false → before d c ≡ true
unfolding before same_cell
le-not-same c d h k = grind (arith, ints)

pub not-before : (c d : Cell) → before c d ≡ true → before d c ≡ false
unfolding before same_cell
not-before c d h = grind (arith, ints)

pub before-self : (c : Cell) → before c c ≡ false
unfolding before same_cell
before-self c = grind (arith, ints)

-- one column on
pub before-next : (x : Cell) (a b : ℤ) → before x (record { a = a; b = b }) ≡ true → before x (record { a = a; b = b +ℤ pos 1 }) ≡ true
unfolding before same_cell
before-next x a b h = grind (arith, ints)

pub same-next : (x : Cell) (a b : ℤ) → same_cell x (record { a = a; b = b }) ≡ true → before x (record { a = a; b = b +ℤ pos 1 }) ≡ true
unfolding before same_cell
same-next x a b h = grind (arith, ints)

pub not-next : (x : Cell) (a b : ℤ) → before x (record { a = a; b = b }) ≡ false → same_cell x (record { a = a; b = b }) ≡ false → before x (record { a = a; b = b +ℤ pos 1 }) ≡ false
unfolding before same_cell
not-next x a b h k = grind (arith, ints)

pub key-trans : (c d e : Key) → key_before c d ≡ true → key_before d e ≡ true → key_before c e ≡ true
unfolding key_before
key-trans c d e h k = grind (arith, nat_tests)
