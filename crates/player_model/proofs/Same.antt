-- Positions that pass the test of equality are equal.
use Rattle.std.proofs.Common.{◌≡◌, ℕ, Bool, true, false, ◌&&◌, refl, sym, ap, ◌∙◌, nat_eq}
use Rattle.std.specs.Prelude.{ℤ}
use Rattle.std.specs.Ordering.{int_eq}
use Rattle.std.proofs.Math.Bool.{beq}
use Rattle.std.proofs.lemmas.Bool.{and_parts, eqb-true}
use Rattle.std.proofs.lemmas.Bool.Decides.{Decides-int_eq}
use Rattle.machine_core.specs.declared.state.State.{State}
use Rattle.player_model.specs.declared.position.Position.{Position}

-- the tests of equality, field by field
abbrev pub same_state : State → State → Bool
same_state s t = int_eq s.a t.a && int_eq s.b t.b

abbrev pub same_position : Position → Position → Bool
same_position p q = nat_eq p.address q.address && (nat_eq p.place q.place && (nat_eq p.again q.again && (same_state p.history q.history && beq p.muted q.muted)))

same-flags : (x y : Bool) → beq x y ≡ true → x ≡ y
same-flags true true h = refl
same-flags true false h = sym h
same-flags false true h = h
same-flags false false h = refl

state-of : ℤ → ℤ → State
state-of a b = record { a = a; b = b }

states_equal : (s t : State) → same_state s t ≡ true → s ≡ t
unfolding state-of
states_equal s t h =
    let parts = and_parts _ _ h in
    let a : s.a ≡ t.a = (Decides-int_eq s.a t.a).0 parts.0 in
    let b : s.b ≡ t.b = (Decides-int_eq s.b t.b).0 parts.1 in
    ap (λ x. state-of x s.b) a ∙ ap (λ y. state-of t.a y) b

position-of : ℕ → ℕ → ℕ → State → Bool → Position
position-of address place again history muted = record { address = address; place = place; again = again; history = history; muted = muted }

-- positions that pass the test are equal
pub positions_equal : (p q : Position) → true ≡ same_position p q → p ≡ q
unfolding position-of
positions_equal p q h =
    let outer = and_parts _ _ (sym h) in
    let inner = and_parts _ _ outer.1 in
    let later = and_parts _ _ inner.1 in
    let last = and_parts _ _ later.1 in
    ap (λ x. position-of x p.place p.again p.history p.muted) (eqb-true _ _ outer.0)
    ∙ ap (λ x. position-of q.address x p.again p.history p.muted) (eqb-true _ _ inner.0)
    ∙ ap (λ x. position-of q.address q.place x p.history p.muted) (eqb-true _ _ later.0)
    ∙ ap (λ x. position-of q.address q.place q.again x p.muted) (states_equal _ _ last.0)
    ∙ ap (λ x. position-of q.address q.place q.again q.history x) (same-flags p.muted q.muted last.1)
