-- Steps that rise, one after another.
use Rattle.std.proofs.Common.{◌≡◌, ℕ, ◌+◌, ◌<◌, ◌≤◌, ◌^◌, arith, refl, ◌⊎◌, inl, inr}
use Rattle.std.specs.Prelude.{ℤ, pos, negsuc, ◌≤ℤ◌, List, length, get_or}
use Rattle.std.proofs.lemmas.Int.{ints}
use Rattle.row_bound.specs.Ladder.{IsLadder}

-- the first n steps rise, from the least allowed on, and none is above the last one
pub record RisesTo (steps : List ℤ) (n : ℕ) (last : ℤ) : Type 0 where
  pub from : negsuc 16777215 ≤ℤ last
  pub to : last ≤ℤ pos (2 ^ 24)
  pub low : (i : ℕ) → i < n → negsuc (2 ^ 24) ≤ℤ get_or steps i (pos 0)
  pub below : (i : ℕ) → i < n → get_or steps i (pos 0) ≤ℤ last
  pub rises : (i j : ℕ) → i ≤ j → j < n → get_or steps i (pos 0) ≤ℤ get_or steps j (pos 0)

pub rises-none : (steps : List ℤ) (last : ℤ) → last ≡ negsuc 16777215 → RisesTo steps 0 last
rises-none steps last e = record {
  from = omega (arith, ints, e);
  to = omega (arith, ints, e);
  low = λ i h. absurd (omega (arith, h));
  below = λ i h. absurd (omega (arith, h));
  rises = λ i j k h. absurd (omega (arith, h));
}

last-or : (j i : ℕ) → j < i + 1 → (j < i) ⊎ (j ≡ i)
last-or j i h = grind arith

at : (steps : List ℤ) (n i : ℕ) (x : ℤ) → x ≡ get_or steps n (pos 0) → i ≡ n → get_or steps i (pos 0) ≡ x
at steps n i x e h = rw (h, e) refl

pub rises-more : (steps : List ℤ) (n : ℕ) (last x : ℤ) → RisesTo steps n last → x ≡ get_or steps n (pos 0) → last ≤ℤ x → x ≤ℤ pos (2 ^ 24) → RisesTo steps (n + 1) x
rises-more steps n last x old e up most =
    let from = old.from in
    let below : (i : ℕ) → i < n + 1 → get_or steps i (pos 0) ≤ℤ x = λ i h.
    elim (last-or i n h) [
      | inl under ↦ (let b = old.below i under in omega (arith, ints, b, up))
      | inr same ↦ (let k = at steps n i x e same in omega (arith, ints, k))
    ] in
    record {
      from = omega (arith, ints, from, up);
      to = most;
      low = λ i h. elim (last-or i n h) [
        | inl under ↦ old.low i under
        | inr same ↦ (let k = at steps n i x e same in omega (arith, ints, k, from, up))
      ];
      below = below;
      rises = λ i j k h. elim (last-or j n h) [
        | inl under ↦ old.rises i j k under
        | inr same ↦ (let b = below i (omega (arith, k, h)) in let z = at steps n j x e same in omega (arith, ints, b, z))
      ];
    }

pub ladder-of : (steps : List ℤ) (n : ℕ) (last : ℤ) → RisesTo steps n last → length steps ≤ n → IsLadder steps
ladder-of steps n last r h = record {
  low = λ i k. r.low i (omega (arith, h, k));
  high = λ i k. let b = r.below i (omega (arith, h, k)) in let t = r.to in omega (arith, ints, b, t);
  rises = λ i j l k. r.rises i j l (omega (arith, h, k));
}
