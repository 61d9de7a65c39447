-- The rows of a layer that a search is done with.
use Rattle.std.proofs.Common.{◌≡◌, ℕ, ◌+◌, ◌-◌, ◌<◌, ◌≤◌, ◌^◌, w64, to_z, of_z, arith, subst, sym, refl, ◌⊎◌, inl, inr, true, false, Bool}
use Rattle.std.specs.Prelude.{ℤ, pos, negsuc, ◌≤ℤ◌, List, [], ◌∷◌, ◌++◌, length, get_or}
use Rattle.std.proofs.lemmas.Int.{ints}
use Rattle.row_bound.specs.declared.row.Row.{Row}
use Rattle.row_bound.specs.declared.layer.Layer.{Layer}
use Rattle.row_bound.specs.declared.done.Done.{Done}
use Rattle.row_bound.specs.declared.done.Side.{Side}
use Rattle.row_bound.specs.declared.done.Side.TheVariants.{Up, Down, Apart}
use Rattle.row_bound.specs.Rows.{IsMoved}
use Rattle.row_bound.specs.Ladder.{IsLadder}
use Rattle.row_bound.specs.Paths.{OwesFrom}
use Rattle.row_bound.specs.Guards.{Tells, Stands, Searched}
use Rattle.row_bound.proofs.SameRows.{owes-as, moved-above, same-row}

last-or : (j i : ℕ) → j < i + 1 → (j < i) ⊎ (j ≡ i)
last-or j i h = grind arith

first-or : (j i : ℕ) → i - 1 ≤ j → 0 < i → (i ≤ j) ⊎ (j ≡ i - 1)
first-or j i h k = grind arith

below-or : (j i : ℕ) → (j < i) ⊎ (i ≤ j)
below-or j i = grind arith

steps-as : (steps : List ℤ) (i j : ℕ) → i ≡ j → get_or steps i (pos 0) ≤ℤ get_or steps j (pos 0)
steps-as steps i j e = rw e (omega (arith, ints))

-- the row at a step that is done
at-step : (steps : List ℤ) (v u : Row) (ws : List Row) (layers : List Layer) (layer : Layer) (i j : ℕ) (w z : Row) (t : ℕ) → i ≡ j → IsMoved layer.base (get_or steps j (pos 0)) w → IsMoved layer.base (get_or steps i (pos 0)) z
    → OwesFrom steps v u (ws ++ (w ∷ [])) layers t → OwesFrom steps v u (ws ++ (z ∷ [])) layers t
at-step steps v u ws layers layer i j w z t e m k owes =
    owes-as steps v u ws layers w z t (moved-above layer.base w z _ _ m k (steps-as steps j i (sym e))) (moved-above layer.base z w _ _ k m (steps-as steps i j e)) owes

pub up-done : (steps : List ℤ) (v u : Row) (ws : List Row) (layers : List Layer) (layer : Layer) (d e : Done) (w : Row) (t : ℕ) → e.low ≡ d.low → e.high ≡ d.high + 1 → e.apart ≡ d.apart
    → Stands steps layer d Up w → Searched steps v u ws layers layer d t → OwesFrom steps v u (ws ++ (w ∷ [])) layers t → Searched steps v u ws layers layer e t
up-done steps v u ws layers layer d e w t el eh ea stands old owes = record {
  free = λ i z low high m. elim (last-or i d.high (omega (arith, high, eh))) [
    | inl under ↦ old.free i z (omega (arith, low, el)) under m
    | inr same ↦ at-step steps v u ws layers layer i d.high w z t same stands.1 m owes
  ];
  first = λ h. old.first (omega (arith, h, ea));
  second = λ h. old.second (omega (arith, h, ea));
}

pub down-done : (steps : List ℤ) (v u : Row) (ws : List Row) (layers : List Layer) (layer : Layer) (d e : Done) (w : Row) (t : ℕ) → e.low ≡ d.low - 1 → e.high ≡ d.high → e.apart ≡ d.apart
    → Stands steps layer d Down w → Searched steps v u ws layers layer d t → OwesFrom steps v u (ws ++ (w ∷ [])) layers t → Searched steps v u ws layers layer e t
down-done steps v u ws layers layer d e w t el eh ea stands old owes = record {
  free = λ i z low high m. elim (first-or i d.low (omega (arith, low, el)) stands.0) [
    | inl over ↦ old.free i z over (omega (arith, high, eh)) m
    | inr same ↦ at-step steps v u ws layers layer i (d.low - 1) w z t same stands.1 m owes
  ];
  first = λ h. old.first (omega (arith, h, ea));
  second = λ h. old.second (omega (arith, h, ea));
}

row-as : (steps : List ℤ) (v u : Row) (ws : List Row) (layers : List Layer) (w z : Row) (t : ℕ) → w ≡ z → OwesFrom steps v u (ws ++ (w ∷ [])) layers t → OwesFrom steps v u (ws ++ (z ∷ [])) layers t
row-as steps v u ws layers w z t e owes = subst (λ (r : Row). OwesFrom steps v u (ws ++ (r ∷ [])) layers t) e owes

pub apart-done : (steps : List ℤ) (v u : Row) (ws : List Row) (layers : List Layer) (layer : Layer) (d e : Done) (w : Row) (t : ℕ) → e.low ≡ d.low → e.high ≡ d.high → e.apart ≡ d.apart + 1
    → Stands steps layer d Apart w → Searched steps v u ws layers layer d t → OwesFrom steps v u (ws ++ (w ∷ [])) layers t → Searched steps v u ws layers layer e t
apart-done steps v u ws layers layer d e w t el eh ea (inl first) old owes =
    let none = first.0 in
    record {
      free = λ i z low high m. old.free i z (omega (arith, low, el)) (omega (arith, high, eh)) m;
      first = λ h. row-as steps v u ws layers w layer.first t first.1 owes;
      second = λ h. absurd (omega (arith, h, ea, none));
    }
apart-done steps v u ws layers layer d e w t el eh ea (inr second) old owes =
    let one = second.0 in
    record {
      free = λ i z low high m. old.free i z (omega (arith, low, el)) (omega (arith, high, eh)) m;
      first = λ h. old.first (omega (arith, one));
      second = λ h. row-as steps v u ws layers w layer.second t second.1 owes;
    }

-- a bound that is enough is enough for the row itself
pub told : (steps : List ℤ) (v u : Row) (ws : List Row) (layers : List Layer) (w : Row) (floor t : ℕ) (rises : Bool) → Tells steps v u ws layers w floor rises → t ≤ floor → OwesFrom steps v u (ws ++ (w ∷ [])) layers t
told steps v u ws layers w floor t true tells h y x c path = let o = (tells.up refl).all w (same-row w) y x c path in omega (arith, o, h)
told steps v u ws layers w floor t false tells h y x c path = let o = (tells.down refl).all w (same-row w) y x c path in omega (arith, o, h)

less-from : (steps : List ℤ) (v u : Row) (ws : List Row) (layers : List Layer) (n m : ℕ) → m ≤ n → OwesFrom steps v u ws layers n → OwesFrom steps v u ws layers m
less-from steps v u ws layers n m h o y x c path = let t = o y x c path in omega (arith, t, h)

-- and for all rows further up where it rises
pub up-closed : (steps : List ℤ) (v u : Row) (ws : List Row) (layers : List Layer) (layer : Layer) (d e : Done) (w : Row) (floor t : ℕ) (rises : Bool) → e.low ≡ d.low → e.high ≡ length steps → e.apart ≡ d.apart
    → IsLadder steps → Stands steps layer d Up w → Searched steps v u ws layers layer d t → Tells steps v u ws layers w floor rises → rises ≡ true → t ≤ floor → Searched steps v u ws layers layer e t
up-closed steps v u ws layers layer d e w floor t rises el eh ea ladder stands old tells up h = record {
  free = λ i z low high m. elim (below-or i d.high) [
    | inl under ↦ old.free i z (omega (arith, low, el)) under m
    | inr over ↦ less-from steps v u (ws ++ (z ∷ [])) layers floor t h ((tells.up up).all z (moved-above layer.base w z _ _ stands.1 m (ladder.rises d.high i over (omega (arith, high, eh)))))
  ];
  first = λ k. old.first (omega (arith, k, ea));
  second = λ k. old.second (omega (arith, k, ea));
}

-- or further down where it does not
pub down-closed : (steps : List ℤ) (v u : Row) (ws : List Row) (layers : List Layer) (layer : Layer) (d e : Done) (w : Row) (floor t : ℕ) (rises : Bool) → e.low ≡ 0 → e.high ≡ d.high → e.apart ≡ d.apart → d.low ≤ length steps
    → IsLadder steps → Stands steps layer d Down w → Searched steps v u ws layers layer d t → Tells steps v u ws layers w floor rises → rises ≡ false → t ≤ floor → Searched steps v u ws layers layer e t
down-closed steps v u ws layers layer d e w floor t rises el eh ea within ladder stands old tells down h =
    let some = stands.0 in
    record {
      free = λ i z low high m. elim (below-or i d.low) [
        | inl under ↦ less-from steps v u (ws ++ (z ∷ [])) layers floor t h ((tells.down down).all z (moved-above layer.base z w _ _ m stands.1 (ladder.rises i (d.low - 1) (omega (arith, under)) (omega (arith, within, some)))))
        | inr over ↦ old.free i z over (omega (arith, high, eh)) m
      ];
      first = λ k. old.first (omega (arith, k, ea));
      second = λ k. old.second (omega (arith, k, ea));
    }

kept : (steps : List ℤ) (i : ℕ) → IsLadder steps → i < length steps → to_z w64 (of_z w64 (get_or steps i (pos 0))) ≡ get_or steps i (pos 0)
kept steps i l h = let a = l.low i h in let b = l.high i h in omega (arith, ints, a, b)

-- a step of a ladder, as the code holds it
pub kept-low : (steps : List ℤ) (i : ℕ) → IsLadder steps → i < length steps → negsuc (2 ^ 24) ≤ℤ to_z w64 (of_z w64 (get_or steps i (pos 0)))
kept-low steps i l h = let a = l.low i h in let k = kept steps i l h in omega (arith, ints, a, k)

pub kept-high : (steps : List ℤ) (i : ℕ) → IsLadder steps → i < length steps → to_z w64 (of_z w64 (get_or steps i (pos 0))) ≤ℤ pos (2 ^ 24)
kept-high steps i l h = let a = l.high i h in let k = kept steps i l h in omega (arith, ints, a, k)

pub stands-up : (steps : List ℤ) (layer : Layer) (d : Done) (side : Side) (w : Row) → IsLadder steps → side ≡ Up → d.high < length steps
    → IsMoved layer.base (to_z w64 (of_z w64 (get_or steps d.high (pos 0)))) w → Stands steps layer d side w
stands-up steps layer d side w l e h m = rw e (h, subst (λ (s : ℤ). IsMoved layer.base s w) (kept steps d.high l h) m)

pub stands-down : (steps : List ℤ) (layer : Layer) (d : Done) (side : Side) (w : Row) → IsLadder steps → side ≡ Down → 0 < d.low → d.low ≤ length steps
    → IsMoved layer.base (to_z w64 (of_z w64 (get_or steps (d.low - 1) (pos 0)))) w → Stands steps layer d side w
stands-down steps layer d side w l e h k m = rw e (h, subst (λ (s : ℤ). IsMoved layer.base s w) (kept steps (d.low - 1) l (omega (arith, h, k))) m)

pub count-as : (low count n : ℕ) → n ≡ count → low ≤ count → low ≤ n
count-as low count n e h = omega (arith, e, h)
