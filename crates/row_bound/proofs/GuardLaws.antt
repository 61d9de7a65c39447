-- What the bound of rows tells of their last one.
use Rattle.std.proofs.Common.{◌≡◌, ℕ, ◌+◌, ◌-◌, ◌*◌, ◌≤◌, arith, ap, ◌∙◌, sym, inl, inr, true, false, true≢false}
use Rattle.std.specs.Prelude.{ℤ, pos, ◌≤ℤ◌, List, [], ◌∷◌, ◌++◌, length}
use Rattle.std.proofs.lemmas.Int.{ints}
use Rattle.std.proofs.lemmas.List.{length-append}
use Rattle.adpcm_nums.specs.Nums.{square_of}
use Rattle.row_bound.specs.declared.row.Row.{Row}
use Rattle.row_bound.specs.declared.layer.Layer.{Layer}
use Rattle.row_bound.specs.Paths.{Path, by_row, Owes, OwesFrom}
use Rattle.row_bound.specs.Bound.{bound, factor, Outward}
use Rattle.row_bound.specs.Guards.{Above, Tells}
use Rattle.row_bound.proofs.Direction.{bound-out}

last-place : (ws rows : List Row) (w : Row) → rows ≡ ws ++ (w ∷ []) → length rows - 1 ≡ length ws + 0
last-place ws rows w e = let l = ap length e in let k = length-append ws (w ∷ []) in omega (arith, l, k)

-- what the floor of rows says of other rows whose bound is not less
abbrev pub Holds : Row → Row → List Row → List ℤ → ℕ → ℕ → Type 0
Holds v u rows mus n r = (steps : List ℤ) (ws : List Row) (layers : List Layer) → bound rows mus 0 v u (pos 0) (pos 0) ≤ℤ bound ws mus 0 v u (pos 0) (pos 0) → Owes steps layers n → OwesFrom steps v u ws layers r

-- the last row is moved outward
outward : (v u : Row) (rows : List Row) (mus : List ℤ) (n r : ℕ) (steps : List ℤ) (ws : List Row) (w z : Row) (layers : List Layer) → Holds v u rows mus n r → rows ≡ ws ++ (w ∷ []) → Owes steps layers n
    → Outward (factor mus (length ws + 0)) w z → OwesFrom steps v u (ws ++ (z ∷ [])) layers r
outward v u rows mus n r steps ws w z layers holds e owes o =
    let b = bound-out ws mus 0 v u w z (pos 0) (pos 0) o in
    let k = ap (λ l. bound l mus 0 v u (pos 0) (pos 0)) e in
    holds steps (ws ++ (z ∷ [])) layers (omega (arith, ints, b, k)) owes

pub tells-up : (v u : Row) (rows : List Row) (mus : List ℤ) (n r : ℕ) (m : ℤ) → Holds v u rows mus n r → m ≡ factor mus (length rows - 1) → pos 0 ≤ℤ m
    → (steps : List ℤ) (ws : List Row) (layers : List Layer) (w : Row) → rows ≡ ws ++ (w ∷ []) → Owes steps layers n → Tells steps v u ws layers w r true
tells-up v u rows mus n r m holds em sign steps ws layers w e owes =
    let f : m ≡ factor mus (length ws + 0) = em ∙ ap (factor mus) (last-place ws rows w e) in
    record {
      up = λ _. record {
        all = λ z a. outward v u rows mus n r steps ws w z layers holds e owes
            (record { d = a.d; a = a.a; b = a.b; weight = a.weight; known = a.known; out = a.out; side = inl (omega (arith, ints, f, sign), a.low, a.high) });
      };
      down = λ k. absurd (true≢false k);
    }

pub tells-down : (v u : Row) (rows : List Row) (mus : List ℤ) (n r : ℕ) (m : ℤ) → Holds v u rows mus n r → m ≡ factor mus (length rows - 1) → m ≤ℤ pos 0
    → (steps : List ℤ) (ws : List Row) (layers : List Layer) (w : Row) → rows ≡ ws ++ (w ∷ []) → Owes steps layers n → Tells steps v u ws layers w r false
tells-down v u rows mus n r m holds em sign steps ws layers w e owes =
    let f : m ≡ factor mus (length ws + 0) = em ∙ ap (factor mus) (last-place ws rows w e) in
    record {
      up = λ k. absurd (true≢false (sym k));
      down = λ _. record {
        all = λ z a. outward v u rows mus n r steps ws w z layers holds e owes
            (record { d = sym a.d; a = sym a.a; b = sym a.b; weight = sym a.weight; known = sym a.known; out = sym a.out; side = inr (omega (arith, ints, f, sign), a.low, a.high) });
      };
    }

known-cost : (w : ℕ) (t out : ℤ) (n c : ℕ) → t ≡ out → n ≤ c → w * square_of out + n ≤ w * square_of t + c
known-cost w t out n c e h = rw e (omega (arith, h))

-- a path costs at least what its last row and its layers cost
last-costs : (steps : List ℤ) (ws : List Row) (layers : List Layer) (z : Row) (x y : ℤ) (n c : ℕ) → z.known ≡ true → Owes steps layers n → Path steps (ws ++ (z ∷ [])) layers x y c → z.weight * square_of z.out + n ≤ c
last-costs steps [] layers z x y n _ k owes (by_row _ _ _ _ _ t c f p) = known-cost z.weight t z.out n c (f.at k) (owes t x c p)
last-costs steps (v ∷ ws) layers z x y n _ k owes (by_row _ _ _ _ _ t c f p) = let r = last-costs steps ws layers z t x n c k owes p in omega (arith, r)

same-cost : (w z : Row) (n : ℕ) → Above w z → w.weight * square_of w.out + n ≡ z.weight * square_of z.out + n
same-cost w z n a = ap (λ t. t * square_of w.out + n) a.weight ∙ ap (λ t. z.weight * square_of t + n) a.out

pub tells-known : (v u w : Row) (n r : ℕ) → w.known ≡ true → r ≡ w.weight * square_of w.out + n
    → (steps : List ℤ) (ws : List Row) (layers : List Layer) → Owes steps layers n → Tells steps v u ws layers w r true
tells-known v u w n r k e steps ws layers owes = record {
  up = λ _. record {
    all = λ z a y x c path.
        let s = same-cost w z n a in let l = last-costs steps ws layers z x y n c (sym a.known ∙ k) owes path in omega (arith, e, s, l);
  };
  down = λ t. absurd (true≢false t);
}

pub tells-nothing : (v u w : Row) (steps : List ℤ) (ws : List Row) (layers : List Layer) → Tells steps v u ws layers w 0 true
tells-nothing v u w steps ws layers = record { up = λ _. record { all = λ z a y x c path. omega arith }; down = λ t. absurd (true≢false t) }
