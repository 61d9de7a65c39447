-- Layers one after another, and their count.
use Rattle.std.proofs.Common.{◌≡◌, ℕ, zero, suc, ◌+◌, ◌-◌, ◌*◌, ◌%◌, ◌/◌, ◌<◌, ◌≤◌, ◌⊎◌, inl, inr, ℤ, List, [], ◌∷◌, ◌++◌, length, get_or, arith, refl, ap, sym, ◌∙◌, subst, min, cond, length-append}
use Rattle.std.specs.Prelude.{nat_lt, nat_eq}
use Rattle.std.specs.List.{Contains}
use Rattle.std.proofs.Math.Nat.{mul-pos, eq-or-lt_of_le}
use Rattle.std.proofs.lemmas.Bool.{cond-true, cond-false, lt-ltb, le-ltb, eq-eqb, ne_eqb}
use Rattle.open_cells.specs.declared.node.Node.{Node}
use Rattle.open_cells.specs.Nodes.{IsRising}
use Rattle.open_cells.proofs.Order.{rising-nil}
use Rattle.open_cells.specs.Reach.{AllOpen, IsFront}
use Rattle.open_cells.specs.Counts.{nodes_at, count_of, IsMany, AreFronts, IsOverflow, IsBuilt}
use Rattle.machine_core.specs.Rules.{IsMachine, Rules}
use Rattle.std.proofs.Math.Nat.{mod-eq_of_lt, div-eq_of_lt, sub-zero}
use Rattle.std.specs.Prelude.{slice_index}
use Rattle.block_steps.specs.Tables.{HoldLater}
use Rattle.machine_core.specs.declared.boxes.Bx.{Bx}
use Rattle.machine_core.specs.declared.boxes.Cell.{Cell}
use Rattle.machine_core.specs.Blocks.{first_only}
use Rattle.machine_core.specs.Cells.{cell_of, cell_box}
use Rattle.machine_core.specs.Decoder.{start}
use Rattle.machine_core.specs.Floors.{top, rest, floors_from}
use Rattle.machine_core.specs.Rules.{grid}
use Rattle.open_cells.specs.Paths.{Opens}

pub nodes-front : (xs : List (List Node)) (v : List Node) (i : ℕ) → i < length xs → nodes_at (xs ++ v ∷ []) i ≡ nodes_at xs i
nodes-front [] v i h = absurd (omega arith)
nodes-front (x ∷ xs) v zero h = refl
nodes-front (x ∷ xs) v (suc i) h = nodes-front xs v i (omega arith)

nodes-last : (xs : List (List Node)) (v : List Node) → nodes_at (xs ++ v ∷ []) (length xs) ≡ v
nodes-last [] v = refl
nodes-last (x ∷ xs) v = nodes-last xs v

pub nodes-get : (xs : List (List Node)) (i : ℕ) (d : List Node) → i < length xs → get_or xs i d ≡ nodes_at xs i
nodes-get [] i d h = absurd (omega arith)
nodes-get (x ∷ xs) zero d h = refl
nodes-get (x ∷ xs) (suc i) d h = nodes-get xs i d (omega arith)

pub nodes-past : (xs : List (List Node)) (i : ℕ) → length xs ≤ i → nodes_at xs i ≡ []
nodes-past [] i h = refl
nodes-past (x ∷ xs) zero h = absurd (omega arith)
nodes-past (x ∷ xs) (suc i) h = nodes-past xs i (omega arith)

count-same : (f g : ℕ → List Node) (n : ℕ) → ((i : ℕ) → i < n → f i ≡ g i) → count_of f n ≡ count_of g n
count-same f g zero h = refl
count-same f g (suc n) h =
    let a = count-same f g n (λ i l. h i (omega arith)) in let b = ap (length {A = Node}) (h n (omega arith)) in omega arith

add-none : (n : ℕ) → n + 0 ≡ n
add-none n = omega arith

add-later : (n k : ℕ) → n + suc k ≡ suc (n + k)
add-later n k = omega arith

add-one' : (n : ℕ) → n + 1 ≡ suc n
add-one' n = omega arith

count-grows : (f : ℕ → List Node) (n k : ℕ) → count_of f n ≤ count_of f (n + k)
count-grows f n zero = let e = ap (count_of f) (add-none n) in omega arith
count-grows f n (suc k) =
    let e : count_of f (n + suc k) ≡ count_of f (suc (n + k)) = ap (count_of f) (add-later n k) in
    let i = count-grows f n k in omega arith

below-or : (i n : ℕ) → (i < n) ⊎ ((i ≡ n) ⊎ (n < i))
below-or i n = grind arith

pub at-last : (xs : List (List Node)) (v : List Node) (n : ℕ) → length xs ≡ n → nodes_at (xs ++ v ∷ []) n ≡ v
at-last xs v n e = ap (nodes_at (xs ++ v ∷ [])) (sym e) ∙ nodes-last xs v

pub built-first : (m : Rules) (targets : List ℤ) (blocks level most share : ℕ) (layers : List (List Node)) (v : List Node) (count : ℕ) → layers ≡ v ∷ [] → IsFront m targets blocks level most 0 v
    → count ≡ length v → length v ≤ share → IsBuilt m targets blocks level most share layers 1 count
built-first m targets blocks level most share layers v count e f c le =
    subst (λ (z : List (List Node)). IsBuilt m targets blocks level most share z 1 count) (sym e) (record {
      size = refl;
      each = λ i h. (let z : 0 ≡ i = omega arith in subst (λ (j : ℕ). IsFront m targets blocks level most j (nodes_at (v ∷ []) j)) z f);
      count_is = omega arith;
      few = omega arith;
    })

pub built-more : (m : Rules) (targets : List ℤ) (blocks level most share : ℕ) (old new : List (List Node)) (v : List Node) (n i count more room : ℕ) → IsBuilt m targets blocks level most share old n count
    → new ≡ old ++ v ∷ [] → i ≡ n → IsFront m targets blocks level most i v → room ≡ share - count → length v ≤ room → more ≡ count + length v → IsBuilt m targets blocks level most share new (n + 1) more
built-more m targets blocks level most share old new v n i count more room b e ie f re le me =
    let s = b.size in
    let last = at-last old v n s in
    let fn = subst (λ (j : ℕ). IsFront m targets blocks level most j v) ie f in
    let same : count_of (nodes_at (old ++ v ∷ [])) n ≡ count_of (nodes_at old) n = count-same _ _ n (λ j l. nodes-front old v j (omega arith)) in
    let len = ap (length {A = Node}) last in
    let succ : count_of (nodes_at (old ++ v ∷ [])) (n + 1) ≡ count_of (nodes_at (old ++ v ∷ [])) n + length (nodes_at (old ++ v ∷ []) n) = ap (count_of (nodes_at (old ++ v ∷ []))) (add-one' n) in
    let ci = b.count_is in let fw = b.few in
    subst (λ (z : List (List Node)). IsBuilt m targets blocks level most share z (n + 1) more) (sym e) (record {
      size = (let l : length (old ++ v ∷ []) ≡ length old + 1 = length-append old (v ∷ []) in omega arith);
      each = λ j h. (elim (eq-or-lt_of_le {n = j} {m = n} (omega arith)) [
        | inl q ↦ subst (λ (k : ℕ). IsFront m targets blocks level most k (nodes_at (old ++ v ∷ []) k)) (sym q) (subst (λ (z : List Node). IsFront m targets blocks level most n z) (sym last) fn)
        | inr lt ↦ subst (λ (z : List Node). IsFront m targets blocks level most j z) (sym (nodes-front old v j (omega arith))) (b.each j lt)
      ]);
      count_is = omega arith;
      few = omega arith;
    })

-- layers below n, one at n, and none above
abbrev pub over : (ℕ → List Node) → ℕ → List Node → ℕ → List Node
over f n xs i = cond (nat_lt i n) (f i) (cond (nat_eq i n) xs [])

over-below : (f : ℕ → List Node) (n : ℕ) (xs : List Node) (i : ℕ) → i < n → over f n xs i ≡ f i
over-below f n xs i h = cond-true (nat_lt i n) (f i) (cond (nat_eq i n) xs []) (lt-ltb i n h)

over-at : (f : ℕ → List Node) (n : ℕ) (xs : List Node) (i : ℕ) → i ≡ n → over f n xs i ≡ xs
over-at f n xs i e = cond-false (nat_lt i n) (f i) (cond (nat_eq i n) xs []) (le-ltb i n (omega arith)) ∙ cond-true (nat_eq i n) xs [] (eq-eqb i n e)

over-above : (f : ℕ → List Node) (n : ℕ) (xs : List Node) (i : ℕ) → n < i → over f n xs i ≡ []
over-above f n xs i h = cond-false (nat_lt i n) (f i) (cond (nat_eq i n) xs []) (le-ltb i n (omega arith)) ∙ cond-false (nat_eq i n) xs [] (ne_eqb i n (λ e. omega arith))

open-nil : (m : Rules) (targets : List ℤ) (blocks level most i : ℕ) → AllOpen m targets blocks level most i []
open-nil m targets blocks level most i = record { each = λ x c. absurd (omega (arith, c.1)) }

pub many-of : (m : Rules) (targets : List ℤ) (blocks level most share : ℕ) (f : ℕ → List Node) (n : ℕ) (xs : List Node) → ((i : ℕ) → i < n → IsFront m targets blocks level most i (f i))
    → IsRising xs → AllOpen m targets blocks level most n xs → share < count_of f n + length xs → n < blocks * m.decoder.samples → IsMany m targets blocks level most share
many-of m targets blocks level most share f n xs each rise opened more within =
    let same : count_of (over f n xs) n ≡ count_of f n = count-same _ _ n (λ i h. over-below f n xs i h) in
    let here = ap (length {A = Node}) (over-at f n xs n refl) in
    let grows = count-grows (over f n xs) (suc n) (blocks * m.decoder.samples - suc n) in
    let end : count_of (over f n xs) (suc n + (blocks * m.decoder.samples - suc n)) ≡ count_of (over f n xs) (blocks * m.decoder.samples) = ap (count_of (over f n xs)) (omega arith) in
    record {
      layers = over f n xs;
      rising = λ i. (elim (below-or i n) [
        | inl lt ↦ subst (λ (z : List Node). IsRising z) (sym (over-below f n xs i lt)) (each i lt).rising
        | inr r ↦ (elim r [
          | inl e ↦ subst (λ (z : List Node). IsRising z) (sym (over-at f n xs i e)) rise
          | inr gt ↦ subst (λ (z : List Node). IsRising z) (sym (over-above f n xs i gt)) rising-nil
        ])
      ]);
      opened = λ i. (elim (below-or i n) [
        | inl lt ↦ subst (λ (z : List Node). AllOpen m targets blocks level most i z) (sym (over-below f n xs i lt)) (each i lt).opened
        | inr r ↦ (elim r [
          | inl e ↦ subst (λ (z : List Node). AllOpen m targets blocks level most i z) (sym (over-at f n xs i e)) (subst (λ (j : ℕ). AllOpen m targets blocks level most j xs) (sym e) opened)
          | inr gt ↦ subst (λ (z : List Node). AllOpen m targets blocks level most i z) (sym (over-above f n xs i gt)) (open-nil m targets blocks level most i)
        ])
      ]);
      many = omega arith;
    }

pub overflow-many : (m : Rules) (targets : List ℤ) (blocks level most share : ℕ) (layers : List (List Node)) (n i count room : ℕ) → IsBuilt m targets blocks level most share layers n count
    → i ≡ n → n < blocks * m.decoder.samples → room ≡ share - count → IsOverflow m targets blocks level most room i → IsMany m targets blocks level most share
overflow-many m targets blocks level most share layers n i count room b ie within re o =
    let ci = b.count_is in let fw = b.few in let mo = o.more in
    many-of m targets blocks level most share (nodes_at layers) n o.nodes b.each o.rising (subst (λ (j : ℕ). AllOpen m targets blocks level most j o.nodes) ie o.opened) (omega arith) within

pub first-many : (m : Rules) → IsMachine m → (targets : List ℤ) (blocks level most share : ℕ) (xs : List Node) → IsFront m targets blocks level most 0 xs → 0 < blocks → share < length xs → IsMany m targets blocks level most share
first-many m laws targets blocks level most share xs f some more =
    let p = mul-pos some laws.some_samples in
    many-of m targets blocks level most share (λ i. []) 0 xs (λ i h. absurd (omega arith)) f.rising f.opened (omega arith) (omega arith)

pub built-all : (m : Rules) (targets : List ℤ) (blocks level most share : ℕ) (layers : List (List Node)) (n count : ℕ) → IsBuilt m targets blocks level most share layers n count → n ≡ blocks * m.decoder.samples
    → AreFronts m targets blocks level most share layers
built-all m targets blocks level most share layers n count b e =
    let ci = b.count_is in let fw = b.few in
    record { size = b.size ∙ e; each = λ i h. b.each i (omega arith); few = (let q = ap (count_of (nodes_at layers)) e in omega arith) }

first-rest : (m : Rules) → IsMachine m → (targets : List ℤ) (blocks lane : ℕ) (bx : Bx) → rest m first_only targets blocks 0 lane bx ≡ floors_from m first_only targets 0 blocks
first-rest m laws targets blocks lane bx =
    let zm : 0 % m.decoder.samples ≡ 0 = mod-eq_of_lt laws.some_samples in
    let zd : 0 / m.decoder.samples ≡ 0 = div-eq_of_lt laws.some_samples in
    rw (zm, zd, sub-zero) refl

less-none : (n : ℕ) → n - 0 ≡ n
less-none n = omega arith

first-floor : (m : Rules) (targets : List ℤ) (blocks : ℕ) (later : List ℕ) → HoldLater m targets blocks later → slice_index later 0 ≡ min top (floors_from m first_only targets 0 blocks)
first-floor m targets blocks later h = h.each 0 (omega arith) ∙ ap (λ z. min top (floors_from m first_only targets 0 z)) (less-none blocks)

-- no path is open where the floor of the whole is too much
pub front-none : (m : Rules) → IsMachine m → (targets : List ℤ) (blocks level most : ℕ) (later : List ℕ) (xs : List Node) → HoldLater m targets blocks later → most ≤ slice_index later 0 → xs ≡ [] → IsFront m targets blocks level most 0 xs
front-none m laws targets blocks level most later xs h le e =
    subst (λ (z : List Node). IsFront m targets blocks level most 0 z) (sym e) (record {
      rising = rising-nil;
      opened = open-nil m targets blocks level most 0;
      all = λ lane cell cost o. (let r = first-rest m laws targets blocks lane (cell_box (grid m) level cell) in let f = first-floor m targets blocks later h in let small = o.3 in absurd (omega arith));
    })

one-there : (x y : Node) → Contains (x ∷ []) y → x ≡ y
one-there x y (zero, h, e) = e
one-there x y (suc k, h, e) = absurd (omega arith)

-- else the start is, and no other cell
pub front-one : (m : Rules) → IsMachine m → (targets : List ℤ) (blocks level most : ℕ) (later : List ℕ) (xs : List Node) (cell : Cell) → HoldLater m targets blocks later → slice_index later 0 < most → most ≤ top → cell ≡ cell_of (grid m) level start
    → xs ≡ record { lane = 65535; cell = cell; cost = 0 } ∷ [] → IsFront m targets blocks level most 0 xs
front-one m laws targets blocks level most later xs cell h lt small ce e =
    let x : Node = record { lane = 65535; cell = cell; cost = 0 } in
    let f = first-floor m targets blocks later h in
    subst (λ (z : List Node). IsFront m targets blocks level most 0 z) (sym e) (record {
      rising = record { rises = λ i j d a b. absurd (omega arith) };
      opened = record {
        each = λ y c. subst (λ (z : Node). Opens m targets blocks level most 0 z.lane z.cell z.cost) (one-there x y c)
            (refl, ce, refl, (let r = first-rest m laws targets blocks 65535 (cell_box (grid m) level cell) in omega arith));
      };
      all = λ lane c cost o. record { node = x; there = (0, omega arith, refl); lane_is = sym o.0; cell_is = ce ∙ sym o.1; cheap = omega arith };
    })
