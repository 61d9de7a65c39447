-- The layers of a search are in the ranges and the order of a certificate.
use Rattle.std.proofs.Common.{◌≡◌, ℕ, suc, ◌+◌, ◌*◌, ◌/◌, ◌%◌, ◌^◌, ◌<◌, ◌≤◌, ◌⊎◌, inl, inr, ℤ, pos, negsuc, List, [], ◌∷◌, ◌++◌, length, arith, refl, ap, sym, subst, true, false, nat_eq}
use Rattle.std.specs.Prelude.{◌≤ℤ◌, ◌<ℤ◌, nat_lt}
use Rattle.std.specs.Bool.{⊤}
use Rattle.std.specs.List.{Contains}
use Rattle.std.proofs.Math.Nat.{mod-lt, mul-le-mul_right}
use Rattle.std.proofs.lemmas.Int.{ints}
use Rattle.std.proofs.lemmas.Nat.{div-add-mod'}
use Rattle.std.proofs.lemmas.Bool.{cond-true, cond-false, lt-ltb, le-ltb}
use Rattle.std.proofs.lemmas.Bool.Decides.{nat_tests}
use Rattle.machine_core.specs.declared.boxes.Cell.{Cell}
use Rattle.box_layers.specs.declared.cell_value.CellValue.{CellValue}
use Rattle.box_layers.specs.declared.key.Key.{Key}
use Rattle.box_layers.specs.Cells.{before, IsAfterAll}
use Rattle.box_layers.specs.Keys.{key_before}
use Rattle.box_layers.proofs.CellOrder.{lt-trans, key-trans}
use Rattle.bound_cert.specs.declared.shape.Limits.{Limits}
use Rattle.bound_cert.specs.Content.{Layer, IsBelowAll, AreSorted}
use Rattle.bound_cert.specs.Good.{LayersFit}
use Rattle.bound_cert.specs.Ranges.{cell_fits, key_fits}
use Rattle.open_cells.specs.declared.node.Node.{Node}
use Rattle.open_cells.specs.Counts.{nodes_at}
use Rattle.open_cells.specs.Nodes.{IsRising, Fits, rank, rank_of, lift}
use Rattle.branch_bound.specs.Keyed.{key_at, cell_of_node, joined, cut, keyed}
use Rattle.branch_bound.proofs.Joining.{begins}

pub not-same : (a b : ℕ) → b < a → nat_eq a b ≡ false
not-same a b h = grind (arith, nat_tests)

pub is-same : (a b : ℕ) → a ≡ b → nat_eq a b ≡ true
is-same a b h = grind (arith, nat_tests)

order : (a b : ℕ) → (a < b) ⊎ (b ≤ a)
order a b = grind arith

lift-small : (z : ℤ) → negsuc 2147483647 ≤ℤ z → z ≤ℤ pos 2147483647 → lift z < 4294967296
lift-small z l h = grind (arith, ints)

lift-less : (x y : ℤ) → negsuc 2147483647 ≤ℤ x → negsuc 2147483647 ≤ℤ y → lift x < lift y → x <ℤ y
lift-less x y l h e = omega (arith, ints)

lift-same : (x y : ℤ) → negsuc 2147483647 ≤ℤ x → negsuc 2147483647 ≤ℤ y → lift x ≡ lift y → x ≡ y
lift-same x y l h e = omega (arith, ints)

parts-less : (l k a b c d : ℕ) → a < 4294967296 → b < 4294967296 → c < 4294967296 → d < 4294967296 → l * 18446744073709551616 + a * 4294967296 + b < k * 18446744073709551616 + c * 4294967296 + d
    → (l < k) ⊎ ((l ≡ k) × ((a < c) ⊎ ((a ≡ c) × (b < d))))
parts-less l k a b c d p q r s h =
    elim (order l k) [
      | inl lt ↦ inl lt
      | inr ge ↦ inr (omega arith, (elim (order a c) as (λ _. (a < c) ⊎ ((a ≡ c) × (b < d))) [ inl lt ↦ inl lt | inr more ↦ inr (omega arith, omega arith) ]))
    ]

before-first : (c d : Cell) → c.a <ℤ d.a → before c d ≡ true
unfolding before
before-first c d h = grind (arith, ints)

before-second : (c d : Cell) → c.a ≡ d.a → c.b <ℤ d.b → before c d ≡ true
unfolding before
before-second c d e h = grind (arith, ints)

-- the order of nodes is that of lanes, then that of cells
pub rank-order : (x y : Node) → Fits x.lane x.cell → Fits y.lane y.cell → rank x < rank y → (x.lane < y.lane) ⊎ ((x.lane ≡ y.lane) × (before x.cell y.cell ≡ true))
unfolding rank_of
rank-order x y f g h =
    let c = x.cell in let d = y.cell in
    elim (parts-less x.lane y.lane (lift c.a) (lift c.b) (lift d.a) (lift d.b) (lift-small c.a f.a_low f.a_high) (lift-small c.b f.b_low f.b_high) (lift-small d.a g.a_low g.a_high) (lift-small d.b g.b_low g.b_high) h)
    as (λ _. (x.lane < y.lane) ⊎ ((x.lane ≡ y.lane) × (before x.cell y.cell ≡ true))) [
      | inl lt ↦ inl lt
      | inr p ↦ inr (
        p.0,
        (elim p.1 as (λ _. before x.cell y.cell ≡ true) [
          | inl lt ↦ before-first c d (lift-less c.a d.a f.a_low g.a_low lt)
          | inr q ↦ before-second c d (lift-same c.a d.a f.a_low g.a_low q.0) (lift-less c.b d.b f.b_low g.b_low q.1)
        ]),
      )
    ]

-- what is known of each cell before a sample
pub record IsFileable (limits : Limits) (block place : ℕ) (x : Node) : Type 0 where
  pub fits : Fits x.lane x.cell
  pub key : key_fits limits (key_at block place x.lane) ≡ true
  pub cell : cell_fits limits.kind limits.level x.cell ≡ true
  pub small : x.cost < 1152921504606846976

pub record AreFileable (limits : Limits) (block place : ℕ) (xs : List Node) : Type 0 where
  pub rising : IsRising xs
  pub each : (x : Node) → Contains xs x → IsFileable limits block place x

pub rest-fileable : (limits : Limits) (b p : ℕ) (x : Node) (xs : List Node) → AreFileable limits b p (x ∷ xs) → AreFileable limits b p xs
rest-fileable limits b p x xs f = record {
  rising = record { rises = λ i j d h k. f.rising.rises (suc i) (suc j) d (omega arith) (omega arith) };
  each = λ y c. f.each y (suc c.0, omega (arith, c.1), c.2);
}

after-trans : (c d : Cell) (xs : List CellValue) → before c d ≡ true → IsAfterAll d xs → IsAfterAll c xs
after-trans c d [] h a = tt
after-trans c d (x ∷ xs) h a = (lt-trans c d x.cell h a.0, after-trans c d xs h a.1)

pub below-trans : (j k : Key) (xs : List Layer) → key_before j k ≡ true → IsBelowAll k xs → IsBelowAll j xs
below-trans j k [] h a = tt
below-trans j k (x ∷ xs) h a = (key-trans j k x.key h a.0, below-trans j k xs h a.1)

pub lane-before : (b p l k : ℕ) → l < k → key_before (key_at b p l) (key_at b p k) ≡ true
unfolding key_before
lane-before b p l k h =
    let nb : nat_lt b b ≡ false = le-ltb b b (omega arith) in let np : nat_lt p p ≡ false = le-ltb p p (omega arith) in
    rw (nb, np) (lt-ltb l k h)

-- each layer has no more cells than this, and stands before this place
abbrev pub AllHere : ℕ → ℕ → ℕ → List Layer → Type 0
AllHere b p n [] = ⊤
AllHere b p n (x ∷ xs) = (x.key.block ≡ b) × (x.key.place ≡ p) × (length x.cells ≤ n) × AllHere b p n xs

more-here : (b p n : ℕ) (xs : List Layer) → AllHere b p n xs → AllHere b p (suc n) xs
more-here b p n [] h = tt
more-here b p n (x ∷ xs) h = (h.0, h.1, omega (arith, h.2), more-here b p n xs h.3)

pub record IsGood (limits : Limits) (b p n : ℕ) (layers : List Layer) : Type 0 where
  pub sorted : AreSorted layers
  pub fit : n < 2 ^ 32 → LayersFit limits layers
  pub here : AllHere b p n layers

good-one : (limits : Limits) (b p : ℕ) (x : Node) → IsFileable limits b p x → IsGood limits b p 1 (record { key = key_at b p x.lane; cells = cell_of_node x ∷ [] } ∷ [])
good-one limits b p x f = record {
  sorted = (omega arith, (tt, tt), tt, tt);
  fit = λ h. (f.key, omega arith, (f.cell, f.small, tt), tt);
  here = (refl, refl, omega arith, tt);
}

-- one more cell of the same lane
good-same : (limits : Limits) (b p n : ℕ) (x y : Node) (more : List CellValue) (rest : List Layer) → IsFileable limits b p x → before x.cell y.cell ≡ true → y.lane ≡ x.lane
    → IsGood limits b p n (record { key = key_at b p y.lane; cells = cell_of_node y ∷ more } ∷ rest) → IsGood limits b p (suc n) (record { key = key_at b p x.lane; cells = cell_of_node x ∷ cell_of_node y ∷ more } ∷ rest)
good-same limits b p n x y more rest f h e g = record {
  sorted = (omega arith, ((h, after-trans x.cell y.cell more h g.sorted.1.0), g.sorted.1), subst (λ (z : ℕ). IsBelowAll (key_at b p z) rest) e g.sorted.2, g.sorted.3);
  fit = λ k. (let o = g.fit (omega arith) in let l = g.here.2 in (f.key, omega arith, (f.cell, f.small, o.2), o.3));
  here = (refl, refl, omega (arith, g.here.2), more-here b p n rest g.here.3);
}

-- or of another
good-other : (limits : Limits) (b p n : ℕ) (x y : Node) (more : List CellValue) (rest : List Layer) → IsFileable limits b p x → x.lane < y.lane
    → IsGood limits b p n (record { key = key_at b p y.lane; cells = cell_of_node y ∷ more } ∷ rest)
    → IsGood limits b p (suc n) (record { key = key_at b p x.lane; cells = cell_of_node x ∷ [] } ∷ record { key = key_at b p y.lane; cells = cell_of_node y ∷ more } ∷ rest)
good-other limits b p n x y more rest f h g =
    let k = lane-before b p x.lane y.lane h in
    let y' : Layer = record { key = key_at b p y.lane; cells = cell_of_node y ∷ more } in
    record {
      sorted = (omega arith, (tt, tt), (k, below-trans (key_at b p x.lane) (key_at b p y.lane) rest k g.sorted.2), g.sorted);
      fit = λ l. (f.key, omega arith, (f.cell, f.small, tt), g.fit (omega arith));
      here = (refl, refl, omega arith, more-here b p n (y' ∷ rest) g.here);
    }

pub cut-good : (limits : Limits) (b p : ℕ) (nodes : List Node) → AreFileable limits b p nodes → IsGood limits b p (length nodes) (cut b p nodes)
cut-good limits b p [] f = record { sorted = tt; fit = λ h. tt; here = tt }
cut-good limits b p (x ∷ []) f = good-one limits b p x (f.each x (0, omega arith, refl))
cut-good limits b p (x ∷ y ∷ ys) f =
    let ih = cut-good limits b p (y ∷ ys) (rest-fileable limits b p x (y ∷ ys) f) in
    let w = begins b p y.lane (cell_of_node y ∷ []) (cut b p ys) in
    let n = length (y ∷ ys) in
    let fx = f.each x (0, omega arith, refl) in
    let fy = f.each y (1, omega arith, refl) in
    let r : rank x < rank y = f.rising.rises 0 1 x (omega arith) (omega arith) in
    let head : Layer = record { key = key_at b p y.lane; cells = cell_of_node y ∷ w.more } in
    let g = subst (λ (z : List Layer). IsGood limits b p n z) w.is ih in
    let mk : List CellValue → Layer = λ z. record { key = key_at b p x.lane; cells = z } in
    subst (λ (z : List Layer). IsGood limits b p (suc n) (joined b p x.lane (cell_of_node x ∷ []) z)) (sym w.is)
    (elim (rank-order x y fx.fits fy.fits r) as (λ _. IsGood limits b p (suc n) (joined b p x.lane (cell_of_node x ∷ []) (head ∷ w.rest))) [
      | inl lt ↦ subst (λ (z : List Layer). IsGood limits b p (suc n) z) (sym (cond-false (nat_eq y.lane x.lane) (mk (cell_of_node x ∷ head.cells) ∷ w.rest) (mk (cell_of_node x ∷ []) ∷ head ∷ w.rest) (not-same y.lane x.lane lt)))
          (good-other limits b p n x y w.more w.rest fx lt g)
      | inr q ↦ subst (λ (z : List Layer). IsGood limits b p (suc n) z) (sym (cond-true (nat_eq y.lane x.lane) (mk (cell_of_node x ∷ head.cells) ∷ w.rest) (mk (cell_of_node x ∷ []) ∷ head ∷ w.rest) (is-same y.lane x.lane (sym q.0))))
          (good-same limits b p n x y w.more w.rest fx q.1 (sym q.0) g)
    ])

-- keys of samples from k on
abbrev pub AllFrom : ℕ → ℕ → List Layer → Type 0
AllFrom n k [] = ⊤
AllFrom n k (x ∷ xs) = (k ≤ x.key.block * n + x.key.place) × (x.key.place < n) × AllFrom n k xs

here-from : (n i count : ℕ) (xs : List Layer) → 0 < n → AllHere (i / n) (i % n) count xs → AllFrom n i xs
here-from n i count [] some h = tt
here-from n i count (x ∷ xs) some h =
    let e : x.key.block * n ≡ i / n * n = ap (λ z. z * n) h.0 in
    let p = h.1 in let lt = mod-lt i some in
    (omega (arith, div-add-mod' i n), omega arith, here-from n i count xs some h.3)

from-less : (n j k : ℕ) (xs : List Layer) → j ≤ k → AllFrom n k xs → AllFrom n j xs
from-less n j k [] h a = tt
from-less n j k (x ∷ xs) h a = (omega (arith, a.0), a.1, from-less n j k xs h a.2)

from-append : (n k : ℕ) (xs ys : List Layer) → AllFrom n k xs → AllFrom n k ys → AllFrom n k (xs ++ ys)
from-append n k [] ys a b = b
from-append n k (x ∷ xs) ys a b = (a.0, a.1, from-append n k xs ys a.2 b)

lex : (j k : Key) → (j.block < k.block) ⊎ ((j.block ≡ k.block) × (j.place < k.place)) → key_before j k ≡ true
unfolding key_before
lex j k (inl lt) = rw (lt-ltb j.block k.block lt) refl
lex j k (inr q) = rw (le-ltb j.block k.block (omega (arith, q.0)), le-ltb k.block j.block (omega (arith, q.0)), lt-ltb j.place k.place q.1) refl

three : (a b : ℕ) → (a < b) ⊎ ((a ≡ b) ⊎ (b < a))
three a b = grind arith

-- an earlier sample's key stands before
sample-before : (n : ℕ) (j k : Key) → k.place < n → j.block * n + j.place < k.block * n + k.place → key_before j k ≡ true
sample-before n j k h lt =
    elim (three j.block k.block) [
      | inl l ↦ lex j k (inl l)
      | inr o ↦ (elim o [
        | inl e ↦ lex j k (inr (e, (let q = ap (λ z. z * n) e in omega arith)))
        | inr g ↦ absurd (let q : suc k.block * n ≤ j.block * n = mul-le-mul_right n g in omega arith)
      ])
    ]

pub from-below : (n i : ℕ) (k : Key) (xs : List Layer) → k.block * n + k.place ≡ i → AllFrom n (suc i) xs → IsBelowAll k xs
from-below n i k [] e a = tt
from-below n i k (x ∷ xs) e a = (sample-before n k x.key a.1 (omega (arith, a.0)), from-below n i k xs e a.2)

below-append : (k : Key) (xs ys : List Layer) → IsBelowAll k xs → IsBelowAll k ys → IsBelowAll k (xs ++ ys)
below-append k [] ys a b = b
below-append k (x ∷ xs) ys a b = (a.0, below-append k xs ys a.1 b)

sorted-append : (n i count : ℕ) (xs ys : List Layer) → AllHere (i / n) (i % n) count xs → AreSorted xs → AllFrom n (suc i) ys → AreSorted ys → AreSorted (xs ++ ys)
sorted-append n i count [] ys h a f b = b
sorted-append n i count (x ∷ xs) ys h a f b =
    let e : x.key.block * n ≡ i / n * n = ap (λ z. z * n) h.0 in
    let p = h.1 in
    let at : x.key.block * n + x.key.place ≡ i = omega (arith, div-add-mod' i n) in
    (a.0, a.1, below-append x.key xs ys a.2 (from-below n i x.key ys at f), sorted-append n i count xs ys h.3 a.3 f b)

fit-append : (limits : Limits) (xs ys : List Layer) → LayersFit limits xs → LayersFit limits ys → LayersFit limits (xs ++ ys)
fit-append limits [] ys a b = b
fit-append limits (x ∷ xs) ys a b = (a.0, a.1, a.2, fit-append limits xs ys a.3 b)

-- all layers from sample i on
pub record IsFiledFrom (limits : Limits) (n i : ℕ) (layers : List Layer) : Type 0 where
  pub sorted : AreSorted layers
  pub fit : LayersFit limits layers
  pub from : AllFrom n i layers

pub shift : (i j : ℕ) → i + suc j ≡ suc i + j
shift i j = omega arith

pub none-more : (i : ℕ) → i + 0 ≡ i
none-more i = omega arith

pub keyed-filed : (limits : Limits) (n i : ℕ) (xs : List (List Node)) → 0 < n → ((j : ℕ) → j < length xs → AreFileable limits ((i + j) / n) ((i + j) % n) (nodes_at xs j)) → ((j : ℕ) → length (nodes_at xs j) < 2 ^ 32)
    → IsFiledFrom limits n i (keyed n i xs)
keyed-filed limits n i [] some f few = record { sorted = tt; fit = tt; from = tt }
keyed-filed limits n i (x ∷ xs) some f few =
    let f0 : AreFileable limits (i / n) (i % n) x = subst (λ (z : ℕ). AreFileable limits (z / n) (z % n) x) (none-more i) (f 0 (omega arith)) in
    let g = cut-good limits (i / n) (i % n) x f0 in
    let ih = keyed-filed limits n (suc i) xs some (λ j h. subst (λ (z : ℕ). AreFileable limits (z / n) (z % n) (nodes_at xs j)) (shift i j) (f (suc j) (omega arith))) (λ j. few (suc j)) in
    record {
      sorted = sorted-append n i (length x) (cut (i / n) (i % n) x) (keyed n (suc i) xs) g.here g.sorted ih.from ih.sorted;
      fit = fit-append limits (cut (i / n) (i % n) x) (keyed n (suc i) xs) (g.fit (few 0)) ih.fit;
      from = from-append n i (cut (i / n) (i % n) x) (keyed n (suc i) xs) (here-from n i (length x) (cut (i / n) (i % n) x) some g.here) (from-less n i (suc i) (keyed n (suc i) xs) (omega arith) ih.from);
    }
