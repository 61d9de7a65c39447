-- Layers of reached cells with their worth make an accepted certificate that shows no less than the search found.
use Rattle.std.proofs.Common.{◌≡◌, ◌≢◌, ℕ, zero, suc, ◌+◌, ◌-◌, ◌*◌, ◌%◌, ◌/◌, ◌<◌, ◌≤◌, inl, inr, ℤ, List, [], length, get_or, arith, refl, ap, sym, ◌∙◌, subst, min, max, IsTrue, true, false, map, Option, Some, None, Result, Ok, Err}
use Rattle.std.specs.Prelude.{IfOk}
use Rattle.std.specs.List.{Contains}
use Rattle.std.proofs.Math.Nat.{mul-pos, mod-eq_of_lt, div-eq_of_lt, sub-zero}
use Rattle.std.proofs.lemmas.Bool.{cases_lt}
use Rattle.std.proofs.lemmas.List.{get_or-map, length-map}
use Rattle.std.proofs.lemmas.List.Elements.{Contains-get_or}
use Rattle.open_cells.specs.declared.node.Node.{Node}
use Rattle.open_cells.specs.Nodes.{listed_in, IsRising}
use Rattle.open_cells.proofs.Merging.{blank}
use Rattle.open_cells.proofs.Order.{rising-nil}
use Rattle.open_cells.proofs.Look.{listed-at, listed-some}
use Rattle.open_cells.specs.Counts.{nodes_at, count_of, AreFronts}
use Rattle.branch_bound.specs.Worth.{valued, AreValued, layers_certificate}
use Rattle.open_cells.proofs.Built.{nodes-past}
use Rattle.branch_bound.proofs.Values.{rising-map}
use Rattle.std.specs.Prelude.{slice_index}
use Rattle.branch_bound.specs.Lists.{IsCert, IsShown, level_certificate}
use Rattle.branch_bound.specs.Searched.{IsLevel}
use Rattle.branch_bound.specs.Searched.{IsChoice, blocks_of}
use Rattle.machine_core.specs.declared.choice.Choice.{Choice}
use Rattle.branch_bound.specs.declared.levels.LevelCert.{LevelCert}
use Rattle.block_steps.specs.Tables.{HoldLater}
use Rattle.box_layers.specs.Certificates.{Certificate, IsAccepted, found, value}
use Rattle.box_layers.specs.Looking.{or_else}
use Rattle.branch_bound.specs.Searched.{IsSearched}
use Rattle.machine_core.specs.Blocks.{Blocks, IsLegal, first_only}
use Rattle.machine_core.specs.Cells.{cell_box, cell_of, is_cell, is_level}
use Rattle.machine_core.specs.Decoder.{start}
use Rattle.machine_core.specs.Floors.{floors_from, rest, top}
use Rattle.machine_core.specs.Rules.{Rules, grid}
use Rattle.machine_core.specs.Sums.{sum_of}
use Rattle.machine_core.specs.declared.boxes.Cell.{Cell}
use Rattle.open_cells.specs.Paths.{FitTargets, HasLaws, IsWhole, Opens}
use Rattle.branch_bound.specs.Searched.{IsSum}
use Rattle.branch_bound.proofs.Above.{value-above, or-else-some, lt-or-ge}
use Rattle.branch_bound.proofs.Sound.{sound, floor-below}
use Rattle.open_cells.proofs.Paths.{opens-cell}

pub opens-within : (m : Rules) (targets : List ℤ) (blocks level most i lane : ℕ) (cell : Cell) (cost : ℕ) → 0 < blocks * m.decoder.samples → Opens m targets blocks level most i lane cell cost → i < blocks * m.decoder.samples
opens-within m targets blocks level most zero lane cell cost h o = h
opens-within m targets blocks level most (suc i) lane cell cost h o = o.7

-- the layers of a search
pub record IsDone (m : Rules) (targets : List ℤ) (blocks level most share : ℕ) (fronts layers : List (List Node)) : Type 0 where
  pub laws : HasLaws m
  pub some : 0 < blocks
  pub fronts_are : AreFronts m targets blocks level most share fronts
  pub layers_are : AreValued m targets blocks level most fronts layers

-- what is listed is reached, with its worth
pub record IsWorth (m : Rules) (targets : List ℤ) (blocks level most : ℕ) (layers : List (List Node)) (i lane : ℕ) (cell : Cell) (v : ℕ) : Type 0 where
  pub within : i < blocks * m.decoder.samples
  pub cost : ℕ
  pub opened : Opens m targets blocks level most i lane cell cost
  pub worth : v ≡ min most (found m targets (layers_certificate level blocks layers) i lane cell)

none-listed : (xs : List Node) (lane : ℕ) (cell : Cell) (v : ℕ) → xs ≡ [] → listed_in xs lane cell ≡ Some v → ⊥
none-listed xs lane cell v e h = let q : listed_in [] lane cell ≡ Some v = subst (λ (z : List Node). listed_in z lane cell ≡ Some v) e h in cc

pub listed-worth : (m : Rules) (targets : List ℤ) (blocks level most share : ℕ) (fronts layers : List (List Node)) → IsDone m targets blocks level most share fronts layers → (i lane : ℕ) (cell : Cell) (v : ℕ)
    → listed_in (nodes_at layers i) lane cell ≡ Some v → IsWorth m targets blocks level most layers i lane cell v
listed-worth m targets blocks level most share fronts layers d i lane cell v h =
    elim (cases_lt i (blocks * m.decoder.samples)) [
      | inr past ↦ (let s = d.layers_are.size in absurd (none-listed (nodes_at layers i) lane cell v (nodes-past layers i (omega arith)) h))
      | inl lt ↦ (
          let f = valued m targets blocks level most i (nodes_at layers (suc i)) in
          let front = nodes_at fronts i in
          let e : nodes_at layers i ≡ map f front = d.layers_are.each i lt in
          let g = listed-at (map f front) lane cell v (subst (λ (z : List Node). listed_in z lane cell ≡ Some v) e h) in
          let len : length (map f front) ≡ length front = length-map front f in
          let k : g.k < length front = (let q = g.fits in omega arith) in
          let x = get_or front g.k blank in
          let at : get_or (map f front) g.k blank ≡ f x = get_or-map f front g.k blank blank k in
          let l : x.lane ≡ lane = sym (ap (λ (z : Node). z.lane) at) ∙ g.lane_is blank in
          let c : x.cell ≡ cell = sym (ap (λ (z : Node). z.cell) at) ∙ g.cell_is blank in
          let o = (d.fronts_are.each i lt).opened.each x (Contains-get_or front g.k blank k) in
          let w : ℕ → Cell → ℕ = λ a b. min most (found m targets (layers_certificate level blocks layers) i a b) in
          record {
            within = lt;
            cost = x.cost;
            opened = subst (λ (z : Cell). Opens m targets blocks level most i lane z x.cost) c (subst (λ (z : ℕ). Opens m targets blocks level most i z x.cell x.cost) l o);
            worth = sym (g.cost_is blank) ∙ (ap (λ (z : Node). z.cost) at ∙ (ap (λ z. w z x.cell) l ∙ ap (w lane) c));
          })
    ]

open-listed : (m : Rules) (targets : List ℤ) (blocks level most share : ℕ) (fronts layers : List (List Node)) → IsDone m targets blocks level most share fronts layers → (i lane : ℕ) (cell : Cell) (cost : ℕ)
    → Opens m targets blocks level most i lane cell cost → (v : ℕ) × (listed_in (nodes_at layers i) lane cell ≡ Some v)
open-listed m targets blocks level most share fronts layers d i lane cell cost o =
    let lt = opens-within m targets blocks level most i lane cell cost (mul-pos d.some d.laws.machine.some_samples) o in
    let f = valued m targets blocks level most i (nodes_at layers (suc i)) in
    let front = nodes_at fronts i in
    let e : nodes_at layers i ≡ map f front = d.layers_are.each i lt in
    let h = (d.fronts_are.each i lt).all lane cell cost o in
    let k = h.there.0 in
    let len : length (map f front) ≡ length front = length-map front f in
    let at : get_or (map f front) k blank ≡ f (get_or front k h.node) = get_or-map f front k h.node blank h.there.1 in
    let is : get_or front k h.node ≡ h.node = h.there.2 in
    let l : (get_or (map f front) k blank).lane ≡ lane = ap (λ (z : Node). z.lane) at ∙ (ap (λ (z : Node). z.lane) is ∙ h.lane_is) in
    let c : (get_or (map f front) k blank).cell ≡ cell = ap (λ (z : Node). z.cell) at ∙ (ap (λ (z : Node). z.cell) is ∙ h.cell_is) in
    let s = listed-some (map f front) lane cell k blank (let q = h.there.1 in omega arith) l c in
    (s.0, subst (λ (z : List Node). listed_in z lane cell ≡ Some s.0) (sym e) s.1)

pub searched-of : (m : Rules) (targets : List ℤ) (blocks level most share : ℕ) (fronts layers : List (List Node)) → IsDone m targets blocks level most share fronts layers
    → IsSearched m targets most (layers_certificate level blocks layers)
searched-of m targets blocks level most share fronts layers d = record {
  all = λ i lane cell cost o. open-listed m targets blocks level most share fronts layers d i lane cell cost o;
  only = λ i lane cell v h. (let w = listed-worth m targets blocks level most share fronts layers d i lane cell v h in (w.cost, w.opened));
  worth = λ i lane cell v h. (let w = listed-worth m targets blocks level most share fronts layers d i lane cell v h in let e = w.worth in omega arith);
}

pub accepted-of : (m : Rules) (targets : List ℤ) (blocks level most share : ℕ) (fronts layers : List (List Node)) → IsDone m targets blocks level most share fronts layers
    → IsAccepted m targets (layers_certificate level blocks layers)
accepted-of m targets blocks level most share fronts layers d i lane cell v h =
    let w = listed-worth m targets blocks level most share fronts layers d i lane cell v h in
    let e = w.worth in
    (w.within, omega arith)

pub first-rising : (m : Rules) (targets : List ℤ) (blocks level most share : ℕ) (fronts layers : List (List Node)) → IsDone m targets blocks level most share fronts layers → IsRising (nodes_at layers 0)
first-rising m targets blocks level most share fronts layers d =
    let lt : 0 < blocks * m.decoder.samples = mul-pos d.some d.laws.machine.some_samples in
    subst (λ (z : List Node). IsRising z) (sym (d.layers_are.each 0 lt)) (rising-map (valued m targets blocks level most 0 (nodes_at layers 1)) (λ x. refl) (nodes_at fronts 0) (d.fronts_are.each 0 lt).rising)

pub floors-small : (m : Rules) (targets : List ℤ) (blocks most : ℕ) → HasLaws m → FitTargets m blocks targets → IsSum m blocks targets most → floors_from m first_only targets 0 blocks ≤ most
floors-small m targets blocks most laws fit s = let f = floor-below m laws targets blocks s.list s.legal fit in let e = s.sum in omega arith

less-none : (n : ℕ) → n - 0 ≡ n
less-none n = omega arith

pub later-first : (m : Rules) (targets : List ℤ) (blocks : ℕ) (later : List ℕ) → HoldLater m targets blocks later → slice_index later 0 ≡ min top (floors_from m first_only targets 0 blocks)
later-first m targets blocks later h = h.each 0 (omega arith) ∙ ap (λ z. min top (floors_from m first_only targets 0 z)) (less-none blocks)

pub bound-is : (m : Rules) (targets : List ℤ) (blocks level most bound first : ℕ) (layers : List (List Node)) (at : Cell) (o : Option ℕ) → HasLaws m → FitTargets m blocks targets → IsSum m blocks targets most → most ≤ top
    → bound ≡ max first (or_else o 0) → first ≡ min top (floors_from m first_only targets 0 blocks) → o ≡ listed_in (nodes_at layers 0) 65535 at → at ≡ cell_of (grid m) level start
    → bound ≡ value m targets (layers_certificate level blocks layers)
bound-is m targets blocks level most bound first layers at o laws fit s small be fe oe ae =
    let floors = floors-small m targets blocks most laws fit s in
    let first' : first ≡ floors_from m first_only targets 0 blocks = omega arith in
    let o' : o ≡ listed_in (nodes_at layers 0) 65535 (cell_of (grid m) level start) = oe ∙ ap (listed_in (nodes_at layers 0) 65535) ae in
    be ∙ (ap (λ z. max z (or_else o 0)) first' ∙ ap (λ (z : Option ℕ). max (floors_from m first_only targets 0 blocks) (or_else z 0)) o')

max-zero : (n : ℕ) → max n 0 ≡ n
max-zero n = omega arith

-- no layer at all
pub none-accepted : (m : Rules) (targets : List ℤ) (blocks level : ℕ) (layers : List (List Node)) → layers ≡ [] → IsAccepted m targets (layers_certificate level blocks layers)
none-accepted m targets blocks level layers e i lane cell v h = absurd (none-listed (nodes_at layers i) lane cell v (ap (λ (z : List (List Node)). nodes_at z i) e) h)

pub none-value : (m : Rules) (targets : List ℤ) (blocks level : ℕ) (layers : List (List Node)) → layers ≡ [] → value m targets (layers_certificate level blocks layers) ≡ floors_from m first_only targets 0 blocks
none-value m targets blocks level layers e =
    let o : Option ℕ → ℕ = λ z. max (floors_from m first_only targets 0 blocks) (or_else z 0) in
    ap (λ (z : List (List Node)). o (listed_in (nodes_at z 0) 65535 (cell_of (grid m) level start))) e ∙ max-zero (floors_from m first_only targets 0 blocks)

pub none-bound : (m : Rules) (targets : List ℤ) (blocks level most first : ℕ) (layers : List (List Node)) → HasLaws m → FitTargets m blocks targets → IsSum m blocks targets most → most ≤ top
    → first ≡ min top (floors_from m first_only targets 0 blocks) → layers ≡ [] → (first ≡ floors_from m first_only targets 0 blocks) × (first ≡ value m targets (layers_certificate level blocks layers))
none-bound m targets blocks level most first layers laws fit s small fe e =
    let floors = floors-small m targets blocks most laws fit s in
    let v = none-value m targets blocks level layers e in
    let a : first ≡ floors_from m first_only targets 0 blocks = omega arith in
    (a, a ∙ sym v)

pub level-at : (a b : ℕ) → a ≡ b → IsTrue (is_level b) → IsTrue (is_level a)
level-at a b e h = subst (λ (z : ℕ). IsTrue (is_level z)) (sym e) h

pub level-fits : (m : Rules) (targets : List ℤ) (blocks most share level : ℕ) → IsLevel m targets blocks most share level → level ≢ 255 → IsTrue (is_level level)
level-fits m targets blocks most share level l ne =
    elim l [
      | inl a ↦ level-at level 0 a.1 refl
      | inr b ↦ (elim b [
        | inl a ↦ level-at level 4 a.1 refl
        | inr e ↦ (elim e [
          | inl a ↦ level-at level 8 a.1 refl
          | inr f ↦ absurd (ne f.0)
        ])
      ])
    ]

not-level : (level : ℕ) → level ≡ 255 → IsTrue (is_level level) → ⊥
not-level level e h = let f : false ≡ true = subst (λ (z : ℕ). IsTrue (is_level z)) e h in cc

pub cert-near : (m : Rules) → HasLaws m → (targets : List ℤ) (blocks most share : ℕ) (c : LevelCert) → c.blocks ≡ blocks → IsLevel m targets blocks most share c.level → c.level ≢ 255 → FitTargets m blocks targets
    → 0 < blocks → most ≤ top → IsSearched m targets most (level_certificate c) → IsCert m targets c → (w : ℕ) → w ≤ most → ((cost : ℕ) → IsWhole m targets blocks c.level cost → w ≤ cost) → w ≤ c.bound
cert-near m laws targets blocks most share c be l ne fit some small s cert w le whole =
    let fit' = subst (λ (z : ℕ). FitTargets m z targets) (sym be) fit in
    let v = value-above m laws targets (level_certificate c) most w fit' (level-fits m targets blocks most share c.level l ne) (omega arith) small s le
    (λ cost h. whole cost (subst (λ (z : ℕ). IsWhole m targets z c.level cost) be h)) in
    let b = cert.bound in omega arith

pub all-rising : (m : Rules) (targets : List ℤ) (blocks level most share : ℕ) (fronts layers : List (List Node)) → IsDone m targets blocks level most share fronts layers → (i : ℕ) → IsRising (nodes_at layers i)
all-rising m targets blocks level most share fronts layers d i =
    elim (cases_lt i (blocks * m.decoder.samples)) [
      | inl lt ↦ subst (λ (z : List Node). IsRising z) (sym (d.layers_are.each i lt)) (rising-map (valued m targets blocks level most i (nodes_at layers (suc i))) (λ x. refl) (nodes_at fronts i) (d.fronts_are.each i lt).rising)
      | inr past ↦ (let s = d.layers_are.size in subst (λ (z : List Node). IsRising z) (sym (nodes-past layers i (omega arith))) rising-nil)
    ]

-- no list's sum is below an accepted certificate's bound
pub bound-below : (m : Rules) → HasLaws m → (targets : List ℤ) (blocks : ℕ) (c : LevelCert) → c.blocks ≡ blocks → IsTrue (is_level c.level) → IsCert m targets c → FitTargets m blocks targets
    → (l : Blocks) → IsLegal m.decoder blocks first_only l → c.bound ≤ sum_of m.decoder l targets blocks
bound-below m laws targets blocks c be lev cert fit l legal =
    let fit' = subst (λ (z : ℕ). FitTargets m z targets) (sym be) fit in
    let legal' = subst (λ (z : ℕ). IsLegal m.decoder z first_only l) (sym be) legal in
    let v = sound m laws targets (level_certificate c) l lev legal' fit' cert.accepted in
    let e = ap (λ z. sum_of m.decoder l targets z) be in
    let b = cert.bound in omega arith

-- a listed start shows its value
pub bound-above : (m : Rules) (targets : List ℤ) (c : LevelCert) (v : ℕ) → c.level ≡ 0 → IsCert m targets c → listed_in (nodes_at c.layers 0) 65535 (cell_of (grid m) 0 start) ≡ Some v → v ≤ c.bound
bound-above m targets c v le cert h =
    let h' : listed_in (nodes_at c.layers 0) 65535 (cell_of (grid m) c.level start) ≡ Some v = ap (λ z. listed_in (nodes_at c.layers 0) 65535 (cell_of (grid m) z start)) le ∙ h in
    let o = or-else-some (listed_in (nodes_at c.layers 0) 65535 (cell_of (grid m) c.level start)) 0 v h' in
    let b = cert.bound in omega arith

-- a start that is not listed is not open
pub bound-shut : (m : Rules) (targets : List ℤ) (c : LevelCert) (most : ℕ) → HasLaws m → c.level ≡ 0 → IsCert m targets c → IsSearched m targets most (level_certificate c) → listed_in (nodes_at c.layers 0) 65535 (cell_of (grid m) 0 start) ≡ None → most ≤ c.bound
bound-shut m targets c most laws le cert s h =
    let h' : listed_in (nodes_at c.layers 0) 65535 (cell_of (grid m) c.level start) ≡ None = ap (λ z. listed_in (nodes_at c.layers 0) 65535 (cell_of (grid m) z start)) le ∙ h in
    let cell = cell_of (grid m) c.level start in
    let r = rest m first_only targets c.blocks 0 65535 (cell_box (grid m) c.level cell) in
    let zm : 0 % m.decoder.samples ≡ 0 = mod-eq_of_lt laws.machine.some_samples in
    let zd : 0 / m.decoder.samples ≡ 0 = div-eq_of_lt laws.machine.some_samples in
    let floor : r ≡ floors_from m first_only targets 0 c.blocks = rw (zm, zd, sub-zero) refl in
    let b = cert.bound in
    elim (lt-or-ge (0 + r) most) [
      | inr ge ↦ omega arith
      | inl lt ↦ absurd (let o = (s.all 0 65535 cell 0 (refl, refl, refl, lt)).1 in cc)
    ]

pub if-ok-both : {E C : Type 0} {P Q R : C → Type 0} (r : Result C E) → IfOk r P → IfOk r Q → ((c : C) → P c → Q c → R c) → IfOk r R
if-ok-both (Ok c) p q f = f c p q
if-ok-both (Err e) p q f = tt

-- a legal list that comes to what is listed for the start is the least
pub walk-optimal : (m : Rules) → HasLaws m → (targets : List ℤ) (blocks total : ℕ) (c : LevelCert) (choice : Choice) → c.blocks ≡ blocks → IsCert m targets c → FitTargets m blocks targets
    → c.level ≡ 0 → IsChoice m blocks targets choice → total ≤ c.bound → choice.sum ≤ total → c.bound ≡ choice.sum
walk-optimal m laws targets blocks total c choice be cert fit le ch low high =
    let b = bound-below m laws targets blocks c be (level-at c.level 0 le refl) cert fit (blocks_of choice) ch.legal in
    let s = ch.sum in
    omega arith

pub only-opens : (m : Rules) (targets : List ℤ) (blocks most : ℕ) (c : LevelCert) → c.blocks ≡ blocks → IsSearched m targets most (level_certificate c) → (i lane : ℕ) (cell : Cell) (v : ℕ)
    → listed_in (nodes_at c.layers i) lane cell ≡ Some v → (cost : ℕ) × Opens m targets blocks c.level most i lane cell cost
only-opens m targets blocks most c be s i lane cell v h = let o = s.only i lane cell v h in (o.0, subst (λ (z : ℕ). Opens m targets z c.level most i lane cell o.0) be o.1)

count-lengths : (f g : ℕ → List Node) (n : ℕ) → ((i : ℕ) → i < n → length (f i) ≡ length (g i)) → count_of f n ≡ count_of g n
count-lengths f g zero h = refl
count-lengths f g (suc n) h = let a = count-lengths f g n (λ i l. h i (omega arith)) in let b = h n (omega arith) in omega arith

pub size-of : (m : Rules) (targets : List ℤ) (blocks level most share : ℕ) (fronts layers : List (List Node)) → IsDone m targets blocks level most share fronts layers → count_of (nodes_at layers) (blocks * m.decoder.samples) ≤ share
size-of m targets blocks level most share fronts layers d =
    let e = count-lengths (nodes_at layers) (nodes_at fronts) (blocks * m.decoder.samples)
    (λ i lt. ap (length {A = Node}) (d.layers_are.each i lt) ∙ length-map (nodes_at fronts i) (valued m targets blocks level most i (nodes_at layers (suc i)))) in
    let f = d.fronts_are.few in omega arith

count-none : (n : ℕ) → count_of (λ i. []) n ≡ 0
count-none zero = refl
count-none (suc n) = let i = count-none n in omega arith

pub size-none : (layers : List (List Node)) (n share : ℕ) → layers ≡ [] → count_of (nodes_at layers) n ≤ share
size-none layers n share e =
    let a : count_of (nodes_at layers) n ≡ count_of (λ i. []) n = count-lengths (nodes_at layers) (λ i. []) n (λ i l. ap (λ (z : List (List Node)). length (nodes_at z i)) e) in
    let b = count-none n in omega arith

count-member : (f : ℕ → List Node) (n i : ℕ) → i < n → length (f i) ≤ count_of f n
count-member f zero i h = absurd (omega arith)
count-member f (suc n) i h =
    elim (cases_lt i n) [
      | inl lt ↦ (let r = count-member f n i lt in omega arith)
      | inr ge ↦ (let e : i ≡ n = omega arith in let l = ap (λ z. length (f z)) e in omega arith)
    ]

pub few-of : (m : Rules) (targets : List ℤ) (blocks level most share : ℕ) (fronts layers : List (List Node)) → IsDone m targets blocks level most share fronts layers → (i : ℕ) → length (nodes_at layers i) ≤ share
few-of m targets blocks level most share fronts layers d i =
    let s = size-of m targets blocks level most share fronts layers d in
    elim (cases_lt i (blocks * m.decoder.samples)) [
      | inl lt ↦ (let c = count-member (nodes_at layers) (blocks * m.decoder.samples) i lt in omega arith)
      | inr past ↦ (let z = d.layers_are.size in let e = ap (length {A = Node}) (nodes-past layers i (omega arith)) in omega arith)
    ]

nothing-there : (xs : List Node) (x : Node) → xs ≡ [] → Contains xs x → ⊥
nothing-there xs x e c = let d : Contains [] x = subst (λ (z : List Node). Contains z x) e c in omega (arith, d.1)

pub cells-of : (m : Rules) (targets : List ℤ) (blocks level most share : ℕ) (fronts layers : List (List Node)) → IsDone m targets blocks level most share fronts layers → FitTargets m blocks targets → IsTrue (is_level level)
    → (i : ℕ) (x : Node) → Contains (nodes_at layers i) x → IsTrue (is_cell (grid m) level x.cell)
cells-of m targets blocks level most share fronts layers d fit lev i x c =
    elim (cases_lt i (blocks * m.decoder.samples)) [
      | inr past ↦ (let z = d.layers_are.size in absurd (nothing-there (nodes_at layers i) x (nodes-past layers i (omega arith)) c))
      | inl lt ↦ (
          let f = valued m targets blocks level most i (nodes_at layers (suc i)) in
          let front = nodes_at fronts i in
          let g : Contains (map f front) x = subst (λ (z : List Node). Contains z x) (d.layers_are.each i lt) c in
          let len : length (map f front) ≡ length front = length-map front f in
          let k : g.0 < length front = omega (arith, g.1) in
          let y = get_or front g.0 blank in
          let same : y.cell ≡ x.cell = ap (λ (z : Node). z.cell) (sym (get_or-map f front g.0 blank x k) ∙ g.2) in
          let o = (d.fronts_are.each i lt).opened.each y (Contains-get_or front g.0 blank k) in
          subst (λ (z : Cell). IsTrue (is_cell (grid m) level z)) same (opens-cell m d.laws targets blocks level most i y.lane y.cell y.cost fit lev o))
    ]

pub none-cells : (layers : List (List Node)) (i : ℕ) (x : Node) → layers ≡ [] → Contains (nodes_at layers i) x → ⊥
none-cells layers i x e c = nothing-there (nodes_at layers i) x (ap (λ (z : List (List Node)). nodes_at z i) e) c

pub none-few : (layers : List (List Node)) (i share : ℕ) → layers ≡ [] → length (nodes_at layers i) ≤ share
none-few layers i share e = let q : length (nodes_at layers i) ≡ 0 = ap (λ (z : List (List Node)). length (nodes_at z i)) e in omega arith

-- no value is above the sum that is to be beaten
values-below : (m : Rules) (targets : List ℤ) (blocks level most share : ℕ) (fronts layers : List (List Node)) → IsDone m targets blocks level most share fronts layers
    → (i : ℕ) (x : Node) → Contains (nodes_at layers i) x → x.cost ≤ most
values-below m targets blocks level most share fronts layers d i x c =
    elim (cases_lt i (blocks * m.decoder.samples)) [
      | inr past ↦ (let z = d.layers_are.size in absurd (nothing-there (nodes_at layers i) x (nodes-past layers i (omega arith)) c))
      | inl lt ↦ (
          let f = valued m targets blocks level most i (nodes_at layers (suc i)) in
          let front = nodes_at fronts i in
          let g : Contains (map f front) x = subst (λ (z : List Node). Contains z x) (d.layers_are.each i lt) c in
          let len : length (map f front) ≡ length front = length-map front f in
          let k : g.0 < length front = omega (arith, g.1) in
          let y = get_or front g.0 blank in
          let same : (f y).cost ≡ x.cost = ap (λ (z : Node). z.cost) (sym (get_or-map f front g.0 blank x k) ∙ g.2) in
          omega arith)
    ]

pub shown-of : (m : Rules) (targets : List ℤ) (blocks level most share : ℕ) (fronts : List (List Node)) (c : LevelCert) → IsDone m targets blocks level most share fronts c.layers → FitTargets m blocks targets → IsTrue (is_level level)
    → c.blocks ≡ blocks → c.level ≡ level → c.bound ≡ value m targets (layers_certificate level blocks c.layers) → IsShown m targets blocks most share c
shown-of m targets blocks level most share fronts c d fit lev be le v =
    let layers = c.layers in
    let same : layers_certificate level blocks layers ≡ level_certificate c = ap (λ z. layers_certificate z blocks layers) (sym le) ∙ ap (λ z. layers_certificate c.level z layers) (sym be) in
    record {
      blocks_are = be;
      searched = λ ne. subst (λ (z : Certificate). IsSearched m targets most z) same (searched-of m targets blocks level most share fronts layers d);
      none_listed = λ e. absurd (not-level level (sym le ∙ e) lev);
      cert = record { accepted = subst (λ (z : Certificate). IsAccepted m targets z) same (accepted-of m targets blocks level most share fronts layers d); bound = v ∙ ap (value m targets) same };
      size = size-of m targets blocks level most share fronts layers d;
      rows = (let z = d.layers_are.size in omega arith);
      few_cells = few-of m targets blocks level most share fronts layers d;
      rising = all-rising m targets blocks level most share fronts layers d;
      cells = λ i x there. subst (λ (z : ℕ). IsTrue (is_cell (grid m) z x.cell)) (sym le) (cells-of m targets blocks level most share fronts layers d fit lev i x there);
      values = values-below m targets blocks level most share fronts layers d;
    }

pub floors-shown : (m : Rules) (targets : List ℤ) (blocks most share first : ℕ) (c : LevelCert) → HasLaws m → FitTargets m blocks targets → IsSum m blocks targets most → most ≤ top → first ≡ min top (floors_from m first_only targets 0 blocks)
    → c.blocks ≡ blocks → c.level ≡ 255 → c.bound ≡ first → c.layers ≡ [] → IsShown m targets blocks most share c
floors-shown m targets blocks most share first c laws fit s small fe be le ve e =
    let layers = c.layers in
    let b = none-bound m targets blocks 255 most first layers laws fit s small fe e in
    let none = none-value m targets c.blocks c.level layers e in
    let same : floors_from m first_only targets 0 blocks ≡ floors_from m first_only targets 0 c.blocks = ap (floors_from m first_only targets 0) (sym be) in
    record {
      blocks_are = be;
      searched = λ ne. absurd (ne le);
      none_listed = λ z. ap (length {A = List Node}) e;
      cert = record { accepted = none-accepted m targets c.blocks c.level layers e; bound = ve ∙ (b.0 ∙ (same ∙ sym none)) };
      size = size-none layers _ share e;
      rows = (let z = ap (length {A = List Node}) e in omega arith);
      few_cells = λ i. none-few layers i share e;
      rising = λ i. subst (λ (z : List (List Node)). IsRising (nodes_at z i)) (sym e) rising-nil;
      cells = λ i x there. absurd (none-cells layers i x e there);
      values = λ i x there. absurd (none-cells layers i x e there);
    }
