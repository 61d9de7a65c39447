-- What a search shows can stand in a certificate, and says there what it says.
use Rattle.std.proofs.Common.{◌≡◌, ◌≢◌, ℕ, zero, suc, ◌+◌, ◌*◌, ◌/◌, ◌%◌, ◌^◌, ◌<◌, ◌≤◌, ◌⊎◌, inl, inr, ℤ, pos, negsuc, List, [], ◌∷◌, ◌++◌, length, arith, refl, ap, sym, ◌∙◌, subst, Bool, true, false, cond, nat_eq, Option, zero-add, length-append}
use Rattle.std.specs.Prelude.{nat_lt, ◌≤ℤ◌, ◌&&◌}
use Rattle.box_layers.specs.declared.cell_value.CellValue.{CellValue}
use Rattle.std.proofs.Math.Nat.{mod-lt, mod-eq_of_lt}
use Rattle.std.proofs.Math.Path.{fun_ext}
use Rattle.std.proofs.lemmas.Int.{ints}
use Rattle.std.proofs.lemmas.Bool.{cases_Bool, cond-true, cond-false, lt-ltb, cases_lt}
use Rattle.std.proofs.lemmas.Bool.Decides.{nat_tests}
use Rattle.adpcm_nums.specs.Sample.{IsSample}
use Rattle.machine_core.specs.declared.boxes.Cell.{Cell}
use Rattle.machine_core.specs.Rules.{Rules}
use Rattle.machine_core.proofs.CellLaws.{cell-small}
use Rattle.machine_core.proofs.Places.{block-below}
use Rattle.box_layers.specs.Certificates.{Certificate}
use Rattle.box_layers.specs.Cells.{value_of}
use Rattle.bound_cert.specs.declared.shape.Limits.{Limits}
use Rattle.bound_cert.specs.Content.{Layer, Plain, AreSorted}
use Rattle.bound_cert.specs.Good.{LayersFit}
use Rattle.bound_cert.specs.Grammar.{limits_of}
use Rattle.bound_cert.specs.Ranges.{key_fits, lane_fits, is_level_byte}
use Rattle.bound_cert.specs.Spelling.{IsWritable}
use Rattle.block_steps.specs.Ways.{key_for}
use Rattle.cert_check.specs.Layers.{certificate_of, cells_for, listed_in as listed_there}
use Rattle.open_cells.specs.declared.node.Node.{Node}
use Rattle.open_cells.specs.Counts.{nodes_at, count_of}
use Rattle.open_cells.specs.Nodes.{listed_in, Fits}
use Rattle.open_cells.specs.Paths.{HasLaws, Opens}
use Rattle.open_cells.proofs.Look.{listed-some}
use Rattle.branch_bound.specs.declared.levels.LevelCert.{LevelCert}
use Rattle.branch_bound.specs.Keyed.{key_at, cell_of_node, joined, cut, keyed, cell_total, stored_as}
use Rattle.branch_bound.specs.Lists.{IsShown, level_certificate}
use Rattle.branch_bound.specs.Searched.{IsLevel}
use Rattle.branch_bound.proofs.Filing.{AreFileable, keyed-filed}
use Rattle.branch_bound.proofs.Looked.{keyed-look}
use Rattle.branch_bound.proofs.Shown.{level-fits}
use Rattle.machine_core.specs.declared.choice.Choice.{Choice}
use Rattle.machine_core.specs.Decoder.{start}
use Rattle.machine_core.specs.Rules.{IsMachine}
use Rattle.machine_core.proofs.States.{sum-small}
use Rattle.box_layers.specs.Certificates.{IsAccepted, value}
use Rattle.open_cells.specs.Paths.{FitTargets}
use Rattle.branch_bound.specs.Searched.{IsSearched, IsChoice, IsStored, blocks_of}

first-fits : (p lane : ℕ) (other : Bool) → p ≡ 0 → lane ≡ 65535 → cond (nat_eq p 0) (nat_eq lane 65535) other ≡ true
first-fits p lane other h e = grind (arith, nat_tests)

zero-test : (p : ℕ) → p ≡ 0 → nat_eq p 0 ≡ true
zero-test p h = grind (arith, nat_tests)

later-test : (p : ℕ) → 0 < p → nat_eq p 0 ≡ false
later-test p h = grind (arith, nat_tests)

zero-or-more : (p : ℕ) → (p ≡ 0) ⊎ (0 < p)
zero-or-more p = grind arith

-- the lane of an open path's end may stand in a file
opens-lane : (m : Rules) → HasLaws m → (targets : List ℤ) (blocks level most i lane : ℕ) (cell : Cell) (cost : ℕ) → Opens m targets blocks level most i lane cell cost → lane_fits m.kind (i % m.decoder.samples) lane ≡ true
opens-lane m laws targets blocks level most zero lane cell cost o = first-fits (0 % m.decoder.samples) lane _ (mod-eq_of_lt laws.machine.some_samples) o.0
opens-lane m laws targets blocks level most (suc i) lane cell cost o =
    let p = suc i % m.decoder.samples in
    let h = o.5.head in
    elim (zero-or-more p) as (λ _. lane_fits m.kind p lane ≡ true) [
      | inl z ↦ first-fits p lane _ z (o.5.leads ∙ cond-true (nat_eq p 0) 65535 (m.lane h p) (zero-test p z))
      | inr later ↦ subst (λ (z : ℕ). lane_fits m.kind p z ≡ true) (sym (o.5.leads ∙ cond-false (nat_eq p 0) 65535 (m.lane h p) (later-test p later)))
          (laws.filed.lanes_fit h p o.5.head_fits later (mod-lt (suc i) laws.machine.some_samples))
    ]

low : (z : ℤ) → negsuc 32767 ≤ℤ z → negsuc 2147483647 ≤ℤ z
low z h = omega (arith, ints)

high : (z : ℤ) → z ≤ℤ pos 32767 → z ≤ℤ pos 2147483647
high z h = omega (arith, ints)

wide : (lane : ℕ) (c : Cell) → IsSample c.a → IsSample c.b → Fits lane c
wide lane c a b = record { a_low = low c.a a.low; a_high = high c.a a.high; b_low = low c.b b.low; b_high = high c.b b.high }

all-true : (a b c : Bool) → a ≡ true → b ≡ true → c ≡ true → (a && b && c) ≡ true
all-true a b c h k l = rw (h, k, l) refl

key-fits : (limits : Limits) (b p lane : ℕ) → b < limits.blocks → p < limits.samples → lane_fits limits.kind p lane ≡ true → key_fits limits (key_at b p lane) ≡ true
unfolding key_fits
key-fits limits b p lane h k l = all-true (nat_lt b limits.blocks) (nat_lt p limits.samples) (lane_fits limits.kind p lane) (lt-ltb b limits.blocks h) (lt-ltb p limits.samples k) l

abbrev limits_for : Rules → ℕ → LevelCert → Limits
limits_for m blocks c = limits_of m.kind m.decoder.samples blocks c.level

fileable : (m : Rules) → HasLaws m → (targets : List ℤ) (blocks most share : ℕ) (c : LevelCert) → IsShown m targets blocks most share c → IsLevel m targets blocks most share c.level → most < 1152921504606846976
    → (j : ℕ) → j < length c.layers → AreFileable (limits_for m blocks c) (j / m.decoder.samples) (j % m.decoder.samples) (nodes_at c.layers j)
fileable m laws targets blocks most share c s level small j within =
    let n = m.decoder.samples in
    let ne : c.level ≢ 255 = λ e. (let z = s.none_listed e in omega arith) in
    let lev = level-fits m targets blocks most share c.level level ne in
    let rows = s.rows in
    record {
      rising = s.rising j;
      each = λ x there. (
          let is = s.cells j x there in
          let sample = cell-small m c.level x.cell laws.boxed is in
          let at = listed-some (nodes_at c.layers j) x.lane x.cell there.0 x there.1 (ap (λ (z : Node). z.lane) there.2) (ap (λ (z : Node). z.cell) there.2) in
          let o = (s.searched ne).only j x.lane x.cell at.0 at.1 in
          let lane = opens-lane m laws targets c.blocks c.level most j x.lane x.cell o.0 o.1 in
          let value = s.values j x there in
          record {
            fits = wide x.lane x.cell sample.0 sample.1;
            key = key-fits (limits_for m blocks c) (j / n) (j % n) x.lane (block-below j n blocks (omega arith)) (mod-lt j laws.machine.some_samples) lane;
            cell = laws.filed.cells_fit c.level x.cell lev is;
            small = omega arith;
          });
    }

-- the certificate of the file's layers is that of the search's
pub filed-same : (m : Rules) → HasLaws m → (targets : List ℤ) (blocks most share : ℕ) (c : LevelCert) → IsShown m targets blocks most share c → IsLevel m targets blocks most share c.level → most < 1152921504606846976 → share < 2 ^ 32
    → certificate_of m (keyed m.decoder.samples 0 c.layers) c.level c.blocks ≡ level_certificate c
filed-same m laws targets blocks most share c s level small few =
    let n = m.decoder.samples in
    let layers = c.layers in
    let mk : (ℕ → ℕ → Cell → Option ℕ) → Certificate = λ f. record { level = c.level; blocks = c.blocks; listed = f } in
    let file : (j : ℕ) → j < length layers → AreFileable (limits_for m blocks c) ((0 + j) / n) ((0 + j) % n) (nodes_at layers j) = λ j h. subst (λ (z : ℕ). AreFileable (limits_for m blocks c) (z / n) (z % n) (nodes_at layers j)) (sym (zero-add j)) (fileable m laws targets blocks most share c s level small j h) in
    let some : (j : ℕ) → length (nodes_at layers j) < 2 ^ 32 = λ j. (let f = s.few_cells j in omega arith) in
    let look : (i l : ℕ) (k : Cell) → value_of (cells_for (keyed n 0 layers) (key_for m i l)) k ≡ listed_in (nodes_at layers i) l k =
    λ i l k. ap (λ z. value_of (cells_for (keyed n 0 layers) (key_at (z / n) (z % n) l)) k) (sym (zero-add i)) ∙ keyed-look (limits_for m blocks c) n 0 layers laws.machine.some_samples file some i l k in
    let one : (i l : ℕ) → listed_there m (keyed n 0 layers) i l ≡ listed_in (nodes_at layers i) l = λ i l. fun_ext (λ k. look i l k) in
    let two : (i : ℕ) → listed_there m (keyed n 0 layers) i ≡ listed_in (nodes_at layers i) = λ i. fun_ext (λ l. one i l) in
    let three : listed_there m (keyed n 0 layers) ≡ (λ i. listed_in (nodes_at layers i)) = fun_ext (λ i. two i) in
    ap mk three

-- each layer has a cell
layers-few : (xs : List Layer) → AreSorted xs → length xs ≤ cell_total xs
layers-few [] h = omega arith
layers-few (x ∷ xs) h = let i = layers-few xs h.3 in omega (arith, h.0)

joined-total : (b p lane : ℕ) (cells : List CellValue) (rest : List Layer) → cell_total (joined b p lane cells rest) ≡ length cells + cell_total rest
joined-total b p lane cells [] = refl
joined-total b p lane cells (x ∷ xs) =
    let mk : List CellValue → Layer = λ z. record { key = key_at b p lane; cells = z } in
    let l : length (cells ++ x.cells) ≡ length cells + length x.cells = length-append cells x.cells in
    elim (cases_Bool (nat_eq x.key.lane lane)) as (λ _. cell_total (joined b p lane cells (x ∷ xs)) ≡ length cells + cell_total (x ∷ xs)) [
      | inl y ↦ ap cell_total (cond-true (nat_eq x.key.lane lane) (mk (cells ++ x.cells) ∷ xs) (mk cells ∷ x ∷ xs) y) ∙ omega arith
      | inr n ↦ ap cell_total (cond-false (nat_eq x.key.lane lane) (mk (cells ++ x.cells) ∷ xs) (mk cells ∷ x ∷ xs) n)
    ]

cut-total : (b p : ℕ) (nodes : List Node) → cell_total (cut b p nodes) ≡ length nodes
cut-total b p [] = refl
cut-total b p (x ∷ xs) = let i = cut-total b p xs in let j = joined-total b p x.lane (cell_of_node x ∷ []) (cut b p xs) in omega arith

total-append : (xs ys : List Layer) → cell_total (xs ++ ys) ≡ cell_total xs + cell_total ys
total-append [] ys = omega arith
total-append (x ∷ xs) ys = let i = total-append xs ys in omega arith

count-first : (x : List Node) (xs : List (List Node)) (k : ℕ) → count_of (nodes_at (x ∷ xs)) (suc k) ≡ length x + count_of (nodes_at xs) k
count-first x xs zero = omega arith
count-first x xs (suc k) = let i = count-first x xs k in omega arith

keyed-total : (n i : ℕ) (xs : List (List Node)) → cell_total (keyed n i xs) ≡ count_of (nodes_at xs) (length xs)
keyed-total n i [] = refl
keyed-total n i (x ∷ xs) =
    let a = total-append (cut (i / n) (i % n) x) (keyed n (suc i) xs) in let b = cut-total (i / n) (i % n) x in let c = keyed-total n (suc i) xs in let d = count-first x xs (length xs) in omega arith

count-rises : (f : ℕ → List Node) (a n : ℕ) → a ≤ n → count_of f a ≤ count_of f n
count-rises f a zero h = (let e : a ≡ 0 = omega arith in let q = ap (count_of f) e in omega arith)
count-rises f a (suc n) h =
    elim (cases_lt n a) [
      | inl lt ↦ (let e : a ≡ suc n = omega arith in let q : count_of f a ≡ count_of f (suc n) = ap (count_of f) e in omega arith)
      | inr le ↦ (let i = count-rises f a n le in omega arith)
    ]

-- and at most the share
pub total-few : (m : Rules) (targets : List ℤ) (blocks most share : ℕ) (c : LevelCert) → IsShown m targets blocks most share c → cell_total (keyed m.decoder.samples 0 c.layers) ≤ share
total-few m targets blocks most share c s =
    let t = keyed-total m.decoder.samples 0 c.layers in
    let r = count-rises (nodes_at c.layers) (length c.layers) (blocks * m.decoder.samples) s.rows in
    let z = s.size in omega arith

level-byte : (m : Rules) (targets : List ℤ) (blocks most share level : ℕ) → IsLevel m targets blocks most share level → is_level_byte level ≡ true
level-byte m targets blocks most share level l =
    elim l [
      | inl a ↦ subst (λ (z : ℕ). is_level_byte z ≡ true) (sym a.1) refl
      | inr b ↦ (elim b [
        | inl a ↦ subst (λ (z : ℕ). is_level_byte z ≡ true) (sym a.1) refl
        | inr e ↦ (elim e [
          | inl a ↦ subst (λ (z : ℕ). is_level_byte z ≡ true) (sym a.1) refl
          | inr f ↦ subst (λ (z : ℕ). is_level_byte z ≡ true) (sym f.0) refl
        ])
      ])
    ]

empty-keyed : (n : ℕ) (xs : List (List Node)) → length xs ≡ 0 → length (keyed n 0 xs) ≡ 0
empty-keyed n [] h = refl
empty-keyed n (x ∷ xs) h = absurd (omega arith)

pub writable : (m : Rules) → HasLaws m → (targets : List ℤ) (blocks most share : ℕ) (c : LevelCert) → IsShown m targets blocks most share c → IsLevel m targets blocks most share c.level → most < 1152921504606846976 → share < 2 ^ 32 → blocks < 65536 → c.bound < 2 ^ 64
    → IsWritable m.kind m.decoder.samples (record { blocks = c.blocks; level = c.level; bound = c.bound; layers = keyed m.decoder.samples 0 c.layers })
writable m laws targets blocks most share c s level small few blocks_few bound =
    let n = m.decoder.samples in
    let layers = c.layers in
    let be = s.blocks_are in
    let file : (j : ℕ) → j < length layers → AreFileable (limits_for m blocks c) ((0 + j) / n) ((0 + j) % n) (nodes_at layers j) = λ j h. subst (λ (z : ℕ). AreFileable (limits_for m blocks c) (z / n) (z % n) (nodes_at layers j)) (sym (zero-add j)) (fileable m laws targets blocks most share c s level small j h) in
    let some : (j : ℕ) → length (nodes_at layers j) < 2 ^ 32 = λ j. (let f = s.few_cells j in omega arith) in
    let filed = keyed-filed (limits_for m blocks c) n 0 layers laws.machine.some_samples file some in
    let total = total-few m targets blocks most share c s in
    let count = layers-few (keyed n 0 layers) filed.sorted in
    record {
      blocks = omega arith;
      level = level-byte m targets blocks most share c.level level;
      bound = bound;
      count = omega arith;
      floor_only = λ e. empty-keyed n layers (s.none_listed e);
      fit = subst (λ (z : ℕ). LayersFit (limits_of m.kind n z c.level) (keyed n 0 layers)) (sym be) filed.fit;
      sorted = filed.sorted;
    }

-- the error of a list of so few samples is small
sum-fits : (m : Rules) → IsMachine m → (targets : List ℤ) (blocks : ℕ) (c : Choice) → FitTargets m blocks targets → length targets ≤ 262144 → IsChoice m blocks targets c → c.sum < 1152921504606846976
sum-fits m laws targets blocks c fit few choice =
    let s = sum-small m laws blocks (blocks_of c) targets choice.legal.in_range fit.count fit.range start laws.start_fits 0 (blocks * m.decoder.samples) (omega arith) in
    let e = choice.sum in let n = fit.count in omega arith

-- so what a search shows can be stored
pub stored-of : (m : Rules) → HasLaws m → (targets : List ℤ) (blocks : ℕ) (best : Choice) (share : ℕ) (c : LevelCert) (p : Plain) → FitTargets m blocks targets → length targets ≤ 262144 → IsChoice m blocks targets best
    → IsShown m targets blocks best.sum share c → IsLevel m targets blocks best.sum share c.level → share < 2 ^ 32 → blocks < 65536 → c.bound < 2 ^ 64 → p ≡ stored_as m.decoder.samples c → IsStored m targets best.sum share p
stored-of m laws targets blocks best share c p fit short choice s level few blocks_few bound e =
    let small = sum-fits m laws.machine targets blocks best fit short choice in
    let same = sym (filed-same m laws targets blocks best.sum share c s level small few) in
    subst (λ (z : Plain). IsStored m targets best.sum share z) (sym e) (record {
      writable = writable m laws targets blocks best.sum share c s level small few blocks_few bound;
      few_cells = total-few m targets blocks best.sum share c s;
      searched = λ ne. subst (λ (z : Certificate). IsSearched m targets best.sum z) same (s.searched ne);
      accepted = subst (λ (z : Certificate). IsAccepted m targets z) same s.cert.accepted;
      bound = s.cert.bound ∙ ap (value m targets) same;
    })
