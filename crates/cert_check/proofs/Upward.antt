-- What is looked up after a layer stands in the layers after it.
use Rattle.std.proofs.Common.{◌≡◌, ℕ, zero, suc, ◌+◌, ◌*◌, ◌/◌, ◌%◌, ◌<◌, ℤ, List, [], ◌∷◌, drop, sym, ◌∙◌, ap, arith, inl, inr, ◌⊎◌, Some, Option, true, false, cond}
use Rattle.machine_core.specs.Blocks.{first_only}
use Rattle.std.specs.Prelude.{slice_get}
use Rattle.std.proofs.lemmas.Bool.Decides.{nat_tests}
use Rattle.machine_core.specs.declared.boxes.Cell.{Cell}
use Rattle.machine_core.specs.Rules.{Rules, IsMachine}
use Rattle.box_layers.specs.Certificates.{found, Certificate, lane_at, head_found}
use Rattle.machine_core.specs.Floors.{may_take, top}
use Rattle.machine_core.proofs.Places.{block-of, place-of}
use Rattle.box_layers.specs.declared.key.Key.{Key}
use Rattle.box_layers.specs.declared.cell_value.CellValue.{CellValue}
use Rattle.box_layers.specs.Keys.{key_before, key_same}
use Rattle.box_layers.specs.Cells.{value_of}
use Rattle.bound_cert.specs.Content.{Layer, IsBelowAll, AreSorted}
use Rattle.std.proofs.lemmas.Bool.{cond-false}
use Rattle.box_layers.proofs.CellOrder.{key-trans}
use Rattle.block_steps.specs.Ways.{key_for}
use Rattle.cert_check.specs.Layers.{cells_for, certificate_of, listed_in}
use Rattle.cert_check.specs.Faults.{index_of}
use Rattle.adpcm_nums.proofs.LeastValueLaws.{least-same}
use Rattle.block_steps.proofs.Steps.{head-same}

pub before-not : (j k : Key) → key_before j k ≡ true → key_same j k ≡ false
unfolding key_before
before-not j k h = grind (arith, nat_tests)

pub below-at : (k : Key) (xs : List Layer) (j : ℕ) (x : Layer) → IsBelowAll k xs → slice_get xs j ≡ Some x → key_before k x.key ≡ true
below-at k [] j x h e = absurd (cc)
below-at k (y ∷ ys) zero x h e = let s : y ≡ x = cc in ap (λ (z : Layer). key_before k z.key) (sym s) ∙ h.0
below-at k (y ∷ ys) (suc j) x h e = below-at k ys j x h.1 e

pub cells-later : (layers : List Layer) (j : ℕ) (x : Layer) (key : Key) → AreSorted layers → slice_get layers j ≡ Some x → key_before x.key key ≡ true → cells_for layers key ≡ cells_for (drop (suc j) layers) key
cells-later [] j x key s e b = absurd (cc)
cells-later (y ∷ ys) zero x key s e b =
    let q : y ≡ x = cc in
    cond-false (key_same y.key key) y.cells (cells_for ys key) (before-not y.key key (ap (λ (z : Layer). key_before z.key key) q ∙ b))
cells-later (y ∷ ys) (suc j) x key s e b =
    cond-false (key_same y.key key) y.cells (cells_for ys key) (before-not y.key key (key-trans y.key x.key key (below-at y.key ys j x s.2 e) b)) ∙ cells-later ys j x key s.3 e b

lt-or-same : (a b : ℕ) → a < b → (a + 1 < b) ⊎ (a + 1 ≡ b)
lt-or-same a b h = grind arith

place-before : (k : Key) (b p l : ℕ) → b ≡ k.block → p ≡ k.place + 1 → key_before k (record { block = b; place = p; lane = l }) ≡ true
unfolding key_before
place-before k b p l e q = grind (arith, nat_tests)

block-before : (k : Key) (b p l : ℕ) → b ≡ k.block + 1 → key_before k (record { block = b; place = p; lane = l }) ≡ true
unfolding key_before
block-before k b p l e = grind (arith, nat_tests)

-- the next sample is after a layer
next-after : (m : Rules) → IsMachine m → (k : Key) (lane : ℕ) → k.place < m.decoder.samples → key_before k (key_for m (suc (index_of m k)) lane) ≡ true
next-after m laws k lane h =
    let n = m.decoder.samples in
    let i = suc (index_of m k) in
    elim (lt-or-same k.place n h) [
      | inl less ↦ place-before k (i / n) (i % n) lane (block-of k.block n (k.place + 1) i (omega arith) less) (place-of k.block n (k.place + 1) i (omega arith) less)
      | inr last ↦ block-before k (i / n) (i % n) lane
          (let more : i ≡ (k.block + 1) * n + 0 = omega arith in block-of (k.block + 1) n 0 i more laws.some_samples)
    ]

found-same : (m : Rules) (targets : List ℤ) (level blocks i lane : ℕ) (listed listed' : ℕ → ℕ → Cell → Option ℕ) (cell : Cell) → ((l : ℕ) → listed (suc i) l ≡ listed' (suc i) l)
    → found m targets (record { level = level; blocks = blocks; listed = listed }) i lane cell ≡ found m targets (record { level = level; blocks = blocks; listed = listed' }) i lane cell
found-same m targets level blocks i lane listed listed' cell e =
    let c : Certificate = record { level = level; blocks = blocks; listed = listed } in
    let c' : Certificate = record { level = level; blocks = blocks; listed = listed' } in
    least-same m.decoder.heads (head_found m targets c i lane cell) (head_found m targets c' i lane cell) top (λ h.
    ap (λ z. cond (may_take m first_only i lane h) z top) (head-same m targets level blocks i h listed listed' cell (e (lane_at m h (suc i)))))

-- what is found from a layer is found from those after it
pub found-later : (m : Rules) → IsMachine m → (targets : List ℤ) (level blocks : ℕ) (layers : List Layer) (j : ℕ) (x : Layer) (lane : ℕ) (cell : Cell) → AreSorted layers → slice_get layers j ≡ Some x → x.key.place < m.decoder.samples
    → found m targets (certificate_of m (drop (suc j) layers) level blocks) (index_of m x.key) lane cell ≡ found m targets (certificate_of m layers level blocks) (index_of m x.key) lane cell
found-later m laws targets level blocks layers j x lane cell s e h =
    found-same m targets level blocks (index_of m x.key) lane (listed_in m (drop (suc j) layers)) (listed_in m layers) cell (λ l.
    ap (λ (z : List CellValue). value_of z) (sym (cells-later layers j x (key_for m (suc (index_of m x.key)) l) s e (next-after m laws x.key l h))))
