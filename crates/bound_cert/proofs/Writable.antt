-- What the grammar lets stand fits its bytes.
use Rattle.std.proofs.Common.{◌≡◌, ℕ, zero, suc, ◌<◌, ◌≤◌, List, [], ◌∷◌, arith, subst, Some, true}
use Rattle.std.specs.Prelude.{slice_get}
use Rattle.std.proofs.lemmas.Bool.Decides.{nat_tests}
use Rattle.box_layers.specs.declared.cell_value.CellValue.{CellValue}
use Rattle.machine_core.specs.declared.state.Kind.{Kind}
use Rattle.bound_cert.specs.declared.shape.Limits.{Limits}
use Rattle.bound_cert.specs.Content.{Layer, Plain}
use Rattle.bound_cert.specs.Ranges.{is_level_byte}
use Rattle.bound_cert.specs.Good.{CellsFit, LayersFit}
use Rattle.bound_cert.specs.Grammar.{limits_of}
use Rattle.bound_cert.specs.Small.{SmallCell, SmallCells, SmallLayer, SmallSegment}
use Rattle.bound_cert.specs.Spelling.{AreWritable}
use Rattle.bound_cert.proofs.Again.{cell-short, key-small}

cells-small : (limits : Limits) (cells : List CellValue) → CellsFit limits cells → SmallCells cells
cells-small limits [] f k x e = absurd (cc)
cells-small limits (y ∷ ys) f zero x e =
    let q : y ≡ x = cc in
    let s = cell-short limits.kind limits.level y.cell f.0 in
    subst (λ (z : CellValue). SmallCell z) q (record { a_low = s.0.low; a_high = s.0.high; b_low = s.1.low; b_high = s.1.high })
cells-small limits (y ∷ ys) f (suc k) x e = cells-small limits ys f.2 k x e

layers-small : (limits : Limits) (layers : List Layer) → limits.blocks ≤ 65536 → limits.samples ≤ 65536 → LayersFit limits layers → (k : ℕ) (x : Layer) → slice_get layers k ≡ Some x → SmallLayer x
layers-small limits [] b s f k x e = absurd (cc)
layers-small limits (y ∷ ys) b s f zero x e =
    let q : y ≡ x = cc in
    let w = key-small limits y.key b s f.0 in
    subst (λ (z : Layer). SmallLayer z) q (record { block = w.block; place = w.place; lane = w.lane; count = f.1; cells = cells-small limits y.cells f.2 })
layers-small limits (y ∷ ys) b s f (suc k) x e = layers-small limits ys b s f.3 k x e

level-small : (l : ℕ) → is_level_byte l ≡ true → l < 256
level-small l h = grind (arith, nat_tests)

pub segments-small : (kind : Kind) (samples : ℕ) (segments : List Plain) → samples ≤ 65536 → AreWritable kind samples segments → (k : ℕ) (x : Plain) → slice_get segments k ≡ Some x → SmallSegment x
segments-small kind samples [] few w k x e = absurd (cc)
segments-small kind samples (y ∷ ys) few w zero x e =
    let q : y ≡ x = cc in
    let b = w.0.blocks in
    subst (λ (z : Plain). SmallSegment z) q (record {
      blocks = b;
      level = level-small y.level w.0.level;
      count = w.0.count;
      layers = layers-small (limits_of kind samples y.blocks y.level) y.layers (omega arith) few w.0.fit;
    })
segments-small kind samples (y ∷ ys) few w (suc k) x e = segments-small kind samples ys few w.1 k x e
