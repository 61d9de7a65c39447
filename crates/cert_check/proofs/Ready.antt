-- A segment that was read is ready to be checked.
use Rattle.std.proofs.Common.{◌≡◌, ℕ, zero, suc, ◌<◌, List, [], ◌∷◌, length, refl, arith, subst, Some, true, false, Bool, IsTrue}
use Rattle.std.specs.Prelude.{slice_get, nat_lt, ◌&&◌}
use Rattle.std.proofs.lemmas.Bool.Decides.{nat_tests}
use Rattle.machine_core.specs.Rules.{Rules}
use Rattle.box_layers.specs.declared.cell_value.CellValue.{CellValue}
use Rattle.bound_cert.specs.declared.shape.Limits.{Limits}
use Rattle.box_layers.specs.Cells.{nth}
use Rattle.bound_cert.specs.Content.{Layer, Segment}
use Rattle.bound_cert.specs.Ranges.{cell_fits, key_fits, lane_fits, is_level_byte}
use Rattle.bound_cert.specs.Good.{CellsFit, LayersFit, SegmentFits}
use Rattle.bound_cert.specs.Grammar.{limits_of}
use Rattle.cert_check.specs.Faults.{AreLayers, IsLayer}
use Rattle.bound_cert.specs.Filed.{IsFiled}
use Rattle.machine_core.specs.Cells.{is_level}

cells-fit : (limits : Limits) (cells : List CellValue) (k : ℕ) → CellsFit limits cells → k < length cells → cell_fits limits.kind limits.level (nth cells k).cell ≡ true
cells-fit limits [] k f h = absurd (omega arith)
cells-fit limits (x ∷ xs) zero f h = f.0
cells-fit limits (x ∷ xs) (suc k) f h = cells-fit limits xs k f.2 (omega arith)

record LayerFits (limits : Limits) (x : Layer) : Type 0 where
  key : key_fits limits x.key ≡ true
  cells : CellsFit limits x.cells

layer-fits : (limits : Limits) (layers : List Layer) (j : ℕ) (x : Layer) → LayersFit limits layers → slice_get layers j ≡ Some x → LayerFits limits x
layer-fits limits [] j x f e = absurd (cc)
layer-fits limits (y ∷ ys) zero x f e = let q : y ≡ x = cc in subst (λ (z : Layer). LayerFits limits z) q (record { key = f.0; cells = f.2 })
layer-fits limits (y ∷ ys) (suc j) x f e = layer-fits limits ys j x f.3 e

some-layers : (layers : List Layer) (j : ℕ) (x : Layer) → slice_get layers j ≡ Some x → length layers ≡ 0 → ⊥
some-layers [] j x e h = cc
some-layers (y ∷ ys) j x e h = absurd (omega arith)

and-true : (a b : Bool) → (a && b) ≡ true → (a ≡ true) × (b ≡ true)
and-true true b h = (refl, h)
and-true false b h = cc

lt-is : (a b : ℕ) → nat_lt a b ≡ true → a < b
lt-is a b h = grind (arith, nat_tests)

-- a level that is not that of a segment without cells
level-is : (level : ℕ) → is_level_byte level ≡ true → (level ≡ 255 → ⊥) → is_level level ≡ true
level-is level h other = grind (arith, nat_tests, other)

key-ready : (m : Rules) (s : Segment) (x : Layer) → IsFiled m → LayerFits (limits_of m.kind m.decoder.samples s.blocks s.level) x → is_level s.level ≡ true → IsLayer m s.level s.blocks x
unfolding key_fits
key-ready m s x filed f level =
    let p = and-true (nat_lt x.key.block s.blocks && nat_lt x.key.place m.decoder.samples) (lane_fits m.kind x.key.place x.key.lane) f.key in
    let q = and-true (nat_lt x.key.block s.blocks) (nat_lt x.key.place m.decoder.samples) p.0 in
    record {
      block = lt-is _ _ q.0;
      place = lt-is _ _ q.1;
      cells = λ k h. filed.are_cells s.level (nth x.cells k).cell level (cells-fit (limits_of m.kind m.decoder.samples s.blocks s.level) x.cells k f.cells h);
    }

pub layers-ready : (m : Rules) (s : Segment) → IsFiled m → SegmentFits m.kind m.decoder.samples s → AreLayers m s.level s.blocks s.layers
layers-ready m s filed fit = record {
  each = λ j x e. (
      let f = layer-fits (limits_of m.kind m.decoder.samples s.blocks s.level) s.layers j x fit.layers e in
      key-ready m s x filed f (level-is s.level fit.level (λ q. some-layers s.layers j x e (fit.floor_only q)))
      );
}

pub level-ready : (m : Rules) (s : Segment) → SegmentFits m.kind m.decoder.samples s → 0 < length s.layers → IsTrue (is_level s.level)
level-ready m s fit h = level-is s.level fit.level (λ q. (let z = fit.floor_only q in absurd (omega arith)))
