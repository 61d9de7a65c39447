-- What may stand in a certificate that is read: everything is in range.
use Rattle.std.specs.Prelude.{◌≡◌, ℕ, ◌<◌, true, List, [], ◌∷◌, length, Option, Some, None, ◌^◌}
use Rattle.std.specs.Bool.{⊤}
use Rattle.machine_core.specs.declared.boxes.Cell.{Cell}
use Rattle.box_layers.specs.declared.cell_value.CellValue.{CellValue}
use Rattle.box_layers.specs.declared.key.Key.{Key}
use Rattle.machine_core.specs.declared.state.Kind.{Kind}
use Rattle.bound_cert.specs.declared.shape.Limits.{Limits}
use Rattle.box_layers.specs.Cells.{IsAfterAll}
use Rattle.bound_cert.specs.Content.{Layer, Segment, IsBelowAll, AreSorted}
use Rattle.bound_cert.specs.Ranges.{cell_fits, key_fits, is_level_byte}
use Rattle.bound_cert.specs.Grammar.{limits_of}

abbrev pub CellsFit : Limits → List CellValue → Type 0
CellsFit limits [] = ⊤
CellsFit limits (x ∷ xs) = (cell_fits limits.kind limits.level x.cell ≡ true) × (x.value < 1152921504606846976) × CellsFit limits xs

abbrev pub LayersFit : Limits → List Layer → Type 0
LayersFit limits [] = ⊤
LayersFit limits (x ∷ xs) = (key_fits limits x.key ≡ true) × (length x.cells < 2 ^ 32) × CellsFit limits x.cells × LayersFit limits xs

pub record SegmentFits (kind : Kind) (samples : ℕ) (x : Segment) : Type 0 where
  pub level : is_level_byte x.level ≡ true
  pub floor_only : x.level ≡ 255 → length x.layers ≡ 0
  pub layers : LayersFit (limits_of kind samples x.blocks x.level) x.layers
  pub sorted : AreSorted x.layers

abbrev pub SegmentsFit : Kind → ℕ → List Segment → Type 0
SegmentsFit kind samples [] = ⊤
SegmentsFit kind samples (x ∷ xs) = SegmentFits kind samples x × SegmentsFit kind samples xs

abbrev pub AfterLast : Option Cell → List CellValue → Type 0
AfterLast None xs = ⊤
AfterLast (Some c) xs = IsAfterAll c xs

abbrev pub BelowLast : Option Key → List Layer → Type 0
BelowLast None xs = ⊤
BelowLast (Some k) xs = IsBelowAll k xs

abbrev pub blocks_in : Segment → ℕ
blocks_in s = s.blocks
