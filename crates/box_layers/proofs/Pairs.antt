-- Cells and their values in two lists, by their number.
use Rattle.std.proofs.Common.{◌≡◌, ℕ, zero, suc, ◌<◌, List, [], ◌∷◌, length, arith, refl}
use Rattle.std.specs.Prelude.{slice_index_or}
use Rattle.machine_core.specs.declared.boxes.Cell.{Cell}
use Rattle.box_layers.specs.Cells.{nth}
use Rattle.box_layers.specs.Pairs.{paired}

pub length-paired : (cs : List Cell) (vs : List ℕ) → length vs ≡ length cs → length (paired cs vs) ≡ length cs
length-paired [] vs e = refl
length-paired (c ∷ cs) [] e = absurd (omega arith)
length-paired (c ∷ cs) (v ∷ vs) e = let ih = length-paired cs vs (omega arith) in omega (arith, ih)

pub cell-paired : (cs : List Cell) (vs : List ℕ) (k : ℕ) (d : Cell) → length vs ≡ length cs → k < length cs → slice_index_or cs k d ≡ (nth (paired cs vs) k).cell
cell-paired [] vs k d e h = absurd (omega arith)
cell-paired (c ∷ cs) [] k d e h = absurd (omega arith)
cell-paired (c ∷ cs) (v ∷ vs) zero d e h = refl
cell-paired (c ∷ cs) (v ∷ vs) (suc k) d e h = cell-paired cs vs k d (omega arith) (omega arith)

pub value-paired : (cs : List Cell) (vs : List ℕ) (k d : ℕ) → length vs ≡ length cs → k < length cs → slice_index_or vs k d ≡ (nth (paired cs vs) k).value
value-paired [] vs k d e h = absurd (omega arith)
value-paired (c ∷ cs) [] k d e h = absurd (omega arith)
value-paired (c ∷ cs) (v ∷ vs) zero d e h = refl
value-paired (c ∷ cs) (v ∷ vs) (suc k) d e h = value-paired cs vs k d (omega arith) (omega arith)
