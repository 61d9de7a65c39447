use Rattle.std.proofs.Common.{◌≡◌, ◌≤◌, length}
use Rattle.std.specs.Prelude.{ℤ, List}
use Rattle.window_floor.specs.Numbers.{StandFor, windows_of}
use Rattle.block_bounds.proofs.LayerLaws.{FilledFrom}
use Rattle.block_bounds.proofs.bound.fill.Given as goal

abbrev pub invariant-loop-place : goal.invariant-loop-place
invariant-loop-place l = record {
  len : length l.layers ≡ l.b.places;
  within : l.place ≤ l.b.places;
  filled : (samples : List ℤ) → StandFor l.b samples → FilledFrom (windows_of l.b samples) l.leaving l.targets l.layers l.place;
}

abbrev pub decreases-loop-place : goal.decreases-loop-place
decreases-loop-place l = l.place
