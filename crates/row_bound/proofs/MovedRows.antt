-- A layer's base row moved by a step is a row.
use Rattle.std.proofs.Common.{ℕ, ◌<◌, ◌^◌, arith, refl}
use Rattle.std.specs.Prelude.{ℤ, pos, negsuc, ◌+ℤ◌, ◌≤ℤ◌, List, length, get_or}
use Rattle.std.proofs.lemmas.Int.{ints}
use Rattle.row_bound.specs.declared.row.Row.{Row}
use Rattle.row_bound.specs.declared.layer.Layer.{Layer}
use Rattle.adpcm_nums.specs.Ranges.{IsWithin}
use Rattle.row_bound.specs.Rows.{IsMoved}
use Rattle.row_bound.specs.Ladder.{IsLadder}

within : (x s : ℤ) → IsWithin x (negsuc (2 ^ 24)) (pos (2 ^ 24)) → negsuc (2 ^ 24) ≤ℤ s → s ≤ℤ pos (2 ^ 24) → IsWithin (x +ℤ s) (negsuc (2 ^ 26)) (pos (2 ^ 26))
within x s r h k = let a = r.low in let b = r.high in record { low = omega (arith, ints, a, h); high = omega (arith, ints, b, k) }

moved-by : (layer : Layer) (s : ℤ) → negsuc (2 ^ 24) ≤ℤ s → s ≤ℤ pos (2 ^ 24) → Row
moved-by layer s h k = record {
  d = layer.base.d;
  a = layer.base.a;
  b = layer.base.b;
  low = layer.base.low +ℤ s;
  high = layer.base.high +ℤ s;
  weight = layer.base.weight;
  known = layer.base.known;
  out = layer.base.out;
  d_is = layer.base.d_is;
  a_is = layer.base.a_is;
  b_is = layer.base.b_is;
  low_is = within layer.base.low s layer.low_is h k;
  high_is = within layer.base.high s layer.high_is h k;
  weight_is = layer.base.weight_is;
  weight_most = layer.base.weight_most;
  out_is = layer.base.out_is;
}

pub moved-exists : (steps : List ℤ) (layer : Layer) (i : ℕ) → IsLadder steps → i < length steps → (w : Row) × IsMoved layer.base (get_or steps i (pos 0)) w
unfolding moved-by
moved-exists steps layer i ladder h = (moved-by layer (get_or steps i (pos 0)) (ladder.low i h) (ladder.high i h), record { d = refl; a = refl; b = refl; low = refl; high = refl; weight = refl; known = refl; out = refl })
