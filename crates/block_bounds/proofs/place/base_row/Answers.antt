use Rattle.std.proofs.Common.{arith}
use Rattle.std.proofs.lemmas.Int.{ints}
use Rattle.block_bounds.proofs.place.base_row.Goals as goal

pub invariant_of-result : goal.invariant_of-result
invariant_of-result c =
    let w = c.args.w in
    record {
      d_is = record { low = omega (arith, ints, w.d_is.low, w.d_is.high); high = omega (arith, ints, w.d_is.low, w.d_is.high) };
      a_is = record { low = omega (arith, ints, w.ca_is.low, w.ca_is.high); high = omega (arith, ints, w.ca_is.low, w.ca_is.high) };
      b_is = record { low = omega (arith, ints, w.cb_is.low, w.cb_is.high); high = omega (arith, ints, w.cb_is.low, w.cb_is.high) };
      low_is = record { low = omega (arith, ints, c.requires.low_small, c.requires.low_great); high = omega (arith, ints, c.requires.low_small, c.requires.low_great) };
      high_is = record { low = omega (arith, ints, c.requires.high_small, c.requires.high_great); high = omega (arith, ints, c.requires.high_small, c.requires.high_great) };
      weight_is = c.requires.weight_low;
      weight_most = c.requires.weight_high;
      out_is = record { low = omega (arith, ints); high = omega (arith, ints) };
    }
