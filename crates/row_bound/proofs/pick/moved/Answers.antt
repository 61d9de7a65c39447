use Rattle.std.proofs.Common.{arith, refl}
use Rattle.std.proofs.lemmas.Int.{ints}
use Rattle.row_bound.proofs.pick.moved.Goals as goal

pub invariant_of-result : goal.invariant_of-result
invariant_of-result c =
    let base = c.args.layer.base in
    let layer = c.args.layer in
    record {
      d_is = record { low = omega (arith, ints, base.d_is.low, base.d_is.high); high = omega (arith, ints, base.d_is.low, base.d_is.high) };
      a_is = record { low = omega (arith, ints, base.a_is.low, base.a_is.high); high = omega (arith, ints, base.a_is.low, base.a_is.high) };
      b_is = record { low = omega (arith, ints, base.b_is.low, base.b_is.high); high = omega (arith, ints, base.b_is.low, base.b_is.high) };
      low_is = record { low = omega (arith, ints, layer.low_is.low, layer.low_is.high, c.requires.low, c.requires.high); high = omega (arith, ints, layer.low_is.low, layer.low_is.high, c.requires.low, c.requires.high) };
      high_is = record { low = omega (arith, ints, layer.high_is.low, layer.high_is.high, c.requires.low, c.requires.high); high = omega (arith, ints, layer.high_is.low, layer.high_is.high, c.requires.low, c.requires.high) };
      weight_is = base.weight_is;
      weight_most = base.weight_most;
      out_is = record { low = omega (arith, ints, base.out_is.low, base.out_is.high); high = omega (arith, ints, base.out_is.low, base.out_is.high) };
    }

pub returns : goal.returns
returns c =
    let base = c.args.layer.base in
    let layer = c.args.layer in
    record {
      d = omega (arith, ints, base.d_is.low, base.d_is.high);
      a = omega (arith, ints, base.a_is.low, base.a_is.high);
      b = omega (arith, ints, base.b_is.low, base.b_is.high);
      low = omega (arith, ints, layer.low_is.low, layer.low_is.high, c.requires.low, c.requires.high);
      high = omega (arith, ints, layer.high_is.low, layer.high_is.high, c.requires.low, c.requires.high);
      weight = refl;
      known = refl;
      out = omega (arith, ints, base.out_is.low, base.out_is.high);
    }
