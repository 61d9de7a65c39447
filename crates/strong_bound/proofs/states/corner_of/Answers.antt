use Rattle.std.proofs.Common.{arith, sym, ◌≡◌, to_z, of_z, w32, w64}
use Rattle.std.proofs.lemmas.Int.{ints, to_z-of_z}
use mir.Val.{SFits}
use Rattle.strong_bound.proofs.NearOutputs.{near-as}
use Rattle.strong_bound.proofs.states.corner_of.Goals as goal

pub returns : goal.returns
returns c =
    let fits : SFits w64 c.args.scale = c.ranges.scale in
    let same : to_z w64 (of_z w64 c.args.scale) ≡ c.args.scale = simp to_z-of_z in
    let last : to_z w32 (of_z w32 c.args.aim.a) ≡ c.args.aim.a = omega (arith, ints, c.requires.last.low, c.requires.last.high) in
    let older : to_z w32 (of_z w32 c.args.aim.b) ≡ c.args.aim.b = omega (arith, ints, c.requires.older.low, c.requires.older.high) in
    let a = c.first_near in
    let b = c.first_near-2 in
    let first : to_z w32 (of_z w32 a.result) ≡ a.result = omega (arith, ints, a.ensures.low, a.ensures.high) in
    let lower : to_z w32 (of_z w32 b.result) ≡ b.result = omega (arith, ints, b.ensures.low, b.ensures.high) in record {
      last = near-as _ _ _ _ _ _ same last (sym first) a.ensures;
      older = near-as _ _ _ _ _ _ same older (sym lower) b.ensures;
    }
