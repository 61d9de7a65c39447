use Rattle.std.proofs.Common.{rules, arith, w32, w64, ◌≡◌, to_z, of_z}
use Rattle.std.specs.Prelude.{pos, ◌+ℤ◌, ◌*ℤ◌}
use mir.Val.{SFits}
use Rattle.std.proofs.lemmas.Int.{ints, to_z-of_z}
use Rattle.window_floor.proofs.Orders.{order-is}
use Rattle.window_floor.proofs.quantizer.Quantizer.is_narrow.Goals as goal

pub returns : goal.returns
returns c =
    let hl = c.level.ensures.range.low in let hh = c.level.ensures.range.high in
    let ll = c.level-2.ensures.range.low in let lh = c.level-2.ensures.range.high in
    let fl : SFits w64 c.args.self.low = search rules in let fh : SFits w64 c.args.self.high = search rules in
    let top : c.level.result ≡ c.args.self.step *ℤ c.args.self.high = simp to_z-of_z at c.level.ensures.value in
    let bottom : c.level-2.result ≡ c.args.self.step *ℤ c.args.self.low = simp to_z-of_z at c.level-2.ensures.value in
    let high : to_z w32 (of_z w32 c.level.result) ≡ c.args.self.step *ℤ c.args.self.high = omega (arith, ints, top, hl, hh) in
    let low : to_z w32 (of_z w32 (to_z w32 (of_z w32 c.level-2.result) +ℤ pos 32768)) ≡ c.args.self.step *ℤ c.args.self.low +ℤ pos 32768 = omega (arith, ints, bottom, ll, lh) in
    order-is _ _ _ _ high low
