use Rattle.std.proofs.Common.{rules, arith, w64, ◌≡◌, ◌∙◌, ap, to_z, of_z}
use Rattle.std.specs.Prelude.{pos, ◌+ℤ◌, ◌≤ℤ◌}
use Rattle.std.specs.Int.{int_min}
use mir.Val.{SFits}
use Rattle.std.proofs.lemmas.Int.{ints, to_z-of_z}
use Rattle.window_floor.proofs.Quotients.{next-is, next-low}
use Rattle.window_floor.proofs.quantizer.Quantizer.next.Goals as goal

pub returns : goal.returns
returns c =
    let fm : SFits w64 c.min.result = search rules in let fh : SFits w64 c.args.self.high = search rules in
    let l = c.args.self.low_is.low in let u = c.args.self.low_is.high in let h = c.args.self.high_is.low in let k = c.args.self.high_is.high in
    let n : to_z w64 (of_z w64 (to_z w64 (of_z w64 c.args.n) +ℤ pos 1)) ≡ c.args.n +ℤ pos 1 = omega (arith, ints, c.requires.low, c.requires.high, l, k) in
    let end : to_z w64 (of_z w64 c.args.self.high) ≡ c.args.self.high = simp to_z-of_z in
    let next : c.min.result ≡ int_min (c.args.n +ℤ pos 1) c.args.self.high = c.min.ensures.value ∙ (ap (λ z. int_min z (to_z w64 (of_z w64 c.args.self.high))) n ∙ ap (int_min (c.args.n +ℤ pos 1)) end) in
    let most : c.min.result ≤ℤ c.args.self.high = simp to_z-of_z at c.min.ensures.other_bound in
    simp to_z-of_z (record {
      low = next-low c.args.self.low c.args.n c.args.self.high c.min.result c.requires.low (omega (arith, ints, u, h)) next;
      high = most;
      next = next-is c.args.n c.args.self.high c.min.result c.requires.high next;
    })
