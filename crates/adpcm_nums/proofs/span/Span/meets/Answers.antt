use Rattle.std.proofs.Common.{arith, w32, to_z, of_z, ◌≡◌}
use Rattle.std.proofs.lemmas.Int.{ints}
use Rattle.adpcm_nums.proofs.SpanLaws.{meets-where}
use Rattle.adpcm_nums.proofs.span.Span.meets.Goals as goal

pub returns-then-self-other : goal.returns-then-self-other
returns-then-self-other c =
    let hi : to_z w32 (of_z w32 c.args.self.hi) ≡ c.args.self.hi = omega (arith, ints) in
    let lo : to_z w32 (of_z w32 c.args.other.lo) ≡ c.args.other.lo = omega (arith, ints) in
    meets-where c.args.self.lo c.args.self.hi c.args.other.lo c.args.other.hi _ _ c.args.self.order c.args.other.order (omega (arith, ints)) hi lo
