use Rattle.std.proofs.Common.{◌≡◌, ◌≢◌, arith, ap, ◌∙◌, ◌%◌, w32, w64, of_z, refl}
use Rattle.std.specs.Prelude.{pos, unsigned_abs}
use mir.Val.{SFits}
use Rattle.std.proofs.lemmas.Int.{ints, to_z-of_z}
use Rattle.window_floor.specs.Numbers.{row_of}
use Rattle.window_floor.proofs.PlaceLaws.{single-once, single-twice}
use Rattle.window_floor.proofs.places.single.Goals as goal

pub returns-then-w-eq1-clause-value : goal.returns-then-w-eq1-clause-value
returns-then-w-eq1-clause-value c =
    let low = c.args.w.scale_is.low in let high = c.args.w.scale_is.high in let is = c.if-w-eq1.true in
    single-once (row_of c.args.w) c.args.target (omega (arith, ints, low, high, is))

pub returns-else-w-eq1-clause-value : goal.returns-else-w-eq1-clause-value
returns-else-w-eq1-clause-value c =
    let target : SFits w32 c.args.target = c.ranges.target in
    let low = c.args.w.scale_is.low in let high = c.args.w.scale_is.high in let is = c.if-w-eq1.false in
    let other : c.args.w.scale ≢ pos 1 = λ e. is (ap (of_z w64) e ∙ refl) in
    let value : c.from.result ≡ unsigned_abs c.args.target % 2 =
    c.from.ensures ∙ ap (λ z. z % 2) (simp to_z-of_z at c.unsigned_abs.ensures.value) in
    value ∙ single-twice (row_of c.args.w) c.args.target c.args.w.scale_is other
