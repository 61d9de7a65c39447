use Rattle.std.proofs.Common.{arith, w64, ◌≡◌, to_z, of_z, ◌∙◌}
use Rattle.std.proofs.lemmas.Int.{ints}
use Rattle.row_bound.proofs.FloorLaws.{floor-below}
use Rattle.row_bound.proofs.floor.floor_of_rows.Goals as goal

pub returns-in-Some : goal.returns-in-Some
returns-in-Some c =
    let same : to_z w64 (of_z w64 c.in-Some.value) ≡ c.in-Some.value = omega (arith, ints, c.in-Some.ensures.low, c.in-Some.ensures.high) in
    record {
      outward = λ steps ws. floor-below c.args.rows.now ws c.args.mus.now c.args.v c.args.u c.args.rest c.with_rest.result (to_z w64 (of_z w64 c.in-Some.value)) c.requires.v c.requires.u (same ∙ c.in-Some.ensures.value) c.with_rest.ensures steps;
    }
