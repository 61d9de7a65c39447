use Rattle.std.proofs.Common.{arith, ◌-◌, ◌∙◌}
use Rattle.std.proofs.lemmas.List.{length-set}
use Rattle.strong_bound.proofs.SuffixLaws.{rests-set}
use Rattle.strong_bound.proofs.suffixes.raise_rests.Goals as goal

pub loop-place-preserved : goal.loop-place-preserved
loop-place-preserved g c =
    let old = c.loop-place.invariant in record {
      within = omega (arith, old.within);
      size = length-set c.loop-place.table (c.loop-place.place - 1) _ ∙ old.size;
      rests = rests-set (g.M.Machine.rules c.args.machine.now).decoder c.args.targets.now c.args.twice c.args.head (c.loop-place.place - 1) c.rest_from-rest.result c.loop-place.table
          (omega (arith, old.size, old.within)) old.rests c.rest_from-rest.ensures;
    }
