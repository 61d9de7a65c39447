use Rattle.std.proofs.Common.{rules, arith, refl, length, ◌-◌, ◌+◌, get_or}
use Rattle.row_bound.proofs.TableLaws.{blank-floors, next-floor}
use Rattle.row_bound.proofs.table.table_of.Goals as goal

pub loop-place-init : goal.loop-place-init
loop-place-init c = record {
  prefix = c.requires.room.prefix;
  trail = c.requires.room.trail;
  low = omega arith;
  floors = blank-floors c.args.layers.now c.args.steps.now 29 (omega (arith, c.requires.room.layers)) refl;
}

pub loop-place-preserved : goal.loop-place-preserved
loop-place-preserved c =
    let i = length c.args.layers.now - 1 - (c.loop-place.place - c.args.taps) - c.args.taps in
    let old = c.loop-place.invariant in
    let found = c.searched_from-found in
    record {
      prefix = search rules;
      trail = search rules;
      low = omega (arith, old.low);
      floors = next-floor c.args.layers.now c.args.steps.now c.loop-place.floors i (get_or c.loop-place.floors (i + 1) 0) found.result c.max.result (omega arith) refl c.max.ensures
          (old.floors.small (i + 1) (omega arith)) (omega (arith, found.ensures.most, c.requires.top)) found.ensures.owes old.floors;
    }
