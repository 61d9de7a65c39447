use Rattle.block_steps.proofs.Steps.{place-fits}
use Rattle.std.proofs.Common.{arith, ◌≤◌, ◌<◌, ◌+◌, min}
use Rattle.open_cells.proofs.Merging.{keeps-self}
use Rattle.open_cells.proofs.Pieces.{tried, piece-opens, piece-reaches, piece-shut, cornered-at, on-ok-both}
use Rattle.open_cells.proofs.relaxing.add_piece.Goals as goal
use Rattle.machine_core.specs.Floors.{top}
use Rattle.open_cells.proofs.Pieces.{laws-of}

pub returns-then-saturating_add-s-clause-visited : goal.returns-then-saturating_add-s-clause-visited
returns-then-saturating_add-s-clause-visited g c =
    let m = g.M.Machine.rules c.args.machine.now in
    let t = tried m c.args.s.now c.args.at c.args.next c.args.lane c.args.x c.args.q c.saturating_add-cost.result c.rest_of-rest.result (laws-of m (g.met.M.Machine.lawful c.args.machine.now) (g.met.M.Machine.boxed c.args.machine.now) c.requires.search) c.requires.search c.requires.next
    c.requires.bx c.requires.x c.requires.step c.saturating_add-cost.ensures c.rest_of-rest.ensures in
    let s = c.saturating_add.ensures in let i = c.if-saturating_add-s.true in
    let big : c.args.s.now.most ≤ min (c.saturating_add-cost.result + c.rest_of-rest.result) top = omega arith in
    record {
      opened = c.requires.made;
      kept = keeps-self c.args.made.now.items;
      reached = piece-shut m c.args.s.now c.args.at.index c.args.lane c.args.x c.args.q c.saturating_add-cost.result c.rest_of-rest.result c.args.made.now.items t big;
    }

pub add_box-requires : goal.add_box-requires
add_box-requires g c =
    let m = g.M.Machine.rules c.args.machine.now in
    cornered-at m c.args.s.now c.args.at c.args.next c.args.q c.low_cell-low.result c.high_cell-high.result (laws-of m (g.met.M.Machine.lawful c.args.machine.now) (g.met.M.Machine.boxed c.args.machine.now) c.requires.search) c.requires.search c.requires.next c.requires.bx c.low_cell-low.ensures c.high_cell-high.ensures

pub returns-clause-made : goal.returns-clause-made
returns-clause-made g c =
    let m = g.M.Machine.rules c.args.machine.now in
    let t = tried m c.args.s.now c.args.at c.args.next c.args.lane c.args.x c.args.q c.saturating_add-cost.result c.rest_of-rest.result (laws-of m (g.met.M.Machine.lawful c.args.machine.now) (g.met.M.Machine.boxed c.args.machine.now) c.requires.search) c.requires.search c.requires.next
    c.requires.bx c.requires.x c.requires.step c.saturating_add-cost.ensures c.rest_of-rest.ensures in
    let s = c.saturating_add.ensures in let i = c.if-saturating_add-s.false in
    let small : min (c.saturating_add-cost.result + c.rest_of-rest.result) top < c.args.s.now.most = omega arith in
    record {
      opened = piece-opens m c.args.s.now c.args.at.index c.args.lane c.args.x c.args.q c.saturating_add-cost.result c.rest_of-rest.result c.low_cell-low.result c.high_cell-high.result c.args.made.now.items c.add_box.new.made.items t small
          c.low_cell-low.ensures c.high_cell-high.ensures c.requires.made c.add_box.ensures.from;
      many = c.add_box.ensures.many;
    }

pub returns-clause-visited : goal.returns-clause-visited
returns-clause-visited g c =
    let m = g.M.Machine.rules c.args.machine.now in
    let t = tried m c.args.s.now c.args.at c.args.next c.args.lane c.args.x c.args.q c.saturating_add-cost.result c.rest_of-rest.result (laws-of m (g.met.M.Machine.lawful c.args.machine.now) (g.met.M.Machine.boxed c.args.machine.now) c.requires.search) c.requires.search c.requires.next
    c.requires.bx c.requires.x c.requires.step c.saturating_add-cost.ensures c.rest_of-rest.ensures in
    let s = c.saturating_add.ensures in let i = c.if-saturating_add-s.false in
    let small : min (c.saturating_add-cost.result + c.rest_of-rest.result) top < c.args.s.now.most = omega arith in
    on-ok-both c.add_box.result c.add_box.ensures.kept c.add_box.ensures.covers (λ k h. record {
      opened = piece-opens m c.args.s.now c.args.at.index c.args.lane c.args.x c.args.q c.saturating_add-cost.result c.rest_of-rest.result c.low_cell-low.result c.high_cell-high.result c.args.made.now.items c.add_box.new.made.items t small
          c.low_cell-low.ensures c.high_cell-high.ensures c.requires.made c.add_box.ensures.from;
      kept = k;
      reached = piece-reaches m c.args.s.now c.args.at.index c.args.lane c.args.x c.args.q c.saturating_add-cost.result c.rest_of-rest.result c.low_cell-low.result c.high_cell-high.result c.add_box.new.made.items t small
          c.low_cell-low.ensures c.high_cell-high.ensures h;
    })

pub low_cell-low-requires-clause-state : goal.low_cell-low-requires-clause-state
low_cell-low-requires-clause-state g c =
    let m = g.M.Machine.rules c.args.machine.now in
    (c.requires.search.filed.corners c.args.next.place c.args.q.bx (place-fits m (g.met.M.Machine.lawful c.args.machine.now) c.args.next c.requires.next.spot) c.requires.bx).0

pub high_cell-high-requires-clause-state : goal.high_cell-high-requires-clause-state
high_cell-high-requires-clause-state g c =
    let m = g.M.Machine.rules c.args.machine.now in
    (c.requires.search.filed.corners c.args.next.place c.args.q.bx (place-fits m (g.met.M.Machine.lawful c.args.machine.now) c.args.next c.requires.next.spot) c.requires.bx).1
