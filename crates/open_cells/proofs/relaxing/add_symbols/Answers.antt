use Rattle.std.proofs.Common.{suc, arith, ◌∙◌, ap}
use Rattle.box_layers.specs.Certificates.{lane_at}
use Rattle.open_cells.proofs.Merging.{keeps-trans, keeps-self}
use Rattle.open_cells.proofs.Fronts.{boxes-at, symbols-more, all-same, symbols-start, symbols-all}
use Rattle.open_cells.proofs.Pieces.{laws-of}
use Rattle.open_cells.proofs.relaxing.add_symbols.Goals as goal

pub symbols_within-first-requires-clause-within : goal.symbols_within-first-requires-clause-within
symbols_within-first-requires-clause-within g c =
    let size = c.requires.search.fit.count in let end = c.requires.search.end in
    let w = c.requires.next.within in let i = c.requires.next.index in omega arith

pub loop-sym-init : goal.loop-sym-init
loop-sym-init g c =
    let m = g.M.Machine.rules c.args.machine.now in let s = c.args.s.now in
    let laws = laws-of m (g.met.M.Machine.lawful c.args.machine.now) (g.met.M.Machine.boxed c.args.machine.now) c.requires.search in
    let w = c.requires.next.within in let i = c.requires.next.index in
    record {
      opened = c.requires.made;
      kept = keeps-self c.args.made.now.items;
      reached = symbols-start m s c.args.at c.args.head c.saturating_sub-slack.result c.symbols_within-first.result.0 (lane_at m c.args.head (suc c.args.at.index)) c.args.x c.args.made.now.items laws c.requires.search c.requires.at (omega arith) c.requires.cell c.requires.head
          (let a = c.saturating_sub.ensures in let b = c.saturating_sub-slack.ensures in omega arith) c.symbols_within-first.ensures.first;
    }

pub add_pieces-requires-clause-boxes : goal.add_pieces-requires-clause-boxes
add_pieces-requires-clause-boxes g c =
    let m = g.M.Machine.rules c.args.machine.now in
    let e = ap m.decoder.symbols c.requires.at.place in let f = c.symbols_within-first.ensures.few in let t = c.loop-sym-test.true in
    boxes-at m c.args.s.now c.args.at c.args.next c.args.x.cell c.args.head c.loop-sym.sym c.as_slice.result.now (laws-of m (g.met.M.Machine.lawful c.args.machine.now) (g.met.M.Machine.boxed c.args.machine.now) c.requires.search) c.requires.search c.requires.at c.requires.next
    c.requires.cell c.requires.head (omega arith) (c.as_slice.ensures.value ∙ (c.pieces.view_is ∙ c.pieces_of-pieces.ensures))

pub loop-sym-preserved : goal.loop-sym-preserved
loop-sym-preserved g c =
    let m = g.M.Machine.rules c.args.machine.now in let s = c.args.s.now in let i = c.args.at.index in
    let v = c.in-Ok.ensures.visited in let k = v.kept in
    record {
      opened = v.opened;
      kept = keeps-trans _ _ _ c.loop-sym.invariant.kept k;
      reached = symbols-more m s i c.args.head c.loop-sym.sym c.args.x _ _ k c.loop-sym.invariant.reached
          (all-same m s i _ _ c.args.x _ _ _ (c.as_slice.ensures.value ∙ (c.pieces.view_is ∙ c.pieces_of-pieces.ensures)) (c.lane_of-lane.ensures ∙ ap (lane_at m c.args.head) c.requires.next.index) v.reached);
    }

pub returns-clause-visited : goal.returns-clause-visited
returns-clause-visited g c =
    let m = g.M.Machine.rules c.args.machine.now in let s = c.args.s.now in
    let laws = laws-of m (g.met.M.Machine.lawful c.args.machine.now) (g.met.M.Machine.boxed c.args.machine.now) c.requires.search in
    let w = c.requires.next.within in let i = c.requires.next.index in let t = c.loop-sym-test.false in
    let v = c.loop-sym.invariant in
    record {
      opened = v.opened;
      kept = v.kept;
      reached = symbols-all m s c.args.at c.args.head c.saturating_sub-slack.result c.symbols_within-first.result.1 c.loop-sym.sym (lane_at m c.args.head (suc c.args.at.index)) c.args.x c.loop-sym.made.items laws c.requires.search c.requires.at (omega arith) c.requires.cell c.requires.head
          (let a = c.saturating_sub.ensures in let b = c.saturating_sub-slack.ensures in omega arith) c.symbols_within-first.ensures.end (omega arith) v.reached;
    }
