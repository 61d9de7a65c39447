use Rattle.std.proofs.Common.{◌<◌, arith, ap, ◌%◌}
use Rattle.machine_core.specs.Floors.{top}
use Rattle.box_layers.specs.Certificates.{by_symbol}
use Rattle.open_cells.proofs.Pieces.{laws-of}
use Rattle.branch_bound.specs.Worth.{layer_certificate}
use Rattle.branch_bound.proofs.Capped.{before-first, behind-last}
use Rattle.branch_bound.proofs.Picks.{never-found}
use Rattle.branch_bound.proofs.walking.pick_symbol.Goals as goal

pub symbols_within-first-requires-clause-within : goal.symbols_within-first-requires-clause-within
symbols_within-first-requires-clause-within g c =
    let size = c.requires.search.fit.count in let end = c.requires.search.end in let w = c.requires.at.within in omega arith

pub loop-sym-init : goal.loop-sym-init
loop-sym-init g c =
    let m = g.M.Machine.rules c.args.machine.now in let s = c.args.s.now in
    let most = c.requires.search.most in let less = c.requires.small in
    let small : c.args.left < top = omega arith in
    before-first m (laws-of m (g.met.M.Machine.lawful c.args.machine.now) (g.met.M.Machine.boxed c.args.machine.now) c.requires.search) s c.args.at c.args.next.now c.args.cell c.args.head c.args.left c.symbols_within-first.result.0
    c.requires.search c.requires.at c.requires.cell c.requires.head small c.symbols_within-first.ensures.first

pub symbol_found-requires-clause-sym : goal.symbol_found-requires-clause-sym
symbol_found-requires-clause-sym g c =
    let m = g.M.Machine.rules c.args.machine.now in
    let e = ap m.decoder.symbols c.requires.at.spot.place in let f = c.symbols_within-first.ensures.few in let t = c.loop-sym-test.true in omega arith

pub returns-clause-way : goal.returns-clause-way
returns-clause-way g c =
    let m = g.M.Machine.rules c.args.machine.now in let s = c.args.s.now in
    let most = c.requires.search.most in let less = c.requires.small in let t = c.loop-sym-test.false in
    let small : c.args.left < top = omega arith in
    absurd (never-found (m.decoder.symbols (c.args.at.index % m.decoder.samples)) (by_symbol m s.targets.now (layer_certificate s.level s.blocks c.args.next.now) c.args.at.index c.args.cell c.args.head) c.args.left c.requires.left small
    (behind-last m (laws-of m (g.met.M.Machine.lawful c.args.machine.now) (g.met.M.Machine.boxed c.args.machine.now) c.requires.search) s c.args.at c.args.next.now c.args.cell c.args.head c.args.left c.symbols_within-first.result.1 c.loop-sym.sym
    c.requires.search c.requires.at c.requires.cell c.requires.head small c.symbols_within-first.ensures.end (omega arith) c.loop-sym.invariant))
