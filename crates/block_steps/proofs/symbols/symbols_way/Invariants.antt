use Rattle.std.proofs.Common.{◌≡◌, ◌+◌, ◌≤◌}
use Rattle.adpcm_nums.specs.LeastValue.{least}
use Rattle.box_layers.specs.Certificates.{by_symbol}
use Rattle.block_steps.specs.Ways.{lane_certificate}
use Rattle.block_steps.proofs.symbols.symbols_way.Given as goal

abbrev pub invariant-loop-sym : goal.invariant-loop-sym
invariant-loop-sym g l = let m = g.M.Machine.rules l.machine in
    record {
      best : l.best ≡ least l.sym (by_symbol m l.plan.targets.now (lane_certificate l.plan.level l.plan.blocks (g.C.LaneCells.listed l.cells)) l.at.index l.cell l.head) (l.slack + 1);
      within : l.sym ≤ m.decoder.symbols l.at.place;
    }
