use Rattle.std.proofs.Common.{◌≡◌, ◌*◌, ◌^◌, ◌≤◌, take, drop}
use Rattle.std.specs.List.{sum_by}
use Rattle.bound_cert.specs.Good.{blocks_in}
use Rattle.bank_check.specs.Tally.{nothing, tally_from}
use Rattle.bank_check.proofs.tally.tally_all.Given as goal

abbrev pub invariant-loop-i : goal.invariant-loop-i
invariant-loop-i g l = let r = g.M.Machine.rules l.machine in
    record {
      left : tally_from r l.targets l.tally l.i (sum_by blocks_in (take l.i l.cert)) (drop l.i l.cert) ≡ tally_from r l.targets nothing 0 0 l.cert;
      walk : l.left ≡ drop l.i l.cert;
      first : l.first ≡ sum_by blocks_in (take l.i l.cert) * r.decoder.samples;
      bound : l.tally.bound ≤ l.first * 2 ^ 32;
      exact : l.tally.exact ≤ l.i;
      fine : l.tally.fine ≤ l.i;
      coarse : l.tally.coarse ≤ l.i;
      bare : l.tally.bare ≤ l.i;
    }
