use Rattle.std.proofs.Common.{ℤ, List, sym, subst}
use Rattle.beam_encoder.specs.Beam.{AreWhole}
use Rattle.bank_compile.proofs.PartTargets.{part-is, part-whole, part-found}
use Rattle.bank_compile.proofs.segments.search_part.Goals as goal

pub search_segment-requires-clause-targets : goal.search_segment-requires-clause-targets
search_segment-requires-clause-targets g c =
    let r = g.M.Machine.rules c.args.machine.now in
    let some = (g.met.M.Machine.lawful c.args.machine.now).some_samples in
    subst (λ (ts : List ℤ). AreWhole r.decoder ts) (sym (part-is r.decoder c.args.targets.now c.args.first c.args.count c.block_samples-samples.result c.block_samples-samples.ensures))
    (part-whole r.decoder c.args.targets.now c.args.first c.args.count some c.requires.within c.requires.small c.requires.range)

pub returns-in-Ok-clause-found : goal.returns-in-Ok-clause-found
returns-in-Ok-clause-found g c =
    let r = g.M.Machine.rules c.args.machine.now in
    let some = (g.met.M.Machine.lawful c.args.machine.now).some_samples in
    part-found r c.args.effort c.args.share c.args.targets.now _ c.args.first c.args.count c.in-Ok.found
    (part-is r.decoder c.args.targets.now c.args.first c.args.count c.block_samples-samples.result c.block_samples-samples.ensures) some c.requires.within c.in-Ok.ensures.found
