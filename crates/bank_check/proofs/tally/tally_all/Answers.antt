use Rattle.std.proofs.Common.{ℕ, ◌+◌, ◌*◌, length, take, drop, ap, sym, ◌∙◌, arith}
use Rattle.std.specs.List.{sum_by}
use Rattle.bound_cert.specs.Good.{blocks_in}
use Rattle.bound_cert.proofs.PlaceSteps.{get-head, tail-drop}
use Rattle.bank_check.specs.declared.tally.Tally.{Tally}
use Rattle.bank_check.specs.Tally.{nothing, tally_from, with_segment}
use Rattle.bank_check.proofs.Tallied.{IsTested, tested-on, tested-stops, tested-next, fits-before, one-within, tally-ends, grown_by, still_few}
use Rattle.bank_check.proofs.tally.tally_all.Goals as goal

pub tested-requires-clause-fits : goal.tested-requires-clause-fits
tested-requires-clause-fits g c =
    let r = g.M.Machine.rules c.args.machine.now in c.segments_fit.ensures.fits r.kind r.decoder.samples c.args.cert.now c.loop-i.i c.split_first-segment.result.0 c.requires.fits (get-head _ c.args.cert.now _ _ (sym c.split_first-segment.ensures ∙ c.loop-i.invariant.walk))

pub tested-requires-clause-scratch : goal.tested-requires-clause-scratch
tested-requires-clause-scratch g c =
    let fewer = one-within c.args.cert.now c.loop-i.i c.split_first-segment.result.0 (get-head _ c.args.cert.now _ _ (sym c.split_first-segment.ensures ∙ c.loop-i.invariant.walk)) in
    omega (arith, fewer, c.requires.scratch, c.loop-i.auto.scratch)

pub part-requires : goal.part-requires
part-requires g c =
    let r = g.M.Machine.rules c.args.machine.now in
    fits-before c.args.cert.now c.loop-i.i c.loop-i.first c.blocks-in-loop-i.result c.block_samples-samples.result r.decoder.samples (length c.args.targets.now) c.split_first-segment.result.0
    (get-head _ c.args.cert.now _ _ (sym c.split_first-segment.ensures ∙ c.loop-i.invariant.walk)) c.loop-i.invariant.first c.blocks-in-loop-i.ensures.value c.block_samples-samples.ensures c.requires.whole

pub returns-in-Err : goal.returns-in-Err
returns-in-Err g c =
    let r = g.M.Machine.rules c.args.machine.now in
    tested-stops r c.args.targets.now c.args.cert.now c.loop-i.i c.loop-i.first c.blocks-in-loop-i.result c.block_samples-samples.result c.split_first-segment.result.0 c.part.result.now c.loop-i.tally c.in-Err.refusal
    (tally_from r c.args.targets.now nothing 0 0 c.args.cert.now)
    (record { here = get-head _ c.args.cert.now _ _ (sym c.split_first-segment.ensures ∙ c.loop-i.invariant.walk); first_is = c.loop-i.invariant.first; blocks_are = c.blocks-in-loop-i.ensures.value; samples_are = c.block_samples-samples.ensures; part_is = c.part.ensures.value })
    c.in-Err.ensures.value c.loop-i.invariant.left

pub returns : goal.returns
returns g c =
    let r = g.M.Machine.rules c.args.machine.now in
    tally-ends r c.args.targets.now c.loop-i.tally c.loop-i.i _ c.args.cert.now (tally_from r c.args.targets.now nothing 0 0 c.args.cert.now) (omega (arith, c.requires.count)) c.loop-i.invariant.left

pub loop-i-preserved : goal.loop-i-preserved
loop-i-preserved g c =
    let r = g.M.Machine.rules c.args.machine.now in
    let is : IsTested r c.args.targets.now c.args.cert.now c.loop-i.i c.loop-i.first c.blocks-in-loop-i.result c.block_samples-samples.result c.split_first-segment.result.0 c.part.result.now =
    record { here = get-head _ c.args.cert.now _ _ (sym c.split_first-segment.ensures ∙ c.loop-i.invariant.walk); first_is = c.loop-i.invariant.first; blocks_are = c.blocks-in-loop-i.ensures.value; samples_are = c.block_samples-samples.ensures; part_is = c.part.ensures.value } in
    record {
      left = ap (λ (z : Tally). tally_from r c.args.targets.now z (c.loop-i.i + 1) (sum_by blocks_in (take (c.loop-i.i + 1) c.args.cert.now)) (drop (c.loop-i.i + 1) c.args.cert.now))
          (c.with-tally.ensures.value ∙ ap (λ (z : ℕ). with_segment c.loop-i.tally c.in-Ok.bound z) c.level.ensures)
          ∙ tested-on r c.args.targets.now c.args.cert.now c.loop-i.i c.loop-i.first c.blocks-in-loop-i.result c.block_samples-samples.result c.split_first-segment.result.0 c.part.result.now c.loop-i.tally c.in-Ok.bound
          (tally_from r c.args.targets.now nothing 0 0 c.args.cert.now) is c.in-Ok.ensures.value c.loop-i.invariant.left;
      walk = tail-drop _ c.args.cert.now _ _ (sym c.split_first-segment.ensures ∙ c.loop-i.invariant.walk);
      first = tested-next r c.args.targets.now c.args.cert.now c.loop-i.i c.loop-i.first c.blocks-in-loop-i.result c.block_samples-samples.result c.split_first-segment.result.0 c.part.result.now is;
      bound = grown_by c.loop-i.tally.bound c.in-Ok.bound c.loop-i.first (c.blocks-in-loop-i.result * c.block_samples-samples.result) (length c.part.result.now) c.with-tally.result.bound
          (ap (λ (t : Tally). t.bound) c.with-tally.ensures.value) c.loop-i.invariant.bound c.in-Ok.ensures.small c.part.ensures.length;
      exact = still_few _ _ _ c.with-tally.ensures.exact c.loop-i.invariant.exact;
      fine = still_few _ _ _ c.with-tally.ensures.fine c.loop-i.invariant.fine;
      coarse = still_few _ _ _ c.with-tally.ensures.coarse c.loop-i.invariant.coarse;
      bare = still_few _ _ _ c.with-tally.ensures.bare c.loop-i.invariant.bare;
    }
