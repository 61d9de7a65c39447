use Rattle.std.proofs.Common.{arith, w64, ◌≡◌, ◌+◌, to_z, of_z, ap, ◌∙◌}
use mir.Val.{SFits}
use Rattle.std.proofs.lemmas.Int.{to_z-of_z}
use Rattle.window_floor.specs.Numbers.{row_of}
use Rattle.window_floor.specs.Miss.{wrapped_miss}
use Rattle.window_floor.proofs.MissLaws.{so_far, so_far-first, so_far-more, so_far-last, kept_sample, kept_value}
use Rattle.window_floor.proofs.miss.at_sample.Goals as goal

pub at_wrap-least-requires-clause-sample : goal.at_wrap-least-requires-clause-sample
at_wrap-least-requires-clause-sample c = kept_sample c.args.samples.now 0 c.requires.samples (omega arith)

pub at_wrap-requires-clause-sample : goal.at_wrap-requires-clause-sample
at_wrap-requires-clause-sample c = kept_sample c.args.samples.now (c.loop-i.i + 1) c.requires.samples (omega arith)

pub loop-i-init : goal.loop-i-init
loop-i-init c =
    let rho = to_z w64 (of_z w64 c.args.rho) in
    let read = kept_value c.args.samples.now 0 c.requires.samples (omega arith) in
    record {
      least = so_far-first (row_of c.args.w) rho c.args.samples.now _ (c.at_wrap-least.ensures.value ∙ ap (wrapped_miss (row_of c.args.w) rho) read);
      small = c.at_wrap-least.ensures.small;
    }

pub loop-i-preserved : goal.loop-i-preserved
loop-i-preserved c =
    let rho = to_z w64 (of_z w64 c.args.rho) in
    let read = kept_value c.args.samples.now (c.loop-i.i + 1) c.requires.samples (omega arith) in
    record {
      least = so_far-more (row_of c.args.w) rho c.args.samples.now c.loop-i.i _ _ _ c.loop-i.invariant.least (c.at_wrap.ensures.value ∙ ap (wrapped_miss (row_of c.args.w) rho) read) c.min-least.ensures;
      small = omega (arith, c.min-least.ensures);
    }

pub returns-clause-value : goal.returns-clause-value
returns-clause-value c =
    let f : SFits w64 c.args.rho = c.ranges.rho in
    let least : c.loop-i.least ≡ so_far (row_of c.args.w) c.args.rho c.args.samples.now c.loop-i.i = simp to_z-of_z at c.loop-i.invariant.least in
    so_far-last (row_of c.args.w) c.args.rho c.args.samples.now c.loop-i.i c.loop-i.least least (omega arith)
