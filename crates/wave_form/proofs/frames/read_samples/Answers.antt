use Rattle.std.proofs.Common.{rules, ◌∙◌, ap, subst, Ok, w32, length, ◌≤◌}
use Rattle.std.proofs.lemmas.Int.{to_z-of_z}
use Rattle.std.proofs.lemmas.List.Elements.{All-push}
use mir.Val.{SFits}
use Rattle.adpcm_nums.specs.Sample.{IsSample}
use Rattle.wave_form.proofs.FrameLaws.{samples_more, samples_end, few_samples}
use Rattle.wave_form.proofs.frames.read_samples.Goals as goal

pub loop-frame-preserved : goal.loop-frame-preserved
loop-frame-preserved c =
    let steps = c.in-Some.ensures.steps in
    let size = c.loop-frame.invariant.size in
    let fits : SFits w32 c.read_sample.result = search rules in
    let pushed = simp to_z-of_z at c.in_ok-push.ensures.ok in
    record {
      size = steps.0 ∙ size;
      left = samples_more c.args.size c.args.place c.args.depth c.loop-frame.samples c.push.new.self c.read_sample.result c.loop-frame.frame-iterator.rest.now c.in-Some.frame.now c.next.new.self.rest.now _
          c.requires steps.1.0 (steps.1.1 ∙ size) c.read_sample.ensures.value pushed c.loop-frame.invariant.left;
      range = rw pushed (All-push IsSample c.loop-frame.samples c.read_sample.result c.loop-frame.invariant.range c.read_sample.ensures.range);
    }

pub returns : goal.returns
returns c =
    let steps = c.in-None.ensures.steps in
    let size = c.loop-frame.invariant.size in
    let all = samples_end c.args.size c.args.place c.args.depth c.loop-frame.samples c.loop-frame.frame-iterator.rest.now _ (rw (← size) steps.1.0) c.loop-frame.invariant.left in
    record {
      exact = ap Ok all;
      range = c.loop-frame.invariant.range;
      count = subst (λ xs. length xs ≤ length c.args.bytes.now) all (few_samples c.args.size c.args.place c.args.depth c.args.bytes.now);
    }
