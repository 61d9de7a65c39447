use Rattle.std.proofs.Common.{rules, refl, arith}
use Rattle.std.proofs.lemmas.Int.{to_z-of_z}
use mir.Val.{SFits}
use mir.Syntax.{w32}
use Rattle.sample_gen.proofs.FrameLaws.{frames_move, frames_end, count_more}
use Rattle.sample_gen.proofs.sound.take_frames.Goals as goal

pub loop-step-preserved : goal.loop-step-preserved
loop-step-preserved c =
    let fits : SFits w32 c.after-walker.result.frame = search rules in
    let pushed = simp to_z-of_z at c.in_ok-push.ensures.ok in
    record {
      frames = frames_move _ _ _ _ _ _ _ (omega arith) c.loop-step.invariant.frames c.after-walker.ensures.value pushed;
      same = refl;
      count = count_more _ _ _ _ c.loop-step.invariant.count pushed;
      last = c.after-walker.ensures.range;
      range = search rules;
    }

pub returns-clause-value : goal.returns-clause-value
returns-clause-value c = frames_end c.args.count _ _ _ _ (omega arith) c.loop-step.invariant.frames
