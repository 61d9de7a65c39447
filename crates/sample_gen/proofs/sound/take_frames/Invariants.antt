use Rattle.std.proofs.Common.{◌≡◌, length, ◌-◌, ◌++◌}
use Rattle.adpcm_nums.specs.Sample.{IsSample, AreSamples}
use Rattle.sample_gen.specs.Walk.{frames_after}
use Rattle.sample_gen.proofs.sound.take_frames.Given as goal

-- the frames so far and those that follow are all frames
abbrev pub invariant-loop-step : goal.invariant-loop-step
invariant-loop-step l = record {
  frames : l.samples ++ frames_after (l.count - l._step) l.walker ≡ frames_after l.fn.count l.fn.first;
  same : l.count ≡ l.fn.count;
  count : length l.samples ≡ l._step;
  last : IsSample l.walker.frame;
  range : AreSamples l.samples;
}
