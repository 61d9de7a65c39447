use Rattle.std.proofs.Common.{◌≡◌, ◌++◌, ◌/◌, length}
use Rattle.adpcm_nums.specs.Sample.{AreSamples}
use Rattle.wave_form.specs.Frames.{samples_at}
use Rattle.wave_form.proofs.frames.read_samples.Given as goal

abbrev pub invariant-loop-frame : goal.invariant-loop-frame
invariant-loop-frame l = record {
  size : l.frame-iterator.size ≡ l.size;
  left : l.samples ++ samples_at l.size l.place l.depth (length l.frame-iterator.rest.now / l.size) l.frame-iterator.rest.now
      ≡ samples_at l.size l.place l.depth (length l.bytes / l.size) l.bytes;
  range : AreSamples l.samples;
}
