use Rattle.std.proofs.Common.{◌≡◌, ◌*◌, ◌++◌, length, take}
use Rattle.std.specs.Prelude.{flat_map, codes}
use Rattle.wave_form.specs.Riff.{chunk_head}
use Rattle.wave_form.specs.Written.{sample_bytes}
use Rattle.wave_form.proofs.writing.put_data.Given as goal

abbrev pub invariant-loop-sample : goal.invariant-loop-sample
invariant-loop-sample l = l.out.items ≡ (l.fn.out.items ++ chunk_head (codes "data") (length l.samples * 2)) ++ flat_map sample_bytes (take l.sample-index l.samples)
