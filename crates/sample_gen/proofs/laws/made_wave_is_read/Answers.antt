use Rattle.std.proofs.Common.{arith}
use Rattle.std.specs.Prelude.{pos}
use Rattle.sample_gen.specs.Walk.{frames_of, second_half}
use Rattle.sample_gen.proofs.FrameLaws.{length-frames, range-frames}
use Rattle.sample_gen.proofs.laws.made_wave_is_read.Goals as goal

pub returns-clause-sound : goal.returns-clause-sound
returns-clause-sound c = λ number. c.written_loop_is_read.ensures.sound 32000 (frames_of number) second_half (omega arith) (omega arith) (omega (arith, length-frames 1024 (record { number = number; frame = pos 0 }))) (range-frames 1024 (record { number = number; frame = pos 0 }))

pub returns-clause-count : goal.returns-clause-count
returns-clause-count c = λ number. length-frames 1024 (record { number = number; frame = pos 0 })

pub returns-clause-range : goal.returns-clause-range
returns-clause-range c = λ number. range-frames 1024 (record { number = number; frame = pos 0 })
