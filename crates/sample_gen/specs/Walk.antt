-- The sound of a number: a linear congruential generator moves each frame from the last one.
use Rattle.std.specs.Prelude.{ℕ, zero, suc, ◌+◌, ◌*◌, ◌/◌, ◌%◌, ◌^◌, ℤ, pos, ◌+ℤ◌, ◌-ℤ◌, List, [], ◌∷◌}
use Rattle.adpcm_nums.specs.Nums.{clamp16_of}
use Rattle.adpcm_nums.specs.declared.loop_at.LoopAt.{LoopAt}
use Rattle.wave_form.specs.Written.{wave_loop_file}
use Rattle.sample_gen.specs.declared.walker.Walker.{Walker}

-- the number that follows
abbrev pub number_after : ℕ → ℕ
number_after number = (number * 1664525 + 1013904223) % 2 ^ 32

-- the frame that follows, which the ten highest bits of a number move by -512 to 511
abbrev pub frame_after : ℕ → ℤ → ℤ
frame_after number frame = clamp16_of (frame +ℤ pos (number / 4194304) -ℤ pos 512)

-- one frame later
abbrev pub walker_after : Walker → Walker
walker_after walker = record {
  number = number_after walker.number;
  frame = frame_after (number_after walker.number) walker.frame;
}

-- the next frames, so many
unfoldable pub frames_after : ℕ → Walker → List ℤ
frames_after zero walker = []
frames_after (suc count) walker = (walker_after walker).frame ∷ frames_after count (walker_after walker)

-- the 1,024 frames of a number, from 0 on
abbrev pub frames_of : ℕ → List ℤ
frames_of number = frames_after 1024 (record { number = number; frame = pos 0 })

-- the loop, which is the second half
abbrev pub second_half : LoopAt
second_half = record { start = 512; end = 1023 }

-- the file of a number: its frames at 32,000 a second with their loop
abbrev pub wave_of : ℕ → List ℕ
wave_of number = wave_loop_file 32000 (frames_of number) second_half
