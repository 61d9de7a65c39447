-- The samples of one channel.
use Rattle.std.specs.Prelude.{ℕ, zero, suc, ℤ, pos, ◌-ℤ◌, ◌*ℤ◌, List, [], ◌∷◌, take, drop, length, ◌*◌, ◌/◌, slice_index}
use Rattle.std.specs.Int.{w16, cast_signed}
use Rattle.byteorder.specs.Endian.{little_number}
use Rattle.wave_form.specs.declared.format.Depth.{Depth}
use Rattle.wave_form.specs.declared.format.Depth.TheVariants.{Eight, Sixteen}
use Rattle.wave_form.specs.declared.format.Format.{Format}
use Rattle.wave_form.specs.Format.{width_of, frame_size}

-- the sample that bytes begin with; one of 8 bits counts from 128, and is widened to 16 (this project's own choice)
abbrev pub sample_of : Depth → List ℕ → ℤ
sample_of Eight bytes = (pos (slice_index bytes 0) -ℤ pos 128) *ℤ pos 256
sample_of Sixteen bytes = cast_signed w16 (little_number 2 bytes)

-- the samples that stand `place` bytes into each of `count` frames of `size` bytes
unfoldable pub samples_at : ℕ → ℕ → Depth → ℕ → List ℕ → List ℤ
samples_at size place depth zero bytes = []
samples_at size place depth (suc count) bytes =
    sample_of depth (drop place (take size bytes)) ∷ samples_at size place depth count (drop size bytes)

-- the samples of a channel in all whole frames
abbrev pub channel_samples : Format → ℕ → List ℕ → List ℤ
channel_samples format channel bytes =
    samples_at (frame_size format) (channel * width_of format.depth) format.depth (length bytes / frame_size format) bytes
