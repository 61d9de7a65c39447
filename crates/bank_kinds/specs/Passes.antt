-- What a list of blocks sounds like, as it is compared with the source.
use Rattle.std.specs.Prelude.{◌*ℤ◌, ℕ, ℤ, pos, List, map}
use Rattle.std.specs.List.{range_with_len}
use Rattle.machine_core.specs.Decoder.{Decoder, start}
use Rattle.machine_core.specs.Blocks.{Blocks, output_at}

-- the first so many outputs of a list, each times the decoder's scale
abbrev pub outputs_of : Decoder → Blocks → ℕ → List ℤ
outputs_of d list count = map (λ i. pos d.scale *ℤ output_at d list start i) (range_with_len 0 count)
