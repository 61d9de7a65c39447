-- The track of bytes of SPU-ADPCM blocks, or why there is none (PSX-SPX, SPU ADPCM samples).
use Rattle.std.specs.Prelude.{ℕ, ◌*◌, nat_le, Bool, List, Option, Some, None, Result, Ok, Err}
use Rattle.adpcm_nums.specs.First.{first_where}
use Rattle.machine_core.specs.declared.state.Kind.TheVariants.{Spu}
use Rattle.block_flags.specs.declared.split.Split.{Split}
use Rattle.block_flags.specs.declared.split.SplitFault.{SplitFault}
use Rattle.block_flags.specs.Split.{split_of}
use Rattle.spu_machine.specs.Spelling.{filter_in}
use Rattle.player_model.specs.declared.fault.TrackFault.{TrackFault}
use Rattle.player_model.specs.declared.fault.TrackFault.TheVariants as fault
use Rattle.player_model.specs.Track.{Track}

-- whether the filter of a block is none of the decoder's five
abbrev pub has_bad_filter : List ℕ → ℕ → Bool
has_bad_filter bytes block = nat_le 5 (filter_in bytes (16 * block))

-- the first of so many blocks with such a filter
abbrev pub bad_block : List ℕ → ℕ → Option ℕ
bad_block bytes blocks = first_where (has_bad_filter bytes) blocks

-- the track of so many blocks from the first byte on, unless one of them has such a filter
abbrev pub checked_track : List ℕ → ℕ → Option ℕ → Result Track TrackFault
checked_track bytes blocks None = Ok (record { memory = bytes; start = 0; again = 0; blocks = blocks })
checked_track bytes blocks (Some block) = Err (fault.BadFilter block (filter_in bytes (16 * block)))

-- how bytes of SPU-ADPCM split
abbrev pub spu_split : List ℕ → Result Split SplitFault
spu_split bytes = split_of Spu bytes

-- the track up to the split's end, where the bytes split
abbrev pub split_track : List ℕ → Result Split SplitFault → Result Track TrackFault
split_track bytes (Ok split) = checked_track bytes split.blocks (bad_block bytes split.blocks)
split_track bytes (Err e) = Err (fault.Split e)

-- the track of bytes, or the first fault; behind the end block nothing counts
unfoldable pub spu_track_of : List ℕ → Result Track TrackFault
spu_track_of bytes = split_track bytes (spu_split bytes)
