-- A sample as it is handed to the writer of an image.
use Rattle.std.specs.Prelude.{◌≡◌, ℕ, ◌+◌, ◌*◌, ◌/◌, ◌^◌, ◌<◌, ◌≤◌, length, Option, Some, None, Ok}
use Rattle.player_model.specs.Track.{Track, loop_block_of}
use Rattle.player_model.specs.BrrTrack.{track_of}
use Rattle.player_model.specs.BrrFormat.{brr_format}
use Rattle.snes_directory.specs.declared.part.ImagePart.{ImagePart}

-- its blocks of nine bytes
abbrev pub blocks_of : ImagePart → ℕ
blocks_of part = length part.blocks / 9

-- where the player of a sample at this address goes on: at its loop block, or at its start where it has none
abbrev pub loop_address : ℕ → Option ℕ → ℕ
loop_address start None = start
loop_address start (Some block) = start + 9 * block

-- its bytes alone, as a track
abbrev pub track_in : ImagePart → Track
track_in part = record { memory = part.blocks; start = 0; again = loop_address 0 part.loop_block; blocks = blocks_of part }

-- whole blocks, of which the last alone ends the sample, and the loop block is where that one goes on, if it does
pub record IsPart (part : ImagePart) : Type 0 where
  pub some_rate : 1 ≤ part.rate
  pub high_rate : part.rate ≤ 1000000
  pub small : length part.blocks < 2 ^ 31
  pub whole : length part.blocks ≡ 9 * blocks_of part
  pub track : track_of part.blocks 0 (loop_address 0 part.loop_block) ≡ Ok (track_in part)
  pub loop_block : loop_block_of brr_format (track_in part) ≡ part.loop_block
