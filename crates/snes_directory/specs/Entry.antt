-- What an entry of an image says, or its first fault.
use Rattle.std.specs.Prelude.{ℕ, ◌+◌, ◌-◌, ◌*◌, ◌==◌, ◌||◌, nat_lt, if◌then◌else◌, List, length, Option, Some, None, Result, Ok, Err}
use Rattle.adpcm_nums.specs.Outcome.{◌>>=◌}
use Rattle.player_model.specs.declared.fault.TrackFault.{TrackFault}
use Rattle.player_model.specs.declared.fault.TrackFault.TheVariants.{NoEnd, BadAgain, Split, BadFilter, BadHead}
use Rattle.player_model.specs.Track.{Track, loop_block_of}
use Rattle.player_model.specs.BrrTrack.{track_of}
use Rattle.player_model.specs.BrrFormat.{brr_format}
use Rattle.snes_directory.specs.declared.fault.ImageFault.{ImageFault}
use Rattle.snes_directory.specs.declared.fault.ImageFault.TheVariants.{BadRate, BadEntry, BadLoopAddress}
use Rattle.snes_directory.specs.declared.entry.Entry.{Entry}
use Rattle.snes_directory.specs.Header.{number2_at, number4_at}

-- the rate of entry i, which stands behind the header
unfoldable pub rate_of : List ℕ → ℕ → Result ℕ ImageFault
rate_of bytes i =
    if number4_at bytes (16 + 4 * i) == 0 || nat_lt 1000000 (number4_at bytes (16 + 4 * i)) then Err (BadRate i (number4_at bytes (16 + 4 * i)))
    else Ok (number4_at bytes (16 + 4 * i))

-- the place of its first block in the memory from the base on
unfoldable pub start_in : ℕ → List ℕ → ℕ → Result ℕ ImageFault
start_in base memory i =
    if nat_lt (length memory) (4 * i + 4) || nat_lt (number2_at memory (4 * i)) base then Err (BadEntry i)
    else Ok (number2_at memory (4 * i) - base)

-- its blocks are a track that goes on at the loop address; one below the base counts only where the track repeats
abbrev pub again_place : ℕ → ℕ → ℕ → ℕ
again_place base start address = if nat_lt address base then start else address - base

-- the fault of an entry whose blocks are no track
abbrev pub entry_fault : ℕ → TrackFault → ImageFault
entry_fault i (NoEnd at) = BadEntry i
entry_fault i (BadAgain at) = BadLoopAddress i
-- faults of other formats, which no track of BRR has
entry_fault i (Split fault) = BadEntry i
entry_fault i (BadFilter block filter) = BadEntry i
entry_fault i (BadHead block fault) = BadEntry i

-- a track, or its fault as the fault of an entry
abbrev pub tracked : ℕ → Result Track TrackFault → Result Track ImageFault
tracked i (Ok track) = Ok track
tracked i (Err fault) = Err (entry_fault i fault)

-- where a track goes on: at its start, where it does not repeat
abbrev pub again_of : ℕ → ℕ → ℕ → ℕ → Option ℕ → Result ℕ ImageFault
again_of i base start address None = Ok start
again_of i base start address (Some block) = if nat_lt address base then Err (BadLoopAddress i) else Ok (address - base)

-- the place where its player goes on
unfoldable pub again_in : ℕ → List ℕ → ℕ → ℕ → Result ℕ ImageFault
again_in base memory i start = do
  track ← tracked i (track_of memory start (again_place base start (number2_at memory (4 * i + 2))))
  again_of i base start (number2_at memory (4 * i + 2)) (loop_block_of brr_format track)

-- entry i of a file with this base and memory, or its first fault
unfoldable pub entry_of : List ℕ → ℕ → List ℕ → ℕ → Result Entry ImageFault
entry_of bytes base memory i = do
  rate ← rate_of bytes i
  start ← start_in base memory i
  again ← again_in base memory i start
  Ok (record { rate = rate; start = start; again = again })
