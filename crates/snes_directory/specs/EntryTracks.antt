-- The tracks of an image's entries.
use Rattle.std.specs.Prelude.{ℕ, Bool, get_or, Result, Ok, Err}
use Rattle.brr_machine.specs.Brr.{brr}
use Rattle.player_model.specs.declared.fault.TrackFault.{TrackFault}
use Rattle.player_model.specs.Track.{Track}
use Rattle.player_model.specs.BrrTrack.{track_of}
use Rattle.player_model.specs.Limit.{is_much}
use Rattle.snes_directory.specs.declared.image.Image.{Image}

-- the track of an entry; there is one for each entry of an image that was read
abbrev pub track_at : Image → ℕ → Result Track TrackFault
track_at image i = track_of image.memory (get_or image.starts i 0) (get_or image.agains i 0)

-- the blocks of a track, or 0 where there is none
abbrev pub blocks_in : Result Track TrackFault → ℕ
blocks_in (Ok track) = track.blocks
blocks_in (Err fault) = 0

-- whether an entry is too long to be played
abbrev pub is_long : Image → ℕ → Bool
is_long image i = is_much (blocks_in (track_at image i)) brr.samples
