-- The track of two addresses in a memory of BRR blocks, or why there is none (fullsnes, BRR samples and the sample directory).
use Rattle.std.specs.Prelude.{ℕ, suc, ◌+◌, ◌*◌, ◌&&◌, if◌then◌else◌, not, List, Option, Some, None, Result, Ok, Err}
use Rattle.player_model.specs.declared.fault.TrackFault.{TrackFault}
use Rattle.player_model.specs.declared.fault.TrackFault.TheVariants.{NoEnd, BadAgain}
use Rattle.player_model.specs.BrrFormat.{brr_format}
use Rattle.player_model.specs.Track.{Track, whole_blocks, repeats_at, end_block, is_block}

-- the track whose end block is given
abbrev pub closed_track : List ℕ → ℕ → ℕ → ℕ → Result Track TrackFault
closed_track memory start again last =
    if repeats_at brr_format memory start last && not (is_block brr_format start (suc last) again) then Err (BadAgain again)
    else Ok (record { memory = memory; start = start; again = again; blocks = suc last })

-- the track up to an end block, where there is one
abbrev pub track_from : List ℕ → ℕ → ℕ → Option ℕ → Result Track TrackFault
track_from memory start again None = Err (NoEnd (start + 9 * whole_blocks brr_format memory start))
track_from memory start again (Some last) = closed_track memory start again last

-- the track of two addresses, or its first fault
unfoldable pub track_of : List ℕ → ℕ → ℕ → Result Track TrackFault
track_of memory start again = track_from memory start again (end_block brr_format memory start)
