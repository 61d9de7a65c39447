-- Where a player of IMA ADPCM stands.
use Rattle.std.specs.Prelude.{◌≡◌, ℕ, suc, ◌<◌, ◌==◌, if◌then◌else◌, min, IsTrue, Option, Some, None}
use Rattle.std.specs.Bool.{⊤}
use Rattle.adpcm_nums.specs.Round.{round_place}
use Rattle.adpcm_nums.specs.declared.loop_at.LoopAt.{LoopAt}
use Rattle.machine_core.specs.declared.state.State.{State}
use Rattle.machine_core.specs.Decoder.{start}
use Rattle.machine_core.specs.Blocks.{state_at}
use Rattle.ima_machine.specs.Ima.{is_ima_state}
use Rattle.player_model.specs.declared.ima_player.FramePosition.{FramePosition}
use Rattle.player_model.specs.ImaTrack.{ImaSound, IsImaTrack, decoder_of, list_of}

-- the frame that is heard as output i, if there is one
abbrev pub place_at : Option LoopAt → ℕ → ℕ
place_at None i = i
place_at (Some at) i = round_place at i

-- the state before frame j
abbrev pub state_before : ImaSound → ℕ → State
state_before t j = state_at (decoder_of t) (list_of t) start j

-- the state before the loop's first frame is known once the player has come by
abbrev pub IsKept : ImaSound → Option LoopAt → ℕ → State → Type 0
IsKept t None count kept = ⊤
IsKept t (Some at) count kept = at.start < count → kept ≡ state_before t at.start

-- a player that stands where it has to; without a loop it stays behind the last frame
pub record HasPlayedIma (t : ImaSound) (at : FramePosition) (count : ℕ) : Type 0 where
  pub track_is : IsImaTrack t
  pub frame_is : at.frame ≡ min (place_at t.loop_at count) t.frames
  pub history_is : at.history ≡ state_before t at.frame
  pub kept_is : IsKept t t.loop_at count at.kept
  pub history_fits : IsTrue (is_ima_state at.history)
  pub kept_fits : IsTrue (is_ima_state at.kept)

-- what is known of the state before a loop's first frame behind a position
abbrev pub kept_after : LoopAt → FramePosition → State
kept_after points at = if at.frame == points.start then at.history else at.kept

-- where a player stands after a frame that leads to a state
abbrev pub frame_moved : Option LoopAt → FramePosition → State → FramePosition
frame_moved None at after = record { frame = suc at.frame; history = after; kept = at.kept }
frame_moved (Some points) at after =
    if at.frame == points.end then record { frame = points.start; history = kept_after points at; kept = kept_after points at }
    else record { frame = suc at.frame; history = after; kept = kept_after points at }

-- what a caller sees of a player: its track, and how many outputs it gave
pub record PlayingIma : Type 0 where
  pub track : ImaSound
  pub count : ℕ
