-- Tracks of IMA ADPCM: whole blocks, the frames that count, and a loop in frames; and what is heard of them.
use Rattle.std.specs.Prelude.{◌≡◌, ℕ, ◌-◌, ◌*◌, ◌/◌, ◌<◌, ◌≤◌, ℤ, List, length, map, Bool, is_some, Option, Some, None, IfSome, IsTrue, Result, Ok, Err}
use Rattle.std.specs.List.{range_with_len}
use Rattle.adpcm_nums.specs.First.{first_where}
use Rattle.adpcm_nums.specs.Round.{round_of}
use Rattle.adpcm_nums.specs.declared.loop_at.LoopAt.{LoopAt}
use Rattle.machine_core.specs.Decoder.{Decoder, start}
use Rattle.machine_core.specs.Blocks.{Blocks, output_at}
use Rattle.ima_machine.specs.Ima.{ima, is_align, samples_in}
use Rattle.ima_machine.specs.Faults.{fault_in}
use Rattle.ima_machine.specs.declared.fault.ImaFault.{ImaFault}
use Rattle.player_model.specs.declared.fault.TrackFault.{TrackFault}
use Rattle.player_model.specs.declared.fault.TrackFault.TheVariants.{BadHead}
use Rattle.player_model.specs.ImaFormat.{ima_format}
use Rattle.player_model.specs.Stored.{blocks_in}

-- what a caller sees of a track
pub record ImaSound : Type 0 where
  -- bytes in a block
  pub align : ℕ
  pub bytes : List ℕ
  -- how many of the blocks' outputs count
  pub frames : ℕ
  pub loop_at : Option LoopAt

-- its blocks
abbrev pub blocks_of : ImaSound → ℕ
blocks_of t = length t.bytes / t.align

-- what decodes them
abbrev pub decoder_of : ImaSound → Decoder
decoder_of t = ima (samples_in t.align)

-- the list that they spell
abbrev pub list_of : ImaSound → Blocks
list_of t = blocks_in (decoder_of t) (ima_format t.align) t.bytes 0 (blocks_of t)

-- the first so many outputs of blocks of this size
abbrev pub first_outputs : ImaSound → List ℤ
first_outputs t = map (output_at (decoder_of t) (list_of t) start) (range_with_len 0 t.frames)

-- output i of the player: the frames, then the loop for ever, or zeros where there is none
abbrev pub heard_ima : ImaSound → ℕ → ℤ
heard_ima t i = round_of (first_outputs t) t.loop_at i

-- a block with a bad head
abbrev pub is_bad : ℕ → List ℕ → ℕ → Bool
is_bad align bytes block = is_some (fault_in bytes (align * block))

-- the first of them
abbrev pub first_bad : ℕ → List ℕ → Option ℕ
first_bad align bytes = first_where (is_bad align bytes) (length bytes / align)

abbrev pub bad_head : ℕ → Option ImaFault → Option TrackFault
bad_head block None = None
bad_head block (Some fault) = Some (BadHead block fault)

-- the fault of that block
abbrev pub head_fault_of : ℕ → List ℕ → Option ℕ → Option TrackFault
head_fault_of align bytes None = None
head_fault_of align bytes (Some block) = bad_head block (fault_in bytes (align * block))

-- the track of these parts, or the first fault
abbrev pub track_unless : ImaSound → Option TrackFault → Result ImaSound TrackFault
track_unless t None = Ok t
track_unless t (Some fault) = Err fault

unfoldable pub ima_track_of : ImaSound → Result ImaSound TrackFault
ima_track_of t = track_unless t (head_fault_of t.align t.bytes (first_bad t.align t.bytes))

-- whole blocks, frames within them, and a loop within the frames
pub record IsImaSound (t : ImaSound) : Type 0 where
  pub align_fits : IsTrue (is_align t.align)
  pub whole : length t.bytes ≡ blocks_of t * t.align
  pub frames_fit : t.frames ≤ blocks_of t * samples_in t.align
  pub loop_ordered : IfSome t.loop_at (λ at. at.start ≤ at.end)
  pub loop_within : IfSome t.loop_at (λ at. at.end < t.frames)

-- and every block has a head of the decoder
pub record IsImaTrack (t : ImaSound) : Type 0 where
  pub sound : IsImaSound t
  pub heads_fit : (b : ℕ) → b < blocks_of t → fault_in t.bytes (t.align * b) ≡ None
