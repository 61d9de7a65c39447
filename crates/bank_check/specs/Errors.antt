-- The exact error of a stored list.
use Rattle.std.specs.Prelude.{◌≡◌, ℕ, List, Result, Ok, Err}
use Rattle.std.specs.Bool.{⊤}
use Rattle.adpcm_nums.specs.Outcome.{◌>>=◌}
use Rattle.machine_core.specs.declared.state.Kind.TheVariants.{Brr, Spu}
use Rattle.machine_core.specs.Blocks.{Blocks, IsLegal}
use Rattle.machine_core.specs.Decoder.{Decoder}
use Rattle.machine_core.specs.Sums.{sum_of}
use Rattle.brr_machine.specs.Brr.{brr}
use Rattle.spu_machine.specs.Spu.{spu}
use Rattle.player_model.specs.BrrFormat.{brr_format}
use Rattle.player_model.specs.BrrTrack.{track_of}
use Rattle.player_model.specs.SpuFormat.{spu_format}
use Rattle.player_model.specs.SpuTrack.{spu_track_of}
use Rattle.player_model.specs.ImaTrack.{blocks_of, list_of}
use Rattle.ima_wave.specs.declared.file.ImaFile.{ImaFile}
use Rattle.loop_fit.specs.declared.fitted.Fitted.{Fitted}
use Rattle.command_faults.specs.declared.input_fault.InputFault.{InputFault}
use Rattle.command_faults.specs.declared.input_fault.InputFault.TheVariants.{Track as OfTrack}
use Rattle.bank_kinds.specs.Codec.{Codec, fixed_in}
use Rattle.bank_kinds.specs.Fits.{error_of}
use Rattle.bank_kinds.specs.Replay.{sound_of}
use Rattle.bank_check.specs.declared.failure.StoredFailure.{StoredFailure}
use Rattle.bank_check.specs.declared.failure.StoredFailure.TheVariants.{Fault}
use Rattle.bank_check.specs.Shape.{framed_shape}
use Rattle.bank_check.specs.Stored.{or_fault, track_list}

-- that of a list for a fitted sound, or why there is no list
abbrev pub error_in : Decoder → Fitted → Result Blocks InputFault → Result ℕ InputFault
error_in d fitted (Ok list) = Ok (sum_of d list fitted.targets fitted.blocks)
error_in d fitted (Err fault) = Err fault

-- a reading that may find a fault, where memory may run out besides
abbrev pub or_stored : {X : Type 0} → Result X InputFault → Result X StoredFailure
or_stored (Ok x) = Ok x
or_stored (Err fault) = Err (Fault fault)

-- a list where it has the shape that is asked for
abbrev pub where_shaped : Result ⊤ InputFault → Blocks → Result Blocks InputFault
where_shaped (Ok shaped) list = Ok list
where_shaped (Err fault) list = Err fault

-- the list of two addresses of a memory of BRR
unfoldable pub brr_list : List ℕ → ℕ → ℕ → Fitted → Result Blocks InputFault
brr_list memory begin again fitted = do
  track ← or_fault (λ f. OfTrack f) (track_of memory begin again)
  track_list Brr brr brr_format fitted track

-- that of bytes of SPU-ADPCM
unfoldable pub spu_list : List ℕ → Fitted → Result Blocks InputFault
spu_list bytes fitted = do
  track ← or_fault (λ f. OfTrack f) (spu_track_of bytes)
  track_list Spu spu spu_format fitted track

-- that of a WAVE file of IMA ADPCM
unfoldable pub framed_list : ℕ → ImaFile → Fitted → Result Blocks InputFault
framed_list align file fitted = where_shaped (framed_shape align fitted file.align (blocks_of (sound_of file)) file.frames file.at) (list_of (sound_of file))

-- the list that is stored for a fitted sound is legal, and this is its exact error
pub record IsStoredError (c : Codec) (fitted : Fitted) (stored : Result Blocks InputFault) (error : ℕ) : Type 0 where
  pub list : Blocks
  pub list_is : stored ≡ Ok list
  pub legal : IsLegal c.rules.decoder fitted.blocks (fixed_in c fitted) list
  pub error_is : error ≡ error_of c fitted list
