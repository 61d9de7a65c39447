-- The list of a WAVE file of IMA ADPCM.
use Rattle.std.proofs.Common.{◌≡◌, ℕ, ◌+◌, ◌*◌, ◌/◌, ◌<◌, ◌≤◌, List, length, refl, ap, sym, ◌∙◌, subst, arith, Ok, IsTrue}
use Rattle.std.specs.Prelude.{None}
use Rattle.std.specs.Bool.{⊤}
use Rattle.std.proofs.lemmas.Nat.{div-add-mod'}
use Rattle.machine_core.specs.Blocks.{Blocks, IsInRange, Obeys, every_block}
use Rattle.ima_machine.specs.Ima.{ima, is_align, samples_in}
use Rattle.ima_machine.specs.Faults.{fault_in}
use Rattle.ima_wave.specs.Files.{IsImaFile}
use Rattle.ima_wave.specs.declared.file.ImaFile.{ImaFile}
use Rattle.player_model.specs.FormatLaws.{AreBytes}
use Rattle.player_model.specs.ImaFormat.{ima_format}
use Rattle.player_model.specs.ImaLaws.{ima_stored}
use Rattle.player_model.specs.ImaTrack.{blocks_of, list_of}
use Rattle.player_model.specs.Stored.{blocks_in}
use Rattle.player_model.proofs.ImaWalks.{sound_head}
use Rattle.loop_fit.specs.declared.fitted.Fitted.{Fitted}
use Rattle.command_faults.specs.declared.input_fault.ShapePart.TheVariants.{Align, Blocks as BlockCount}
use Rattle.bank_kinds.specs.Replay.{sound_of}
use Rattle.bank_check.specs.Shape.{tested, framed_shape}
use Rattle.bank_check.specs.Errors.{where_shaped, framed_list}
use Rattle.bank_check.proofs.Certifying.{past-first}
use Rattle.bank_check.proofs.Shaped.{tested-ok}
use Rattle.bank_check.proofs.Tracks.{in-range}

-- a file with the asked size and number of blocks
pub record IsFramed (align : ℕ) (own blocks : ℕ) (fitted : Fitted) : Type 0 where
  pub align_is : own ≡ align
  pub blocks_are : blocks ≡ fitted.blocks

pub framed-ok : (align : ℕ) (fitted : Fitted) (file : ImaFile) (blocks : ℕ) (u : ⊤) → framed_shape align fitted file.align blocks file.frames file.at ≡ Ok u → IsFramed align file.align blocks fitted
unfolding framed_shape
framed-ok align fitted file blocks u e =
    let aligned = past-first (tested Align file.align align) _ u e in
    let counted = past-first (tested BlockCount blocks fitted.blocks) _ u aligned.2 in
    record { align_is = tested-ok _ _ _ aligned.0 aligned.1; blocks_are = tested-ok _ _ _ counted.0 counted.1 }

-- whole blocks lie in the bytes
pub frames-room : (align own size : ℕ) → own ≡ align → 0 + align * (size / own) ≤ size
frames-room align own size e = let same : align * (size / own) ≡ size / own * own = ap (λ z. z * (size / own)) (sym e) ∙ omega arith in omega (arith, same, div-add-mod' size own)

-- they are a list that the decoder has
pub frames-range : (align : ℕ) (file : ImaFile) (bytes : List ℕ) → IsTrue (is_align align) → IsImaFile file → bytes ≡ file.blocks → file.align ≡ align → AreBytes bytes
    → IsInRange (ima (samples_in align)) (length bytes / file.align) (blocks_in (ima (samples_in align)) (ima_format align) bytes 0 (length bytes / file.align))
frames-range align file bytes fits is same at all =
    in-range (ima (samples_in align)) (ima_format align) bytes 0 (length bytes / file.align) (ima_stored align fits) all (λ b below.
    let place : b * file.align ≡ 0 + align * b = ap (λ z. b * z) at ∙ omega arith in
    let here : b < length file.blocks / file.align = subst (λ (z : List ℕ). b < length z / file.align) same below in
    let none : fault_in bytes (0 + align * b) ≡ None = ap (λ z. fault_in z (0 + align * b)) same ∙ (ap (fault_in file.blocks) (sym place) ∙ is.heads b here) in
    sound_head bytes (0 + align * b) none)

-- the list of the file, as the code has its numbers
pub file-list : (align : ℕ) (file : ImaFile) (bytes : List ℕ) → bytes ≡ file.blocks → file.align ≡ align
    → blocks_in (ima (samples_in align)) (ima_format align) bytes 0 (length bytes / file.align) ≡ list_of (sound_of file)
file-list align file bytes same at =
    ap (λ z. blocks_in (ima (samples_in align)) (ima_format align) z 0 (length z / file.align)) same
    ∙ ap (λ z. blocks_in (ima (samples_in z)) (ima_format z) file.blocks 0 (length file.blocks / file.align)) (sym at)

-- every head is allowed
pub frames-obey : (samples blocks : ℕ) (list : Blocks) → Obeys (ima samples) blocks every_block list
frames-obey samples blocks list = record { allowed = λ b below. refl }

-- and a file of the asked shape has it
pub framed-list-is : (align : ℕ) (file : ImaFile) (fitted : Fitted) (u : ⊤) → framed_shape align fitted file.align (blocks_of (sound_of file)) file.frames file.at ≡ Ok u → framed_list align file fitted ≡ Ok (list_of (sound_of file))
unfolding framed_list
framed-list-is align file fitted u e = ap (λ z. where_shaped z (list_of (sound_of file))) e
