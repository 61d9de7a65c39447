-- What every file that is read keeps.
use Rattle.std.specs.Prelude.{◌≡◌, ◌≤◌, ◌<◌, ℕ, ◌*◌, ◌%◌, IsTrue, IfSome, length, None}
use Rattle.ima_machine.specs.Ima.{is_align}
use Rattle.ima_machine.specs.Faults.{fault_in}
use Rattle.ima_wave.specs.declared.file.ImaFile.{ImaFile}
use Rattle.ima_wave.specs.Heads.{block_count}
use Rattle.ima_wave.specs.Reading.{all_frames}

-- whole blocks of the align, each with the head of a block; frames within them; a loop within the frames
pub record IsImaFile (file : ImaFile) : Type 0 where
  pub some_rate : 1 ≤ file.rate
  pub low_rate : file.rate ≤ 1000000
  pub align : IsTrue (is_align file.align)
  pub whole : length file.blocks % file.align ≡ 0
  pub heads : (b : ℕ) → b < block_count file.align file.blocks → fault_in file.blocks (b * file.align) ≡ None
  pub frames : file.frames ≤ all_frames file.align file.blocks
  pub forward : IfSome file.at (λ at. at.start ≤ at.end)
  pub inside : IfSome file.at (λ at. at.end < file.frames)
