-- In what a stored sample may differ from the fitted sound that it is to be, in the order in which that is tested.
use Rattle.std.specs.Prelude.{ℕ, Bool, not, ◌==◌, if◌then◌else◌, get_or, Option, Some, None, Result, Ok, Err}
use Rattle.std.specs.Bool.{⊤}
use Rattle.adpcm_nums.specs.First.{first_where}
use Rattle.adpcm_nums.specs.Outcome.{◌>>=◌}
use Rattle.adpcm_nums.specs.declared.loop_at.LoopAt.{LoopAt}
use Rattle.machine_core.specs.Blocks.{Blocks, rule_of}
use Rattle.machine_core.specs.Decoder.{Decoder}
use Rattle.loop_fit.specs.declared.fitted.Fitted.{Fitted}
use Rattle.command_faults.specs.declared.input_fault.InputFault.{InputFault}
use Rattle.command_faults.specs.declared.input_fault.InputFault.TheVariants.{Shape}
use Rattle.command_faults.specs.declared.input_fault.ShapePart.{ShapePart}
use Rattle.command_faults.specs.declared.input_fault.ShapePart.TheVariants.{Align, Blocks as BlockCount, LoopBlock, Head, Frames, LoopStart, LoopEnd}

-- a part that must be what is asked for
abbrev pub tested : ShapePart → ℕ → ℕ → Result ⊤ InputFault
tested what have need = if have == need then Ok tt else Err (Shape what have need)

-- the number of a loop block, of a loop's first and of its last frame; one that is not there has a number that no loop has
abbrev pub block_number : Option ℕ → ℕ
block_number (Some block) = block
block_number None = 4294967295

abbrev pub start_number : Option LoopAt → ℕ
start_number (Some at) = at.start
start_number None = 4294967295

abbrev pub end_number : Option LoopAt → ℕ
end_number (Some at) = at.end
end_number None = 4294967295

-- a block that must forget what was played before it and has a head that does not
abbrev pub is_unruled : Decoder → (ℕ → Bool) → Blocks → ℕ → Bool
is_unruled d fixed list b = not (d.allows (get_or list.heads b 0) (rule_of fixed b))

abbrev pub head_tested : Option ℕ → Result ⊤ InputFault
head_tested (Some block) = Err (Shape Head block 0)
head_tested None = Ok tt

-- blocks with flags: their number, their loop block, and the heads of those that must forget
unfoldable pub flagged_shape : Decoder → (ℕ → Bool) → Fitted → ℕ → Option ℕ → Blocks → Result ⊤ InputFault
flagged_shape d fixed fitted blocks loop_block list = do
  counted ← tested BlockCount blocks fitted.blocks
  looped ← tested LoopBlock (block_number loop_block) (block_number fitted.loop_block)
  head_tested (first_where (is_unruled d fixed list) blocks)

-- blocks of IMA ADPCM: their bytes, their number, their frames, and the loop's frames
unfoldable pub framed_shape : ℕ → Fitted → ℕ → ℕ → ℕ → Option LoopAt → Result ⊤ InputFault
framed_shape align fitted have_align blocks frames at = do
  aligned ← tested Align have_align align
  counted ← tested BlockCount blocks fitted.blocks
  framed ← tested Frames frames fitted.frames
  started ← tested LoopStart (start_number at) (start_number fitted.loop_frames)
  tested LoopEnd (end_number at) (end_number fitted.loop_frames)
