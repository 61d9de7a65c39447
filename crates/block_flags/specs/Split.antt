-- How stored blocks split at the first end flag.
use Rattle.std.specs.Prelude.{ℕ, suc, ◌+◌, ◌-◌, ◌*◌, ◌/◌, ◌%◌, ◌==◌, if◌then◌else◌, Bool, List, length, get_or, Option, Some, None, Result, Ok, Err}
use Rattle.adpcm_nums.specs.First.{first_where}
use Rattle.adpcm_nums.specs.Outcome.{◌>>=◌}
use Rattle.machine_core.specs.declared.state.Kind.{Kind}
use Rattle.machine_core.specs.declared.state.Kind.TheVariants.{Brr, Spu, Ima}
use Rattle.block_flags.specs.declared.split.Split.{Split}
use Rattle.block_flags.specs.declared.split.SplitFault.{SplitFault}
use Rattle.block_flags.specs.declared.split.SplitFault.TheVariants.{Ragged, NoEnd, NoLoopStart}
use Rattle.block_flags.specs.Flags.{tells_start, has_end, has_repeat, has_start}
use Rattle.block_flags.specs.Last.{last_where}

-- bytes in a block (fullsnes, BRR samples; PSX-SPX, SPU ADPCM samples); the length of IMA blocks is not told here
abbrev pub block_bytes : Kind → ℕ
block_bytes Brr = 9
block_bytes Spu = 16
block_bytes Ima = 1

-- which of them holds the flags: the header in BRR, the byte behind it in SPU-ADPCM
abbrev pub flag_place : Kind → ℕ
flag_place Brr = 0
flag_place Spu = 1
flag_place Ima = 0

-- the byte with the flags of a block
abbrev pub flag_byte : Kind → List ℕ → ℕ → ℕ
flag_byte kind bytes block = get_or bytes (block_bytes kind * block + flag_place kind) 0

-- whether a block has the end flag
abbrev pub ends_at : Kind → List ℕ → ℕ → Bool
ends_at kind bytes block = has_end (flag_byte kind bytes block)

-- and whether it has the start flag
abbrev pub starts_at : Kind → List ℕ → ℕ → Bool
starts_at kind bytes block = has_start kind (flag_byte kind bytes block)

-- the block where the loop began that was started last
abbrev pub started : Kind → ℕ → Option ℕ → Result (Option ℕ) SplitFault
started kind last None = Err (NoLoopStart (block_bytes kind * last))
started kind last (Some block) = Ok (Some block)

-- the block from which an end block repeats: the last with the start flag, where blocks tell it
abbrev pub loop_start_of : Kind → List ℕ → ℕ → Result (Option ℕ) SplitFault
loop_start_of kind bytes last = if tells_start kind then started kind last (last_where (starts_at kind bytes) (suc last)) else Ok None

-- the split with this end block
abbrev pub split_with : Kind → List ℕ → ℕ → Option ℕ → Result Split SplitFault
split_with kind bytes last loop_block = Ok (record {
  blocks = suc last;
  looped = has_repeat (flag_byte kind bytes last);
  loop_block = loop_block;
  trailing = length bytes - block_bytes kind * suc last;
})

-- the same, with the block from which it repeats, if it does
abbrev pub closed_split : Kind → List ℕ → ℕ → Result Split SplitFault
closed_split kind bytes last = (if has_repeat (flag_byte kind bytes last) then loop_start_of kind bytes last else Ok None) >>= split_with kind bytes last

-- the split at an end block, if there is one
abbrev pub split_at : Kind → List ℕ → Option ℕ → Result Split SplitFault
split_at kind bytes None = Err NoEnd
split_at kind bytes (Some last) = closed_split kind bytes last

-- the split of bytes of blocks, or the first fault
unfoldable pub split_of : Kind → List ℕ → Result Split SplitFault
split_of kind bytes =
    if length bytes % block_bytes kind == 0 then split_at kind bytes (first_where (ends_at kind bytes) (length bytes / block_bytes kind))
    else Err (Ragged (length bytes))
