-- The flags of blocks, as they are written.
use Rattle.std.specs.Prelude.{ℕ, suc, ◌+◌, ◌/◌, ◌%◌, ◌==◌, if◌then◌else◌, Bool, true, false, is_some, Option, Some, None}
use Rattle.machine_core.specs.declared.state.Kind.{Kind}
use Rattle.machine_core.specs.declared.state.Kind.TheVariants.{Brr, Spu, Ima}

-- on the last block: 1 ends the sample, 3 ends it and repeats
abbrev pub end_flags : ℕ → ℕ → Option ℕ → ℕ
end_flags block blocks loop_block = if suc block == blocks then (if is_some loop_block then 3 else 1) else 0

-- on the loop block of SPU-ADPCM: 4, the start of the loop
abbrev pub start_flag : ℕ → Option ℕ → ℕ
start_flag block None = 0
start_flag block (Some loop_block) = if block == loop_block then 4 else 0

-- the flags of a block of a sample of so many blocks (fullsnes, BRR samples; PSX-SPX, SPU ADPCM samples); IMA blocks have none
abbrev pub flags_of_block : Kind → ℕ → ℕ → Option ℕ → ℕ
flags_of_block Brr block blocks loop_block = end_flags block blocks loop_block
flags_of_block Spu block blocks loop_block = end_flags block blocks loop_block + start_flag block loop_block
flags_of_block Ima block blocks loop_block = 0

-- the flags that a block may have are the numbers below this one
abbrev pub flag_bound : Kind → ℕ
flag_bound Brr = 4
flag_bound Spu = 8
flag_bound Ima = 1

-- whether blocks tell where a sample ends
abbrev pub tells_end : Kind → Bool
tells_end Brr = true
tells_end Spu = true
tells_end Ima = false

-- whether they tell where its loop begins
abbrev pub tells_start : Kind → Bool
tells_start Brr = false
tells_start Spu = true
tells_start Ima = false

-- bit 0 of a byte ends the sample, bit 1 repeats it
abbrev pub has_end : ℕ → Bool
has_end byte = byte % 2 == 1

abbrev pub has_repeat : ℕ → Bool
has_repeat byte = byte / 2 % 2 == 1

-- bit 2 of a byte starts the loop, in SPU-ADPCM alone
abbrev pub has_start : Kind → ℕ → Bool
has_start Brr byte = false
has_start Spu byte = byte / 4 % 2 == 1
has_start Ima byte = false
