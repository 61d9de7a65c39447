-- How a loop comes to lie on whole blocks (this project's own choice).
use Rattle.std.specs.Prelude.{ℕ, suc, ◌+◌, ◌-◌, ◌*◌, ◌%◌, ◌==◌, Option, None, unwrap_or}
use Rattle.std.specs.Int.{next_multiple_of}
use Rattle.adpcm_nums.specs.First.{first_where}
use Rattle.adpcm_nums.specs.declared.loop_at.LoopAt.{LoopAt}
use Rattle.machine_core.specs.declared.state.Kind.{Kind}
use Rattle.machine_core.specs.declared.state.Kind.TheVariants.{Brr, Spu, Ima}
use Rattle.loop_fit.specs.declared.rule.Start.{Start}
use Rattle.loop_fit.specs.declared.rule.Start.TheVariants.{Front, Rotate}

-- the loop that has to lie on whole blocks: IMA ADPCM may jump into a block
abbrev pub block_loop : Kind → Option LoopAt → Option LoopAt
block_loop Brr at = at
block_loop Spu at = at
block_loop Ima at = None

-- the loop that stays at its frames
abbrev pub frame_loop : Kind → Option LoopAt → Option LoopAt
frame_loop Brr at = None
frame_loop Spu at = None
frame_loop Ima at = at

-- the frames of a loop, whose end is played
abbrev pub loop_length : LoopAt → ℕ
loop_length at = at.end - at.start + 1

-- the first target of the loop: the least multiple of the block's samples that is not before its first frame
abbrev pub loop_target : ℕ → LoopAt → ℕ
loop_target block at = next_multiple_of at.start block

-- the zeros before the sound: under Rotate the loop begins so much later in its round instead
abbrev pub front_of : Start → ℕ → LoopAt → ℕ
front_of Front block at = loop_target block at - at.start
front_of Rotate block at = 0

-- the least number of rounds, 1 or more, that take whole blocks
unfoldable pub unroll_of : ℕ → ℕ → ℕ
unroll_of block len = suc (unwrap_or (first_where (λ k. (suc k * len) % block == 0) block) 0)
