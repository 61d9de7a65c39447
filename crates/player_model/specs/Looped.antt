-- What a stored list of blocks is heard as: its outputs, and then its loop for ever, or silence.
use Rattle.std.specs.Prelude.{◌≡◌, ℕ, ◌+◌, ◌-◌, ◌*◌, ◌<◌, nat_lt, if◌then◌else◌, ℤ, pos, false, IsTrue, List, length, take, drop, get_or, Option, Some, None, IfSome}
use Rattle.adpcm_nums.specs.declared.loop_at.LoopAt.{LoopAt}
use Rattle.adpcm_nums.specs.Round.{round_place}
use Rattle.machine_core.specs.declared.state.State.{State}
use Rattle.machine_core.specs.declared.state.HeadRule.TheVariants.{FilterZero}
use Rattle.machine_core.specs.Decoder.{Decoder}
use Rattle.machine_core.specs.Blocks.{Blocks, output_at}
use Rattle.block_flags.specs.Flags.{tells_start}
use Rattle.player_model.specs.Format.{Format}
use Rattle.player_model.specs.Stored.{stored_blocks}

-- a list of so many blocks with this loop block stands in a memory from a start on; where no block tells where the loop begins, the player's repeat register does
pub record IsStoredAt (d : Decoder) (f : Format) (memory : List ℕ) (start again : ℕ) (list : Blocks) (blocks : ℕ) (loop_block : Option ℕ) : Type 0 where
  pub some : 0 < blocks
  pub loop_within : IfSome loop_block (λ l. l < blocks)
  pub bytes : take (f.size * blocks) (drop start memory) ≡ stored_blocks d f list blocks loop_block
  pub again_is : tells_start f.kind ≡ false → IfSome loop_block (λ l. again ≡ start + f.size * l)

-- its first block, and the first of its loop, do not depend on what was played before
pub record BeginsAnew (d : Decoder) (list : Blocks) (loop_block : Option ℕ) : Type 0 where
  pub first : IsTrue (d.allows (get_or list.heads 0 0) FilterZero)
  pub looped : IfSome loop_block (λ l. IsTrue (d.allows (get_or list.heads l 0) FilterZero))

-- the samples of the blocks from the loop block on
abbrev pub points_of : Decoder → ℕ → ℕ → LoopAt
points_of d blocks l = record { start = l * d.samples; end = blocks * d.samples - 1 }

-- the same where there may be no loop block
abbrev pub loop_points : Decoder → ℕ → Option ℕ → Option LoopAt
loop_points d blocks None = None
loop_points d blocks (Some l) = Some (points_of d blocks l)

-- sample i of the outputs of a list, which go round from its loop block for ever, or end in silence
abbrev pub round_output : Decoder → Blocks → State → ℕ → Option ℕ → ℕ → ℤ
round_output d list from blocks None i = if nat_lt i (blocks * d.samples) then output_at d list from i else pos 0
round_output d list from blocks (Some l) i = output_at d list from (round_place (points_of d blocks l) i)

-- the outputs of a list from a history
pub record AreOutputs (d : Decoder) (list : Blocks) (from : State) (blocks : ℕ) (outputs : List ℤ) : Type 0 where
  pub count : length outputs ≡ blocks * d.samples
  pub each : (k : ℕ) → k < blocks * d.samples → get_or outputs k (pos 0) ≡ output_at d list from k
