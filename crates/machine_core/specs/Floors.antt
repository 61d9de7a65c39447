-- Floors under the error of every legal list of blocks.
use Rattle.std.specs.Prelude.{◌≡◌, ◌≤◌, length, get_or, ℕ, suc, ◌+◌, ◌-◌, ◌*◌, ◌/◌, ◌%◌, ◌==◌, if◌then◌else◌, ℤ, Bool, List, slice_range}
use Rattle.adpcm_nums.specs.LeastValue.{least}
use Rattle.adpcm_nums.specs.RangeSum.{sum_range}
use Rattle.machine_core.specs.declared.state.HeadRule.{HeadRule}
use Rattle.machine_core.specs.declared.boxes.Bx.{Bx}
use Rattle.machine_core.specs.Blocks.{rule_of}
use Rattle.machine_core.specs.Rules.{Rules}

-- no number of the code is above it
abbrev pub top : ℕ
top = 18446744073709551615

-- the targets of block b
abbrev pub block_targets : Rules → List ℤ → ℕ → List ℤ
block_targets r targets b = slice_range targets (b * r.decoder.samples) (b * r.decoder.samples + r.decoder.samples)

-- whether a head may be taken at sample i: at a block's first place where the block's rule allows it, later where it has the lane
abbrev pub may_take : Rules → (ℕ → Bool) → ℕ → ℕ → ℕ → Bool
may_take r fixed i lane head =
    if i % r.decoder.samples == 0 then r.decoder.allows head (rule_of fixed (i / r.decoder.samples)) else r.lane head (i % r.decoder.samples) == lane

-- the floor under the rest of the block of sample i, under a head that may be taken
abbrev pub head_floor : Rules → (ℕ → Bool) → List ℤ → ℕ → ℕ → Bx → ℕ → ℕ
head_floor r fixed targets i lane bx head =
    if may_take r fixed i lane head then r.floor head (i % r.decoder.samples) bx (block_targets r targets (i / r.decoder.samples)) else top

-- the same under any of them
abbrev pub floor_in : Rules → (ℕ → Bool) → List ℤ → ℕ → ℕ → Bx → ℕ
floor_in r fixed targets i lane bx = least r.decoder.heads (head_floor r fixed targets i lane bx) top

-- the floor under a whole block of these targets, under a head that the rule allows
abbrev pub allowed_floor : Rules → HeadRule → List ℤ → ℕ → ℕ
allowed_floor r rule targets head = if r.decoder.allows head rule then r.floor head 0 r.whole targets else top

-- the same under any head that the rule allows
abbrev pub ruled_floor : Rules → HeadRule → List ℤ → ℕ
ruled_floor r rule targets = least r.decoder.heads (allowed_floor r rule targets) top

-- the floor under block b
abbrev pub block_floor : Rules → (ℕ → Bool) → List ℤ → ℕ → ℕ
block_floor r fixed targets b = ruled_floor r (rule_of fixed b) (block_targets r targets b)

-- the sum of the floors of `count` blocks from block b on
abbrev pub floors_from : Rules → (ℕ → Bool) → List ℤ → ℕ → ℕ → ℕ
floors_from r fixed targets b count = sum_range (block_floor r fixed targets) b count

-- a list holds what the floors come to from each block on
pub record HoldsRests (r : Rules) (fixed : ℕ → Bool) (targets : List ℤ) (blocks : ℕ) (rests : List ℕ) : Type 0 where
  pub size : length rests ≡ blocks + 1
  pub holds : (b : ℕ) → b ≤ blocks → get_or rests b 0 ≡ floors_from r fixed targets b (blocks - b)

-- a floor under all that comes from sample i on, for a state of the box in the lane
abbrev pub rest : Rules → (ℕ → Bool) → List ℤ → ℕ → ℕ → ℕ → Bx → ℕ
rest r fixed targets blocks i lane bx =
    if i % r.decoder.samples == 0 then floors_from r fixed targets (i / r.decoder.samples) (blocks - i / r.decoder.samples)
    else floor_in r fixed targets i lane bx + floors_from r fixed targets (suc (i / r.decoder.samples)) (blocks - suc (i / r.decoder.samples))

-- the floor under a sample of so many blocks, or under a segment of one
abbrev pub floor_of_blocks : Rules → (ℕ → Bool) → List ℤ → ℕ → ℕ
floor_of_blocks r fixed targets blocks = floors_from r fixed targets 0 blocks
