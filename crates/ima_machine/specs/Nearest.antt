-- Which code comes nearest to a target: the sixteen codes are two ladders of eight distances, one toward the target and one away from it.
use Rattle.std.specs.Prelude.{ℕ, ◌+◌, ◌-◌, ◌*◌, min, nat_lt, if◌then◌else◌, ℤ, pos, ◌-ℤ◌, ◌*ℤ◌}
use Rattle.adpcm_nums.specs.Nums.{square_of}
use Rattle.adpcm_nums.specs.Least.{first_least}
use Rattle.machine_core.specs.declared.state.State.{State}
use Rattle.machine_core.specs.declared.taken.Taken.{Taken}
use Rattle.ima_machine.specs.Steps.{distance_of}
use Rattle.ima_machine.specs.Ima.{later_state}

-- what a code costs after a state, at a later place of a block
unfoldable pub later_cost : State → ℤ → ℕ → ℕ
later_cost from target code = square_of (pos 1 *ℤ (later_state code from).a -ℤ target)

-- the first code of least cost, the state after it and its cost
abbrev pub later_taken : State → ℤ → Taken
later_taken from target = record {
  symbol = first_least (later_cost from target) 16;
  state = later_state (first_least (later_cost from target) 16) from;
  cost = later_cost from target (first_least (later_cost from target) 16);
}

-- how far an output is from a target that is a gap away, after a move toward it; no output lies further past the target than there is room
abbrev pub miss_toward : ℕ → ℕ → ℕ → ℕ
miss_toward gap room distance = (gap - distance) + min (distance - gap) room

-- the same after a move away from it, where there is so much room on its near side
abbrev pub miss_away : ℕ → ℕ → ℕ → ℕ
miss_away gap room distance = min (distance + gap) room

-- what a code of either sign misses a target by that is not below the output before, and one that is
unfoldable pub rising_miss : ℕ → ℕ → ℕ → ℕ → ℕ → ℕ
rising_miss step gap above below code = if nat_lt code 8 then miss_toward gap above (distance_of step code) else miss_away gap below (distance_of step code)

unfoldable pub falling_miss : ℕ → ℕ → ℕ → ℕ → ℕ → ℕ
falling_miss step gap above below code = if nat_lt code 8 then miss_away gap above (distance_of step code) else miss_toward gap below (distance_of step code)
