-- Steps and costs stay in range.
use Rattle.std.proofs.Common.{ℕ, ◌^◌, ◌≤◌, arith}
use Rattle.std.specs.Prelude.{ℤ, pos, ◌-ℤ◌, ◌*ℤ◌, unsigned_abs, IsTrue}
use Rattle.std.proofs.lemmas.Int.{ints}
use Rattle.std.proofs.Math.Nat.{mul-le-mul}
use Rattle.adpcm_nums.specs.Sample.{IsSample}
use Rattle.adpcm_nums.proofs.ClampLaws.{clamped}
use Rattle.machine_core.specs.declared.state.State.{State}
use Rattle.machine_core.specs.Boxes.{InBox}
use Rattle.machine_core.specs.Decoder.{cost_of}
use Rattle.spu_machine.specs.Spu.{spu, spu_step, raw_of, output_of, is_spu_state}
use Rattle.spu_machine.specs.Boxes.{all_states}
use Rattle.spu_machine.specs.Laws.States.{last_bounds, older_bounds, state_in_range}

-- every output has 16 bits
pub output-fits : (head code : ℕ) (o r : ℤ) → IsSample (output_of head code o r)
unfolding output_of
output-fits head code o r = clamped (raw_of head code o r)

-- a step leads from a state to a state
pub step-fits : (head place code : ℕ) (from : State) → IsTrue (is_spu_state from) → IsTrue (is_spu_state (spu_step head place code from))
unfolding spu_step
step-fits head place code from is = state_in_range _ _ (output-fits head code from.a from.b) (last_bounds from is)

-- no output is further than 65536 from a sample
distance-small : (y target : ℤ) → IsSample y → IsSample target → unsigned_abs (pos 1 *ℤ y -ℤ target) ≤ 2 ^ 16
distance-small y target output sample =
    let low = output.low in let high = output.high in let target_low = sample.low in let target_high = sample.high in omega (arith, ints)

-- so none costs more than 2^32
pub cost-small : (at : State) (target : ℤ) → IsTrue (is_spu_state at) → IsSample target → cost_of spu at target ≤ 2 ^ 32
cost-small at target is sample = let small = distance-small at.a target (last_bounds at is) sample in mul-le-mul small small

-- the box of all states holds each of them
pub all-hold : (at : State) → IsTrue (is_spu_state at) → InBox at all_states
all-hold at is =
    let last = last_bounds at is in
    let older = older_bounds at is in record { in_a = record { above = last.low; below = last.high }; in_b = record { above = older.low; below = older.high } }
