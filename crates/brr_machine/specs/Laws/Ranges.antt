-- Steps and costs stay in range.
use Rattle.std.proofs.Common.{ℕ, ◌^◌, ◌≤◌, arith}
use Rattle.std.specs.Prelude.{ℤ, pos, negsuc, ◌+ℤ◌, ◌-ℤ◌, ◌*ℤ◌, ◌≤ℤ◌, unsigned_abs, IsTrue}
use Rattle.std.specs.Int.{int_rem_euclid}
use Rattle.std.proofs.lemmas.Int.{ints}
use Rattle.std.proofs.Math.Nat.{mul-le-mul}
use Rattle.adpcm_nums.specs.Nums.{clamp16_of, wrap15_of}
use Rattle.adpcm_nums.specs.Sample.{IsSample}
use Rattle.machine_core.specs.declared.state.State.{State}
use Rattle.machine_core.specs.Boxes.{InBox}
use Rattle.machine_core.specs.Decoder.{cost_of}
use Rattle.brr_machine.specs.Brr.{brr, brr_step, raw_of, output_of, is_brr_state}
use Rattle.brr_machine.specs.Boxes.{all_states}
use Rattle.brr_machine.specs.Laws.States.{IsOutput, last_bounds, older_bounds, state_in_range}

remainder-low : (y : ℤ) → pos 0 ≤ℤ int_rem_euclid y (pos 32768)
remainder-low (pos a) = omega (arith, ints)
remainder-low (negsuc a) = omega (arith, ints)

remainder-high : (y : ℤ) → int_rem_euclid y (pos 32768) ≤ℤ pos 32767
remainder-high (pos a) = omega (arith, ints)
remainder-high (negsuc a) = omega (arith, ints)

pub wrapped : (x : ℤ) → IsOutput (wrap15_of x)
wrapped x =
    let low = remainder-low (x +ℤ pos 16384) in
    let high = remainder-high (x +ℤ pos 16384) in record { low = omega (arith, ints); high = omega (arith, ints) }

pub output-fits : (head code : ℕ) (o r : ℤ) → IsOutput (output_of head code o r)
unfolding output_of
output-fits head code o r = wrapped (clamp16_of (raw_of head code o r))

pub step-fits : (head place code : ℕ) (from : State) → IsTrue (is_brr_state from) → IsTrue (is_brr_state (brr_step head place code from))
unfolding brr_step
step-fits head place code from is = state_in_range _ _ (output-fits head code from.a from.b) (last_bounds from is)

distance-small : (y target : ℤ) → IsOutput y → IsSample target → unsigned_abs (pos 2 *ℤ y -ℤ target) ≤ 2 ^ 16
distance-small y target in_range sample =
    let low = in_range.low in let high = in_range.high in let target_low = sample.low in let target_high = sample.high in omega (arith, ints)

pub cost-small : (at : State) (target : ℤ) → IsTrue (is_brr_state at) → IsSample target → cost_of brr at target ≤ 2 ^ 32
cost-small at target is sample = let small = distance-small at.a target (last_bounds at is) sample in mul-le-mul small small

pub all-hold : (at : State) → IsTrue (is_brr_state at) → InBox at all_states
all-hold at is =
    let last = last_bounds at is in
    let older = older_bounds at is in record { in_a = record { above = last.low; below = last.high }; in_b = record { above = older.low; below = older.high } }
