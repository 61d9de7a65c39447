-- The range of states.
use Rattle.std.proofs.Common.{◌≡◌, true}
use Rattle.std.specs.Prelude.{ℤ, pos, negsuc, ◌≤ℤ◌, IsTrue}
use Rattle.std.proofs.lemmas.Bool.{and_parts, and_from}
use Rattle.adpcm_nums.proofs.IntTests.{from-test, to-test}
use Rattle.machine_core.specs.declared.state.State.{State}
use Rattle.brr_machine.specs.Brr.{is_output, is_brr_state}

-- the bounds of an output
pub record IsOutput (y : ℤ) : Type 0 where
  pub low : negsuc 16383 ≤ℤ y
  pub high : y ≤ℤ pos 16383

pub output_bounds : (y : ℤ) → is_output y ≡ true → IsOutput y
output_bounds y h = let parts = and_parts _ _ h in record { low = from-test _ _ parts.0; high = from-test _ _ parts.1 }

-- the bounds of both numbers of a state
pub last_bounds : (s : State) → IsTrue (is_brr_state s) → IsOutput s.a
last_bounds s h = output_bounds s.a (and_parts _ _ h).0

pub older_bounds : (s : State) → IsTrue (is_brr_state s) → IsOutput s.b
older_bounds s h = output_bounds s.b (and_parts _ _ h).1

-- a state of two outputs in range
pub state_in_range : (a b : ℤ) → IsOutput a → IsOutput b → IsTrue (is_brr_state (record { a = a; b = b }))
state_in_range a b p q = and_from _ _ (and_from _ _ (to-test _ _ p.low) (to-test _ _ p.high)) (and_from _ _ (to-test _ _ q.low) (to-test _ _ q.high))
