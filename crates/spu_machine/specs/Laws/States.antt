-- The range of states.
use Rattle.std.proofs.Common.{◌≡◌, true}
use Rattle.std.specs.Prelude.{ℤ, IsTrue}
use Rattle.std.proofs.lemmas.Bool.{and_parts, and_from}
use Rattle.adpcm_nums.specs.Sample.{IsSample}
use Rattle.adpcm_nums.proofs.IntTests.{from-test, to-test}
use Rattle.machine_core.specs.declared.state.State.{State}
use Rattle.spu_machine.specs.Spu.{is_output, is_spu_state}

-- an output has 16 bits
output-bounds : (y : ℤ) → is_output y ≡ true → IsSample y
output-bounds y h = let parts = and_parts _ _ h in record { low = from-test _ _ parts.0; high = from-test _ _ parts.1 }

-- the bounds of a state's last output
pub last_bounds : (s : State) → IsTrue (is_spu_state s) → IsSample s.a
last_bounds s h = output-bounds s.a (and_parts _ _ h).0

-- and of the older one
pub older_bounds : (s : State) → IsTrue (is_spu_state s) → IsSample s.b
older_bounds s h = output-bounds s.b (and_parts _ _ h).1

-- a state of two outputs in range
pub state_in_range : (a b : ℤ) → IsSample a → IsSample b → IsTrue (is_spu_state (record { a = a; b = b }))
state_in_range a b p q = and_from _ _ (and_from _ _ (to-test _ _ p.low) (to-test _ _ p.high)) (and_from _ _ (to-test _ _ q.low) (to-test _ _ q.high))
