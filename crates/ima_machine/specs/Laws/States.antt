-- The range of states and boxes.
use Rattle.std.proofs.Common.{◌≡◌, true, arith}
use Rattle.std.specs.Prelude.{ℤ, pos, ◌≤ℤ◌, int_le, unsigned_abs, IsTrue}
use Rattle.std.proofs.lemmas.Int.{ints}
use Rattle.std.proofs.lemmas.Bool.{and_parts, and_from}
use Rattle.adpcm_nums.specs.Sample.{IsSample}
use Rattle.adpcm_nums.proofs.IntTests.{from-test, to-test}
use Rattle.machine_core.specs.declared.state.State.{State}
use Rattle.ima_machine.specs.Ima.{is_output, is_index, is_ima_state}

pub output_bounds : (y : ℤ) → is_output y ≡ true → IsSample y
output_bounds y h = let parts = and_parts _ _ h in record { low = from-test _ _ parts.0; high = from-test _ _ parts.1 }

-- the bounds of an index
pub record IsIndex (i : ℤ) : Type 0 where
  pub low : pos 0 ≤ℤ i
  pub high : i ≤ℤ pos 88

pub index_bounds : (i : ℤ) → is_index i ≡ true → IsIndex i
index_bounds i h = let parts = and_parts _ _ h in record { low = from-test _ _ parts.0; high = from-test _ _ parts.1 }

pub output_of : (s : State) → IsTrue (is_ima_state s) → IsSample s.a
output_of s h = output_bounds s.a (and_parts _ _ h).0

pub index_of : (s : State) → IsTrue (is_ima_state s) → IsIndex s.b
index_of s h = index_bounds s.b (and_parts _ _ h).1

pub state_in_range : (a b : ℤ) → IsSample a → IsIndex b → IsTrue (is_ima_state (record { a = a; b = b }))
state_in_range a b p q = and_from _ _ (and_from _ _ (to-test _ _ p.low) (to-test _ _ p.high)) (and_from _ _ (to-test _ _ q.low) (to-test _ _ q.high))

pub natural-index : (i : ℤ) → IsIndex i → i ≡ pos (unsigned_abs i)
natural-index i h = let low = h.low in omega (arith, ints)
