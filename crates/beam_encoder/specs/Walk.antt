-- The list of blocks that heads lead to, each of its symbols the nearest to its target.
use Rattle.std.specs.Prelude.{◌≡◌, ◌<◌, ℕ, zero, suc, ◌+◌, ◌*◌, ◌/◌, ◌%◌, ℤ, IsTrue, List, length, get_or, map}
use Rattle.std.specs.List.{range_with_len}
use Rattle.machine_core.specs.declared.state.State.{State}
use Rattle.machine_core.specs.declared.choice.Choice.{Choice}
use Rattle.machine_core.specs.Decoder.{Decoder, start}
use Rattle.machine_core.specs.Blocks.{Blocks, rule_of, first_only}
use Rattle.beam_encoder.specs.Near.{near_state, near_symbol, near_sum, targets_in}

-- the state before block b
unfoldable pub walk_state : Decoder → List ℕ → List ℤ → ℕ → State
walk_state d heads targets zero = start
walk_state d heads targets (suc b) = near_state d (get_or heads b 0) (targets_in d targets b) (walk_state d heads targets b) d.samples

-- the symbol at place p of block b
unfoldable pub walk_symbol : Decoder → List ℕ → List ℤ → ℕ → ℕ → ℕ
walk_symbol d heads targets b p = near_symbol d (get_or heads b 0) (targets_in d targets b) (walk_state d heads targets b) p

-- what the first b blocks cost
unfoldable pub walk_sum : Decoder → List ℕ → List ℤ → ℕ → ℕ
walk_sum d heads targets zero = 0
walk_sum d heads targets (suc b) = walk_sum d heads targets b + near_sum d (get_or heads b 0) (targets_in d targets b) (walk_state d heads targets b) d.samples

-- these heads and so many blocks of symbols
unfoldable pub walk_list : Decoder → List ℕ → List ℤ → ℕ → Blocks
walk_list d heads targets blocks = record {
  heads = heads;
  symbols = map (λ i. walk_symbol d heads targets (i / d.samples) (i % d.samples)) (range_with_len 0 (blocks * d.samples));
}

-- heads that a segment of so many blocks may have
pub record AreHeads (d : Decoder) (blocks : ℕ) (heads : List ℕ) : Type 0 where
  pub count : length heads ≡ blocks
  pub fit : (b : ℕ) → b < blocks → get_or heads b 0 < d.heads
  pub allowed : (b : ℕ) → b < blocks → IsTrue (d.allows (get_or heads b 0) (rule_of first_only b))

-- a choice's heads and symbols, without its error
abbrev pub list_of : Choice → Blocks
list_of choice = record { heads = choice.heads; symbols = choice.symbols }
