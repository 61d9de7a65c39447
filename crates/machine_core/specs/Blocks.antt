-- Lists of blocks: which are legal, and what they decode to.
use Rattle.std.specs.Prelude.{◌≡◌, ℕ, zero, suc, ◌*◌, ◌/◌, ◌%◌, ◌<◌, ℤ, Bool, true, IsTrue, ◌||◌, ◌==◌, if◌then◌else◌, List, length, get_or, Option, Some, None}
use Rattle.machine_core.specs.declared.state.State.{State}
use Rattle.machine_core.specs.declared.state.Kind.{Kind}
use Rattle.machine_core.specs.declared.state.Kind.TheVariants.{Brr, Spu, Ima}
use Rattle.machine_core.specs.declared.state.HeadRule.{HeadRule}
use Rattle.machine_core.specs.declared.state.HeadRule.TheVariants.{AnyHead, FilterZero}
use Rattle.machine_core.specs.Decoder.{Decoder}

-- one head a block, one symbol a sample
pub record Blocks : Type 0 where
  pub heads : List ℕ
  pub symbols : List ℕ

-- the head of the block that sample i is in
abbrev pub head_at : Decoder → Blocks → ℕ → ℕ
head_at d list i = get_or list.heads (i / d.samples) 0

-- the symbol of sample i
abbrev pub symbol_at : Blocks → ℕ → ℕ
symbol_at list i = get_or list.symbols i 0

-- the state after sample i, from the state before it
abbrev pub step_at : Decoder → Blocks → ℕ → State → State
step_at d list i at = d.step (head_at d list i) (i % d.samples) (symbol_at list i) at

-- the state before sample i, from a history
abbrev pub state_at : Decoder → Blocks → State → ℕ → State
state_at d list from zero = from
state_at d list from (suc i) = step_at d list i (state_at d list from i)

-- output i
abbrev pub output_at : Decoder → Blocks → State → ℕ → ℤ
output_at d list from i = (state_at d list from (suc i)).a

-- whether block b is the first of a sample or of its loop
abbrev pub is_first : Option ℕ → ℕ → Bool
is_first None b = b == 0
is_first (Some loop_block) b = b == 0 || b == loop_block

-- whether it is the first of a segment that stands alone
abbrev pub first_only : ℕ → Bool
first_only b = b == 0

abbrev pub every_block : ℕ → Bool
every_block b = true

-- whether block b of a sample with this loop block must forget what was played before it: the first and the first of the loop must;
-- in IMA ADPCM every block does, since it begins with its own first output
abbrev pub must_forget : Kind → Option ℕ → ℕ → Bool
must_forget Brr loop_block = is_first loop_block
must_forget Spu loop_block = is_first loop_block
must_forget Ima loop_block = every_block

-- the rule for the head of block b, where it is fixed which blocks must forget
abbrev pub rule_of : (ℕ → Bool) → ℕ → HeadRule
rule_of fixed b = if fixed b then FilterZero else AnyHead

-- so many blocks, each with a head and symbols that the decoder has
pub record IsInRange (d : Decoder) (blocks : ℕ) (list : Blocks) : Type 0 where
  pub head_count : length list.heads ≡ blocks
  pub symbol_count : length list.symbols ≡ blocks * d.samples
  pub heads_fit : (b : ℕ) → b < blocks → get_or list.heads b 0 < d.heads
  pub symbols_fit : (i : ℕ) → i < blocks * d.samples → symbol_at list i < d.symbols (i % d.samples)

-- each block that must forget has a head that forgets
pub record Obeys (d : Decoder) (blocks : ℕ) (fixed : ℕ → Bool) (list : Blocks) : Type 0 where
  pub allowed : (b : ℕ) → b < blocks → IsTrue (d.allows (get_or list.heads b 0) (rule_of fixed b))

-- legal for a sample of this many blocks of which these must forget
pub record IsLegal (d : Decoder) (blocks : ℕ) (fixed : ℕ → Bool) (list : Blocks) : Type 0 where
  pub in_range : IsInRange d blocks list
  pub obeys : Obeys d blocks fixed list
