-- What the codes of a block count from a state on, and the bounds under it where the states are known one by one.
use Rattle.std.specs.Prelude.{◌≡◌, ℕ, ◌+◌, ◌-◌, ◌*◌, ◌<◌, ◌≤◌, ℤ, pos, negsuc, ◌+ℤ◌, ◌*ℤ◌, ◌-ℤ◌, ◌≤ℤ◌, ◌<ℤ◌, Bool, IsTrue, nat_lt, if◌then◌else◌, List, get_or}
use Rattle.adpcm_nums.specs.Nums.{square_of}
use Rattle.machine_core.specs.declared.state.State.{State}
use Rattle.machine_core.specs.Decoder.{Decoder, cost_of, miss}
use Rattle.machine_core.specs.Rules.{tail_cost}
use Rattle.window_floor.specs.Windows.{Windows}
use Rattle.strong_bound.specs.declared.states.Entry.{Entry}

-- how many places of a block of n are counted twice, the first ones: all but the last two where the next block counts those again
abbrev pub twice_of : Bool → ℕ → ℕ
twice_of leaving n = if leaving then n - 2 else n

-- how often a place is counted where the first `twice` are counted twice
unfoldable pub times_at : ℕ → ℕ → ℕ
times_at twice p = if nat_lt p twice then 2 else 1

-- a symbol for each place of a block
abbrev pub AreSymbols : Decoder → (ℕ → ℕ) → Type 0
AreSymbols d symbol = (q : ℕ) → q < d.samples → symbol q < d.symbols q

-- what symbols count from place p on under a head, from a state: every place once, and those before place `twice` once more
unfoldable pub count_from : Decoder → List ℤ → ℕ → ℕ → (ℕ → ℕ) → ℕ → State → ℕ
count_from d targets twice head symbol p at =
    tail_cost d (miss d targets) head symbol p at (d.samples - p) + tail_cost d (miss d targets) head symbol p at (twice - p)

-- a bound is at most what any symbols count from place p on, from a state, on top of what was counted before
unfoldable pub IsUnderSymbols : Decoder → List ℤ → ℕ → ℕ → ℕ → State → ℕ → ℕ → Type 0
IsUnderSymbols d targets twice head p at paid bound =
    (symbol : ℕ → ℕ) → AreSymbols d symbol → bound ≤ paid + count_from d targets twice head symbol p at

-- a bound is at most what any symbols count from place p on, from whatever state
unfoldable pub IsUnderRest : Decoder → List ℤ → ℕ → ℕ → ℕ → ℕ → Type 0
IsUnderRest d targets twice head p bound = (at : State) → IsTrue (d.is_state at) → IsUnderSymbols d targets twice head p at 0 bound

-- a list holds such a bound at each place
unfoldable pub HoldsRests : Decoder → List ℤ → ℕ → ℕ → List ℕ → Type 0
HoldsRests d targets twice head rests = (p : ℕ) → p ≤ d.samples → IsUnderRest d targets twice head p (get_or rests p 0)

-- the errors of the two outputs before a block, against the state that would meet their targets
abbrev pub entering_cost : Decoder → State → State → ℕ
entering_cost d aim at = square_of (pos d.scale *ℤ at.b -ℤ aim.b) + cost_of d at aim.a

-- the errors of the two outputs before a place, each counted as often as the entry says
abbrev pub pair_cost : Decoder → Entry → State → ℕ
pair_cost d entry at = entry.older * square_of (pos d.scale *ℤ at.b -ℤ entry.aim.b) + entry.last * cost_of d at entry.aim.a

-- a bound is at most what any symbols count from the first n states whose last outputs follow that of `first`, with the error of the last output
unfoldable pub IsUnderLast : Decoder → List ℤ → ℕ → ℕ → State → Entry → ℕ → ℕ → ℕ → Type 0
IsUnderLast d targets twice head first entry paid n bound =
    (at : State) → IsTrue (d.is_state at) → at.b ≡ first.b → first.a ≤ℤ at.a → at.a <ℤ (first.a +ℤ pos n)
    → IsUnderSymbols d targets twice head entry.place at (paid + entry.last * cost_of d at entry.aim.a) bound

-- a bound is at most what any symbols count under a head from a place on, from whatever state, with the errors of the two outputs before the place
unfoldable pub IsUnderEntry : Decoder → Entry → List ℤ → ℕ → ℕ → ℕ → Type 0
IsUnderEntry d entry targets twice head bound =
    (at : State) → IsTrue (d.is_state at) → IsUnderSymbols d targets twice head entry.place at (pair_cost d entry at) bound

-- a bound is at most what any symbols of a block count under a head, from whatever state, with the errors of the two outputs before the block
unfoldable pub IsUnderStates : Decoder → State → List ℤ → ℕ → ℕ → ℕ → Type 0
IsUnderStates d aim targets twice head bound =
    (at : State) → IsTrue (d.is_state at) → IsUnderSymbols d targets twice head 0 at (entering_cost d aim at) bound

-- how many outputs are tried around a target: the nearest sixteen on each side and the one between
abbrev pub tried : ℕ
tried = 33

-- what an output costs, at least, that is further from a target than those
abbrev pub far_cost : ℤ → ℕ
far_cost scale = 256 * square_of scale

-- the outputs around a target begin with `first`
pub record IsNear (scale target first : ℤ) : Type 0 where
  pub low : negsuc 65535 ≤ℤ first
  pub high : first ≤ℤ pos 65535
  pub below : (y : ℤ) → y <ℤ first → far_cost scale ≤ square_of (scale *ℤ y -ℤ target)
  pub above : (y : ℤ) → (first +ℤ pos tried) ≤ℤ y → far_cost scale ≤ square_of (scale *ℤ y -ℤ target)

-- the same windows of fewer places
abbrev pub shortened : Windows → ℕ → Windows
shortened b places = record b { places = places }
