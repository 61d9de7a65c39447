-- Laws of a block each of whose symbols is the nearest.
use Rattle.std.proofs.Common.{◌≡◌, ◌++◌, ◌∷◌, [], map, append_assoc, ℕ, zero, suc, ◌+◌, ◌*◌, ◌^◌, ◌<◌, ◌≤◌, ℤ, pos, IsTrue, List, get_or, refl, ap, sym, ◌∙◌, subst, add-one, arith, inl, inr}
use Rattle.std.proofs.Common.{to_z, of_z}
use Rattle.std.proofs.lemmas.Bool.{cases_lt}
use Rattle.std.proofs.lemmas.Int.{ints}
use mir.Syntax.{w32}
use Rattle.std.specs.List.{range_with_len}
use Rattle.std.proofs.lemmas.List.Elements.{All-get_or}
use Rattle.std.proofs.lemmas.List.FromFn.{map-range_with_len_more}
use Rattle.adpcm_nums.specs.Least.{first_least}
use Rattle.adpcm_nums.specs.Sample.{IsSample}
use Rattle.adpcm_nums.proofs.LeastLaws.{first_least-is}
use Rattle.machine_core.specs.declared.state.State.{State}
use Rattle.machine_core.specs.Decoder.{Decoder, cost_of}
use Rattle.machine_core.specs.declared.taken.Taken.{Taken}
use Rattle.machine_core.specs.Nearest.{symbol_cost, nearest_symbol, taken}
use Rattle.machine_core.specs.Rules.{Rules, IsMachine}
use Rattle.beam_encoder.specs.Near.{IsBlock, near_state, near_symbol, near_sum}

-- the first least of some numbers is one of them
pub first_least-within : (f : ℕ → ℕ) (n : ℕ) → 0 < n → first_least f n < n
first_least-within f zero some = absurd (omega arith)
first_least-within f (suc n) some = (first_least-is f n).within

-- and none is less
pub first_least-least : (f : ℕ → ℕ) (n k : ℕ) → k < n → f (first_least f n) ≤ f k
first_least-least f zero k within = absurd (omega arith)
first_least-least f (suc n) k within = (first_least-is f n).least k within

-- the nearest symbol is one of the place's
pub nearest-fits : (r : Rules) → IsMachine r → (head p : ℕ) (at : State) (target : ℤ) → p < r.decoder.samples
    → nearest_symbol r.decoder head p at target < r.decoder.symbols p
nearest-fits r laws head p at target within =
    first_least-within (symbol_cost r.decoder head p at target) (r.decoder.symbols p) (laws.some_symbols p within)

-- what is taken leads on by the decoder's step
pub taken_steps : (d : Decoder) (head p : ℕ) (from : State) (target : ℤ) (t : Taken) → t ≡ taken d head p from target → t.state ≡ d.step head p t.symbol from
taken_steps d head p from target t e = ap (λ (t : Taken). t.state) e ∙ ap (λ s. d.step head p s from) (sym (ap (λ (t : Taken). t.symbol) e))

-- at the cost of the state after it
pub taken_costs : (d : Decoder) (head p : ℕ) (from : State) (target : ℤ) (t : Taken) → t ≡ taken d head p from target → t.cost ≡ cost_of d t.state target
taken_costs d head p from target t e = ap (λ (t : Taken). t.cost) e ∙ ap (λ s. cost_of d s target) (sym (ap (λ (t : Taken). t.state) e))

-- which is a state
pub taken_fits : (r : Rules) → IsMachine r → (head p : ℕ) (from : State) (target : ℤ) (t : Taken) → t ≡ taken r.decoder head p from target
    → head < r.decoder.heads → p < r.decoder.samples → IsTrue (r.decoder.is_state from) → IsTrue (r.decoder.is_state t.state)
taken_fits r laws head p from target t e head_fits within at =
    subst (λ (s : State). IsTrue (r.decoder.is_state s)) (sym (ap (λ (t : Taken). t.state) e)) (laws.steps head p _ from head_fits within (nearest-fits r laws head p from target within) at)

-- the states of a block are states
pub near_state-fits : (r : Rules) → IsMachine r → (head : ℕ) (block : List ℤ) (from : State) (p : ℕ) → head < r.decoder.heads
    → p ≤ r.decoder.samples → IsTrue (r.decoder.is_state from) → IsTrue (r.decoder.is_state (near_state r.decoder head block from p))
unfolding near_state
near_state-fits r laws head block from zero head_fits within at = at
near_state-fits r laws head block from (suc p) head_fits within at =
    let before = near_state-fits r laws head block from p head_fits (omega arith) at in
    let below : p < r.decoder.samples = omega arith in
    laws.steps head p _ _ head_fits below (nearest-fits r laws head p _ _ below) before

-- a block's cost is small
pub near_sum-small : (r : Rules) → IsMachine r → (head : ℕ) (block : List ℤ) (from : State) (p : ℕ) → head < r.decoder.heads
    → p ≤ r.decoder.samples → IsBlock r.decoder block → IsTrue (r.decoder.is_state from) → near_sum r.decoder head block from p ≤ p * 2 ^ 32
unfolding near_sum
near_sum-small r laws head block from zero head_fits within b at = omega arith
near_sum-small r laws head block from (suc p) head_fits within b at =
    let before = near_sum-small r laws head block from p head_fits (omega arith) b at in
    let state = near_state-fits r laws head block from (suc p) head_fits within at in
    let target = All-get_or IsSample block p (pos 0) (let e = b.count in omega arith) b.range in
    let here = laws.costs_small _ _ state target in
    omega (arith, before, here)

-- a block's cost grows from place to place
pub near_sum-grows : (d : Decoder) (head : ℕ) (block : List ℤ) (from : State) (p q : ℕ) → p ≤ q → near_sum d head block from p ≤ near_sum d head block from q
unfolding near_sum
near_sum-grows d head block from p zero below = let e : p ≡ 0 = omega arith in let same = ap (near_sum d head block from) e in omega (arith, same)
near_sum-grows d head block from p (suc q) below =
    elim (cases_lt p (suc q)) [
      | inl less ↦ (let before = near_sum-grows d head block from p q (omega arith) in omega (arith, before))
      | inr not_less ↦ (let e : p ≡ suc q = omega arith in let same = ap (near_sum d head block from) e in omega (arith, same))
    ]

-- the same of a symbol that was found
pub symbol_fits : (r : Rules) → IsMachine r → (head p : ℕ) (at : State) (target : ℤ) (symbol : ℕ) → symbol ≡ nearest_symbol r.decoder head p at target
    → p < r.decoder.samples → symbol < r.decoder.symbols p
symbol_fits r laws head p at target symbol nearest within = let h = nearest-fits r laws head p at target within in omega (arith, nearest, h)

-- and of the state after it
pub state_fits : (r : Rules) → IsMachine r → (head p symbol : ℕ) (at next : State) → next ≡ r.decoder.step head p symbol at → head < r.decoder.heads
    → p < r.decoder.samples → symbol < r.decoder.symbols p → IsTrue (r.decoder.is_state at) → IsTrue (r.decoder.is_state next)
state_fits r laws head p symbol at next steps head_fits within fits at_fits = rw steps (laws.steps head p symbol at head_fits within fits at_fits)

-- a sample that was read is the sample
pub sample_same : (x : ℤ) → IsSample x → to_z w32 (of_z w32 x) ≡ x
sample_same x here = let low = here.low in let high = here.high in omega (arith, ints)

-- a target that was read of a block
pub target_same : (d : Decoder) (block : List ℤ) (p : ℕ) → IsBlock d block → p < d.samples → to_z w32 (of_z w32 (get_or block p (pos 0))) ≡ get_or block p (pos 0)
target_same d block p b within = sample_same _ (All-get_or IsSample block p (pos 0) (let e = b.count in omega arith) b.range)

-- what the first p places of a block have led to: the state and the cost so far
pub record IsNear (d : Decoder) (head : ℕ) (block : List ℤ) (from : State) (p : ℕ) (at : State) (cost : ℕ) : Type 0 where
  pub state : at ≡ near_state d head block from p
  pub sum : cost ≡ near_sum d head block from p

-- no place so far
pub near_none : (d : Decoder) (head : ℕ) (block : List ℤ) (from : State) → IsNear d head block from 0 from 0
unfolding near_state near_sum
near_none d head block from = record { state = refl; sum = refl }

-- one more place
pub near_more : (d : Decoder) (head : ℕ) (block : List ℤ) (from : State) (p : ℕ) (at : State) (sum symbol : ℕ) (next : State) (cost : ℕ)
    → IsBlock d block → p < d.samples → IsNear d head block from p at sum
    → symbol ≡ nearest_symbol d head p at (to_z w32 (of_z w32 (get_or block p (pos 0)))) → next ≡ d.step head p symbol at
    → cost ≡ cost_of d next (to_z w32 (of_z w32 (get_or block p (pos 0)))) → IsNear d head block from (p + 1) next (sum + cost)
unfolding near_state near_sum
near_more d head block from p at sum symbol next cost b within near nearest steps costs =
    let same = target_same d block p b within in
    let state : next ≡ near_state d head block from (p + 1) = rw (add-one, steps, nearest, near.state, same) refl in
    record {
      state = state;
      sum = rw (add-one, near.sum, costs, same, state, add-one) refl;
    }

-- so the symbols are the nearest ones
pub near_symbol-more : (d : Decoder) (head : ℕ) (block : List ℤ) (from : State) (p : ℕ) (at : State) (sum symbol : ℕ) (before now after : List ℕ)
    → IsBlock d block → p < d.samples → IsNear d head block from p at sum
    → symbol ≡ nearest_symbol d head p at (to_z w32 (of_z w32 (get_or block p (pos 0))))
    → now ≡ before ++ map (near_symbol d head block from) (range_with_len 0 p) → after ≡ now ++ symbol ∷ []
    → after ≡ before ++ map (near_symbol d head block from) (range_with_len 0 (p + 1))
unfolding near_symbol
near_symbol-more d head block from p at sum symbol before now after b within near nearest so_far pushed =
    let same = target_same d block p b within in
    let here : symbol ≡ near_symbol d head block from p = rw (nearest, near.state, same) refl in
    let more = map-range_with_len_more (near_symbol d head block from) 0 p p (omega arith) in
    rw (pushed, so_far, more, here) (append_assoc before _ _)

-- a whole block costs little
pub block-small : (r : Rules) → IsMachine r → (head : ℕ) (block : List ℤ) (from : State) → head < r.decoder.heads
    → IsBlock r.decoder block → IsTrue (r.decoder.is_state from) → near_sum r.decoder head block from r.decoder.samples ≤ r.decoder.samples * 2 ^ 32
block-small r laws head block from head_fits b at = near_sum-small r laws head block from r.decoder.samples head_fits (omega arith) b at

pub block-few : (r : Rules) → IsMachine r → (head : ℕ) (block : List ℤ) (from : State) → head < r.decoder.heads
    → IsBlock r.decoder block → IsTrue (r.decoder.is_state from) → near_sum r.decoder head block from r.decoder.samples ≤ 2 ^ 50
block-few r laws head block from head_fits b at =
    let small = block-small r laws head block from head_fits b at in
    let few = b.few in let count = b.count in omega (arith, small)
