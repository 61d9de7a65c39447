-- A block's outputs, one more at a time.
use Rattle.std.proofs.Common.{◌≡◌, ℕ, suc, ◌+◌, ◌<◌, List, length, set, get_or, arith, sym, ap, ◌∙◌, add-one, below_more, ◌≢◌}
use Rattle.std.proofs.lemmas.List.{get_or-set_other, get_or-set_same}
use Rattle.std.specs.Prelude.{ℤ, pos}
use Rattle.machine_core.specs.declared.state.State.{State}
use Rattle.machine_core.specs.Decoder.{Decoder, run}

-- the state after one more sample
pub run_more : (d : Decoder) (head : ℕ) (symbol : ℕ → ℕ) (from : State) (place : ℕ) (at next : State) → at ≡ run d head symbol from place
    → next ≡ d.step head place (symbol place) at → next ≡ run d head symbol from (place + 1)
run_more d head symbol from place at next is steps = steps ∙ ap (d.step head place (symbol place)) is ∙ ap (run d head symbol from) (sym (add-one place))

-- one more output
pub outputs_more : (d : Decoder) (head : ℕ) (symbol : ℕ → ℕ) (from : State) (place : ℕ) (next : State) (outputs : List ℤ) → next ≡ run d head symbol from (place + 1)
    → place < length outputs → ((k : ℕ) → k < place → get_or outputs k (pos 0) ≡ (run d head symbol from (suc k)).a)
    → (k : ℕ) → k < place + 1 → get_or (set outputs place next.a) k (pos 0) ≡ (run d head symbol from (suc k)).a
outputs_more d head symbol from place next outputs is within front =
    let P : ℕ → Type 0 = λ k. get_or (set outputs place next.a) k (pos 0) ≡ (run d head symbol from (suc k)).a in
    below_more P place
    (λ k h. let other : k ≢ place = omega arith in get_or-set_other outputs place k next.a (pos 0) other ∙ front k h)
    (get_or-set_same outputs place next.a (pos 0) within ∙ ap (λ (s : State). s.a) (is ∙ ap (run d head symbol from) (add-one place)))
