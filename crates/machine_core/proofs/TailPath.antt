-- The states that a block goes through from a place on, and what they cost.
use Rattle.std.proofs.Common.{◌≡◌, ℕ, zero, suc, ◌+◌, ◌≤◌, arith, refl, ap, sym, ◌∙◌, if◌then◌else◌}
use Rattle.std.specs.Prelude.{nat_le, ℤ}
use Rattle.std.proofs.lemmas.Bool.{le-leb, lt-leb, cond-true, cond-false}
use Rattle.adpcm_nums.specs.RangeSum.{sum_range}
use Rattle.machine_core.specs.declared.state.State.{State}
use Rattle.machine_core.specs.Decoder.{Decoder}
use Rattle.machine_core.specs.Rules.{tail_cost}

-- the state before place q of a block under a head that has the state `at` before place p
unfoldable pub path : Decoder → ℕ → (ℕ → ℕ) → ℕ → State → ℕ → State
path d head symbol p at zero = at
path d head symbol p at (suc q) = if nat_le p q then d.step head q (symbol q) (path d head symbol p at q) else at

-- the path begins with that state
pub path-first : (d : Decoder) (head : ℕ) (symbol : ℕ → ℕ) (p : ℕ) (at : State) → path d head symbol p at p ≡ at
unfolding path
path-first d head symbol zero at = refl
path-first d head symbol (suc p) at = cond-false _ _ _ (lt-leb (suc p) p (omega arith))

-- and goes on by a step a place
pub path-next : (d : Decoder) (head : ℕ) (symbol : ℕ → ℕ) (p : ℕ) (at : State) (q : ℕ) → p ≤ q
    → path d head symbol p at (suc q) ≡ d.step head q (symbol q) (path d head symbol p at q)
unfolding path
path-next d head symbol p at q h = cond-true _ _ _ (le-leb p q h)

-- where each state is a step from the one before it, the cost of the places from p on is the sum of what the states cost
tail-sum-of : (d : Decoder) (cost : ℕ → State → ℕ) (head : ℕ) (symbol : ℕ → ℕ) (s : ℕ → State) (p n : ℕ)
    → ((q : ℕ) → p ≤ q → s (suc q) ≡ d.step head q (symbol q) (s q))
    → tail_cost d cost head symbol p (s p) n ≡ sum_range (λ q. cost q (s (suc q))) p n
tail-sum-of d cost head symbol s p zero steps = refl
tail-sum-of d cost head symbol s p (suc n) steps =
    let ih = tail-sum-of d cost head symbol s (suc p) n (λ q h. steps q (omega arith)) in
    let here = steps p (omega arith) in
    let first = ap (cost p) here in
    let place : p + 1 ≡ suc p = omega arith in
    let rest : tail_cost d cost head symbol (p + 1) (d.step head p (symbol p) (s p)) n ≡ tail_cost d cost head symbol (suc p) (s (suc p)) n =
    ap (λ z. tail_cost d cost head symbol z (d.step head p (symbol p) (s p)) n) place ∙ ap (λ z. tail_cost d cost head symbol (suc p) z n) (sym here) in
    omega (arith, ih, first, rest)

-- the cost of `n` places from p on, as a sum over places
pub tail-sum : (d : Decoder) (cost : ℕ → State → ℕ) (head : ℕ) (symbol : ℕ → ℕ) (p : ℕ) (at : State) (n : ℕ)
    → tail_cost d cost head symbol p at n ≡ sum_range (λ q. cost q (path d head symbol p at (suc q))) p n
tail-sum d cost head symbol p at n =
    let from = path-first d head symbol p at in
    sym (ap (λ z. tail_cost d cost head symbol p z n) from) ∙ tail-sum-of d cost head symbol (path d head symbol p at) p n (path-next d head symbol p at)

-- a state keeps the last two outputs: a step's output comes of the code and of both, and the last one becomes the one before it
pub record KeepsOutputs (d : Decoder) (output : ℕ → ℕ → ℤ → ℤ → ℤ) : Type 0 where
  pub next : (head p symbol : ℕ) (at : State) → (d.step head p symbol at).a ≡ output head symbol at.a at.b
  pub older : (head p symbol : ℕ) (at : State) → (d.step head p symbol at).b ≡ at.a

-- the outputs of the places from p on
abbrev pub outputs : Decoder → ℕ → (ℕ → ℕ) → ℕ → State → ℕ → ℤ
outputs d head symbol p at q = (path d head symbol p at (suc q)).a

-- an output in the numbers of the state before it
pub output-next : (d : Decoder) (output : ℕ → ℕ → ℤ → ℤ → ℤ) → KeepsOutputs d output → (head : ℕ) (symbol : ℕ → ℕ) (p : ℕ) (at : State) (q : ℕ) → p ≤ q
    → outputs d head symbol p at q ≡ output head (symbol q) (path d head symbol p at q).a (path d head symbol p at q).b
output-next d output keeps head symbol p at q h = ap (λ (s : State). s.a) (path-next d head symbol p at q h) ∙ keeps.next head q (symbol q) (path d head symbol p at q)

-- and the one two places later in the numbers of the two before it
pub output-third : (d : Decoder) (output : ℕ → ℕ → ℤ → ℤ → ℤ) → KeepsOutputs d output → (head : ℕ) (symbol : ℕ → ℕ) (p : ℕ) (at : State) (q : ℕ) → p ≤ q
    → outputs d head symbol p at (suc (suc q)) ≡ output head (symbol (suc (suc q))) (outputs d head symbol p at (suc q)) (outputs d head symbol p at q)
output-third d output keeps head symbol p at q h =
    let older = ap (λ (s : State). s.b) (path-next d head symbol p at (suc q) (omega arith)) ∙ keeps.older head (suc q) (symbol (suc q)) (path d head symbol p at (suc q)) in
    output-next d output keeps head symbol p at (suc (suc q)) (omega arith) ∙ ap (output head (symbol (suc (suc q))) (outputs d head symbol p at (suc q))) older
