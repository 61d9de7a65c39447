-- What the codes of a block count from a place on, one step after another.
use Rattle.std.proofs.Common.{◌≡◌, ℕ, suc, ◌+◌, ◌-◌, ◌*◌, ◌<◌, ◌≤◌, arith, ap, sym, subst, ◌∙◌, inl, inr, IsTrue, List, get_or, nat_lt, true, false}
use Rattle.std.specs.Prelude.{ℤ, pos}
use Rattle.std.proofs.lemmas.Bool.{cases_lt, cond-true, cond-false}
use Rattle.std.proofs.lemmas.Bool.Decides.{nat_tests}
use Rattle.machine_core.specs.declared.state.State.{State}
use Rattle.machine_core.specs.Decoder.{Decoder, cost_of, miss}
use Rattle.machine_core.specs.Rules.{Rules, IsMachine, tail_cost}
use Rattle.strong_bound.specs.Quiet.{times_at, AreSymbols, count_from, IsUnderSymbols, IsUnderRest, HoldsRests}

-- the costs of some places, of which the first is told
tail-step : (d : Decoder) (targets : List ℤ) (head : ℕ) (symbol : ℕ → ℕ) (p : ℕ) (at : State) (n : ℕ) → p < n
    → tail_cost d (miss d targets) head symbol p at (n - p) ≡ cost_of d (d.step head p (symbol p) at) (get_or targets p (pos 0)) + tail_cost d (miss d targets) head symbol (p + 1) (d.step head p (symbol p) at) (n - (p + 1))
tail-step d targets head symbol p at n h = ap (tail_cost d (miss d targets) head symbol p at) (let e : n - p ≡ suc (n - (p + 1)) = omega (arith, h) in e)

-- none of the first places is left
tail-none : (d : Decoder) (targets : List ℤ) (head : ℕ) (symbol : ℕ → ℕ) (p : ℕ) (at : State) (n : ℕ) → n ≤ p → tail_cost d (miss d targets) head symbol p at (n - p) ≡ 0
tail-none d targets head symbol p at n h = ap (tail_cost d (miss d targets) head symbol p at) (let e : n - p ≡ 0 = omega (arith, h) in e)

twice-is : (twice p : ℕ) → p < twice → times_at twice p ≡ 2
unfolding times_at
twice-is twice p h = let e : nat_lt p twice ≡ true = grind (arith, nat_tests) in cond-true _ _ _ e

once-is : (twice p : ℕ) → twice ≤ p → times_at twice p ≡ 1
unfolding times_at
once-is twice p h = let e : nat_lt p twice ≡ false = grind (arith, nat_tests) in cond-false _ _ _ e

sums-twice : (x y c r s t : ℕ) → x ≡ c + r → y ≡ c + s → t ≡ 2 → x + y ≡ t * c + (r + s)
sums-twice x y c r s t e g h = let k : t * c ≡ 2 * c = ap (λ z. z * c) h in omega (arith, e, g, k)

sums-once : (x y c r s t : ℕ) → x ≡ c + r → y ≡ 0 → s ≡ 0 → t ≡ 1 → x + y ≡ t * c + (r + s)
sums-once x y c r s t e g f h = let k : t * c ≡ 1 * c = ap (λ z. z * c) h in omega (arith, e, g, f, k)

-- what a place counts, and what comes behind it
pub count-step : (d : Decoder) (targets : List ℤ) (twice head : ℕ) (symbol : ℕ → ℕ) (p : ℕ) (at : State) → p < d.samples
    → count_from d targets twice head symbol p at ≡ times_at twice p * cost_of d (d.step head p (symbol p) at) (get_or targets p (pos 0)) + count_from d targets twice head symbol (p + 1) (d.step head p (symbol p) at)
unfolding count_from
count-step d targets twice head symbol p at h = elim (cases_lt p twice) [
  | inl w ↦ sums-twice _ _ _ _ _ _ (tail-step d targets head symbol p at d.samples h) (tail-step d targets head symbol p at twice w) (twice-is twice p w)
  | inr w ↦ sums-once _ _ _ _ _ _ (tail-step d targets head symbol p at d.samples h) (tail-none d targets head symbol p at twice w)
      (tail-none d targets head symbol (p + 1) (d.step head p (symbol p) at) twice (omega (arith, w))) (once-is twice p w)
]

-- a bound is at most what symbols count that begin with one of the first n
unfoldable pub IsUnderFirst : Decoder → List ℤ → ℕ → ℕ → ℕ → State → ℕ → ℕ → ℕ → Type 0
IsUnderFirst d targets twice head p at paid n bound = (symbol : ℕ → ℕ) → AreSymbols d symbol → symbol p < n → bound ≤ paid + count_from d targets twice head symbol p at

pub first-none : (d : Decoder) (targets : List ℤ) (twice head p : ℕ) (at : State) (paid bound : ℕ) → IsUnderFirst d targets twice head p at paid 0 bound
unfolding IsUnderFirst
first-none d targets twice head p at paid bound = λ symbol are h. absurd (omega (arith, h))

more : (bound less paid counted t c rest all : ℕ) → counted ≤ paid + t * c → less ≤ counted + rest → all ≡ t * c + rest → less ≤ paid + all
more bound less paid counted t c rest all h k e = omega (arith, h, k, e)

-- one more symbol
pub first-more : (d : Decoder) (targets : List ℤ) (twice head p : ℕ) (at : State) (paid n bound less counted cost : ℕ) (next : State) → p < d.samples → IsUnderFirst d targets twice head p at paid n bound → less ≤ bound
    → next ≡ d.step head p n at → cost ≡ cost_of d next (get_or targets p (pos 0)) → counted ≤ paid + times_at twice p * cost → IsUnderSymbols d targets twice head (p + 1) next counted less
    → IsUnderFirst d targets twice head p at paid (n + 1) less
unfolding IsUnderFirst IsUnderSymbols
first-more d targets twice head p at paid n bound less counted cost next h front low step costs counts under = λ symbol are within.
    elim (cases_lt (symbol p) n) [
      | inl w ↦ (let k = front symbol are w in omega (arith, k, low))
      | inr w ↦ (
          let same : symbol p ≡ n = omega (arith, w, within) in
          let to : next ≡ d.step head p (symbol p) at = step ∙ ap (λ z. d.step head p z at) (sym same) in
          let all = count-step d targets twice head symbol p at h in
          let rest = under symbol are in
          let pays = subst (λ (z : ℕ). counted ≤ paid + times_at twice p * z) (costs ∙ ap (λ (z : State). cost_of d z (get_or targets p (pos 0))) to) counts in
          let behind = subst (λ (z : State). less ≤ counted + count_from d targets twice head symbol (p + 1) z) to rest in
          more bound less paid counted (times_at twice p) (cost_of d (d.step head p (symbol p) at) (get_or targets p (pos 0))) (count_from d targets twice head symbol (p + 1) (d.step head p (symbol p) at)) _ pays behind all)
    ]

-- all symbols
pub first-all : (d : Decoder) (targets : List ℤ) (twice head p : ℕ) (at : State) (paid n bound : ℕ) → p < d.samples → d.symbols p ≤ n → IsUnderFirst d targets twice head p at paid n bound → IsUnderSymbols d targets twice head p at paid bound
unfolding IsUnderFirst IsUnderSymbols
first-all d targets twice head p at paid n bound h all under = λ symbol are. (let k = are p h in under symbol are (omega (arith, k, all)))

-- what is known of the rest bounds what is not gone on with
pub rest-under : (d : Decoder) (targets : List ℤ) (twice head : ℕ) (rests : List ℕ) (p : ℕ) (at : State) (paid bound : ℕ) → HoldsRests d targets twice head rests → p ≤ d.samples → IsTrue (d.is_state at) → bound ≤ paid + get_or rests p 0
    → IsUnderSymbols d targets twice head p at paid bound
unfolding HoldsRests IsUnderRest IsUnderSymbols
rest-under d targets twice head rests p at paid bound holds h fits low = λ symbol are. (let k = holds p h at fits symbol are in omega (arith, k, low))

-- a step's state
pub steps-to : (r : Rules) → IsMachine r → (head p symbol : ℕ) (at next : State) → next ≡ r.decoder.step head p symbol at → head < r.decoder.heads → p < r.decoder.samples → symbol < r.decoder.symbols p → IsTrue (r.decoder.is_state at) → IsTrue (r.decoder.is_state next)
steps-to r laws head p symbol at next e head_fits within symbol_fits fits = subst (λ (s : State). IsTrue (r.decoder.is_state s)) (sym e) (laws.steps head p symbol at head_fits within symbol_fits fits)

-- a lower bound, or more that was counted before
pub under-more : (d : Decoder) (targets : List ℤ) (twice head p : ℕ) (at : State) (paid all bound less : ℕ) → paid ≤ all → less ≤ bound → IsUnderSymbols d targets twice head p at paid bound → IsUnderSymbols d targets twice head p at all less
unfolding IsUnderSymbols
under-more d targets twice head p at paid all bound less h low under = λ symbol are. (let k = under symbol are in omega (arith, k, h, low))
