-- The nearest code of a state, from what each code gives after it.
use Rattle.std.proofs.Common.{◌≡◌, ℕ, ◌<◌, ap, sym, ◌∙◌}
use Rattle.std.specs.Prelude.{ℤ, pos, ◌*ℤ◌, ◌-ℤ◌}
use Rattle.adpcm_nums.specs.Nums.{square_of}
use Rattle.adpcm_nums.specs.Least.{first_least}
use Rattle.machine_core.specs.declared.state.State.{State}
use Rattle.machine_core.specs.declared.taken.Taken.{Taken}
use Rattle.machine_core.specs.Nearest.{symbol_cost, nearest_symbol, taken}
use Rattle.linear_machine.specs.Linear.{Linear, IsLinear}
use Rattle.linear_machine.specs.Nearest.{code_cost, nearest_code}
use Rattle.linear_machine.specs.Laws.Codes.{equal-functions}
use Rattle.linear_machine.specs.Laws.Steps.{state_of}

-- what is made of three equal numbers is the same
pub ap-three : {D : Type 0} (f : ℕ → ℤ → ℤ → D) (s s' : ℕ) (p p' t t' : ℤ) → s ≡ s' → p ≡ p' → t ≡ t' → f s p t ≡ f s' p' t'
ap-three f s s' p p' t t' a b c = ap (λ x. f x p t) a ∙ ap (λ x. f s' x t) b ∙ ap (f s' p') c

-- what each code gives after a state, on top of its prediction
abbrev pub Gives : Linear → ℕ → State → (ℕ → ℤ) → Type 0
Gives l head from output = (code : ℕ) → output code ≡ l.output head code from.a from.b

-- after a state a code costs what it costs on top of the state's prediction
same-cost : (l : Linear) → IsLinear l → (head place : ℕ) (from : State) (target : ℤ) (output : ℕ → ℤ) → Gives l head from output
    → code_cost l.decoder.scale output target ≡ symbol_cost l.decoder head place from target
same-cost l is head place from target output gives =
    equal-functions (code_cost l.decoder.scale output target) (symbol_cost l.decoder head place from target)
    (λ code. ap (λ (y : ℤ). square_of (pos l.decoder.scale *ℤ y -ℤ target)) (gives code ∙ sym (ap (λ (s : State). s.a) (is.steps head place code from))))

pub nearest-is : (l : Linear) → IsLinear l → (head place : ℕ) (from : State) (target : ℤ) (output : ℕ → ℤ) → place < l.decoder.samples → Gives l head from output
    → nearest_code l.decoder.scale output target ≡ nearest_symbol l.decoder head place from target
nearest-is l is head place from target output within gives =
    ap (λ f. first_least f 16) (same-cost l is head place from target output gives) ∙ ap (first_least (symbol_cost l.decoder head place from target)) (sym (is.codes place within))

-- what is taken of a prediction is what is taken of the state
pub taken-is : (l : Linear) → IsLinear l → (head place : ℕ) (from : State) (target : ℤ) (output : ℕ → ℤ) → place < l.decoder.samples → Gives l head from output
    → (symbol : ℕ) (y : ℤ) (cost : ℕ) → symbol ≡ nearest_code l.decoder.scale output target → y ≡ output symbol → cost ≡ square_of (pos l.decoder.scale *ℤ y -ℤ target)
    → record { symbol = symbol; state = record { a = y; b = from.a }; cost = cost } ≡ taken l.decoder head place from target
taken-is l is head place from target output within gives symbol y cost picked heard costs =
    let d = l.decoder in
    let best = nearest_symbol d head place from target in
    let mk : ℕ → State → ℕ → Taken = λ s at k. record { symbol = s; state = at; cost = k } in
    let same : symbol ≡ best = picked ∙ nearest-is l is head place from target output within gives in
    let out : y ≡ l.output head best from.a from.b = heard ∙ ap output same ∙ gives best in
    let after : state_of y from.a ≡ d.step head place best from = ap (λ (z : ℤ). state_of z from.a) out ∙ sym (is.steps head place best from) in
    ap (λ s. mk s (state_of y from.a) cost) same
    ∙ (ap (λ at. mk best at cost) after
    ∙ ap (mk best (d.step head place best from)) (costs ∙ ap (λ (at : State). square_of (pos d.scale *ℤ at.a -ℤ target)) after))
