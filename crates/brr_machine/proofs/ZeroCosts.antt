-- Under filter 0 a code costs what it costs on top of the prediction 0.
use Rattle.std.proofs.Common.{◌≡◌, ℕ, ◌/◌, ◌%◌, ◌<◌, arith, refl, ap, sym, ◌∙◌, List, get_or}
use Rattle.std.specs.Prelude.{ℤ, pos}
use Rattle.adpcm_nums.specs.Least.{first_least}
use Rattle.machine_core.specs.declared.state.State.{State}
use Rattle.machine_core.specs.Decoder.{start}
use Rattle.machine_core.specs.Nearest.{symbol_cost}
use Rattle.machine_core.specs.Blocks.{Blocks, state_at, symbol_at}
use Rattle.machine_core.specs.Sums.{cost_at}
use Rattle.brr_machine.specs.Brr.{brr, brr_step, output_of, raw_of, prediction_of, shift_of, filter_of}
use Rattle.brr_machine.specs.Laws.Forgetting.{predicts-nothing}
use Rattle.brr_machine.specs.Predicted.{predicted_output, predicted_cost, nearest_predicted}
use Rattle.brr_machine.specs.Zero.{zero_head, code_cost, nearest_code}

-- a head of filter 0 has filter 0, and its shift
zero-filter : (shift : ℕ) → filter_of (zero_head shift) ≡ 0
zero-filter shift = omega arith

zero-shift : (shift : ℕ) → shift_of (zero_head shift) ≡ shift
zero-shift shift = omega arith

-- after a state a code costs what it costs on top of the state's prediction
same-cost : (head place : ℕ) (from : State) (target : ℤ) → predicted_cost (shift_of head) (prediction_of (filter_of head) from.a from.b) target ≡ symbol_cost brr head place from target
unfolding brr_step output_of raw_of predicted_output predicted_cost
same-cost head place from target = refl

-- whatever the place and the history are
any-history : (shift place : ℕ) (from : State) (target : ℤ) → predicted_cost shift (pos 0) target ≡ symbol_cost brr (zero_head shift) place from target
any-history shift place from target =
    ap (λ (n : ℕ). predicted_cost n (pos 0) target) (sym (zero-shift shift))
    ∙ ap (λ (p : ℤ). predicted_cost (shift_of (zero_head shift)) p target) (sym (predicts-nothing (filter_of (zero_head shift)) from.a from.b (zero-filter shift)))
    ∙ same-cost (zero_head shift) place from target

-- and so in the words of the best block
pub predicted-zero : (shift : ℕ) (target : ℤ) → predicted_cost shift (pos 0) target ≡ code_cost shift target
predicted-zero shift target = any-history shift 0 start target

-- the nearest code is that on top of the prediction 0
pub nearest-zero : (shift : ℕ) (target : ℤ) → nearest_predicted shift (pos 0) target ≡ nearest_code shift target
unfolding nearest_predicted
nearest-zero shift target = ap (λ f. first_least f 16) (predicted-zero shift target)

-- a code costs what it costs at the start
cost-zero : (shift place code : ℕ) (from : State) (target : ℤ) → symbol_cost brr (zero_head shift) place from target code ≡ code_cost shift target code
cost-zero shift place code from target = ap (λ (f : ℕ → ℕ). f code) (sym (any-history shift place from target) ∙ predicted-zero shift target)

-- what the code at a place of a block costs
cost-under : (head shift : ℕ) (place code : ℕ) (from : State) (target : ℤ) → head ≡ zero_head shift
    → symbol_cost brr head place from target code ≡ code_cost shift target code
cost-under head shift place code from target e =
    ap (λ (h : ℕ). symbol_cost brr h place from target code) e ∙ cost-zero shift place code from target

-- the first sixteen samples lie in the first block
first-block : (k : ℕ) → k < 16 → k / 16 ≡ 0
first-block k h = omega arith

-- what the code at a place of the first block of a list costs
pub cost_at-zero : (list : Blocks) (targets : List ℤ) (shift k : ℕ) → get_or list.heads 0 0 ≡ zero_head shift → k < 16
    → cost_at brr list targets k ≡ code_cost shift (get_or targets k (pos 0)) (symbol_at list k)
cost_at-zero list targets shift k e h =
    cost-under (get_or list.heads (k / 16) 0) shift (k % 16) (symbol_at list k) (state_at brr list start k) (get_or targets k (pos 0))
    (ap (λ (b : ℕ). get_or list.heads b 0) (first-block k h) ∙ e)
