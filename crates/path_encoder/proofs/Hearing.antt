-- A list of blocks is heard sample by sample: what is left to hear, and that sums stay small.
use Rattle.std.proofs.Common.{◌≡◌, ℕ, suc, ◌+◌, ◌*◌, ◌-◌, ◌^◌, ◌<◌, ◌≤◌, ℤ, List, length, arith, ap, ◌∙◌}
use Rattle.adpcm_nums.specs.Sample.{AreSamples}
use Rattle.machine_core.specs.declared.state.State.{State}
use Rattle.machine_core.specs.Decoder.{Decoder, miss, start}
use Rattle.machine_core.specs.Blocks.{Blocks, IsInRange, step_at}
use Rattle.machine_core.specs.Rules.{Rules, IsMachine}
use Rattle.machine_core.specs.Sums.{sum_after}
use Rattle.machine_core.proofs.States.{sum-small}

-- what is left to hear begins with the next sample
pub heard-on : (d : Decoder) (targets : List ℤ) (list : Blocks) (at next : State) (i size sum cost whole : ℕ) → i < size → next ≡ step_at d list i at → cost ≡ miss d targets i next
    → sum + sum_after d (miss d targets) list at i (size - i) ≡ whole → (sum + cost) + sum_after d (miss d targets) list next (i + 1) (size - (i + 1)) ≡ whole
heard-on d targets list at next i size sum cost whole within e p left =
    let one : size - i ≡ suc (size - (i + 1)) = omega arith in
    let more : sum_after d (miss d targets) list at i (size - i) ≡ miss d targets i (step_at d list i at) + sum_after d (miss d targets) list (step_at d list i at) (suc i) (size - (i + 1)) =
    ap (sum_after d (miss d targets) list at i) one in
    let here : cost ≡ miss d targets i (step_at d list i at) = p ∙ ap (miss d targets i) e in
    let later : sum_after d (miss d targets) list next (i + 1) (size - (i + 1)) ≡ sum_after d (miss d targets) list (step_at d list i at) (suc i) (size - (i + 1)) =
    ap (λ z. sum_after d (miss d targets) list z (i + 1) (size - (i + 1))) e ∙ ap (λ z. sum_after d (miss d targets) list (step_at d list i at) z (size - (i + 1))) (omega arith) in
    omega (arith, left, more, here, later)

-- what was heard so far costs no more than all
pub heard-fits : (r : Rules) → IsMachine r → (blocks : ℕ) (list : Blocks) (targets : List ℤ) (at next : State) (i sum cost : ℕ) → IsInRange r.decoder blocks list → length targets ≡ blocks * r.decoder.samples
    → AreSamples targets → length targets ≤ 262144 → i < length targets → next ≡ step_at r.decoder list i at → cost ≡ miss r.decoder targets i next
    → sum + sum_after r.decoder (miss r.decoder targets) list at i (length targets - i) ≡ sum_after r.decoder (miss r.decoder targets) list start 0 (length targets) → sum + cost < 2 ^ 63
heard-fits r laws blocks list targets at next i sum cost fits count range few within e p left =
    let on = heard-on r.decoder targets list at next i (length targets) sum cost (sum_after r.decoder (miss r.decoder targets) list start 0 (length targets)) within e p left in
    let small = sum-small r laws blocks list targets fits count range start laws.start_fits 0 (length targets) (omega (arith, count)) in
    omega (arith, on, small, few)
