-- The floors of a block's windows are at most the cost of every continuation, and small.
use Rattle.std.proofs.Common.{◌≡◌, ℕ, suc, ◌+◌, ◌-◌, ◌*◌, ◌^◌, ◌<◌, ◌≤◌, arith, refl, ap, sym, subst, ◌∙◌}
use Rattle.std.specs.Prelude.{ℤ, List, ◌*ℤ◌, ◌-ℤ◌}
use Rattle.adpcm_nums.specs.Nums.{square_of}
use Rattle.adpcm_nums.specs.Sample.{AreSamples}
use Rattle.adpcm_nums.specs.RangeSum.{sum_range}
use Rattle.adpcm_nums.proofs.RangeSumLaws.{sum_range-same}
use Rattle.machine_core.specs.declared.state.State.{State}
use Rattle.machine_core.specs.Decoder.{miss}
use Rattle.machine_core.specs.Rules.{tail_cost}
use Rattle.machine_core.proofs.TailPath.{path, tail-sum, KeepsOutputs, outputs, output-next, output-third}
use Rattle.window_floor.specs.Floor.{output_cost}
use Rattle.window_floor.specs.Windows.{target_at, floor_from}
use Rattle.window_floor.specs.Following.{Follow}
use Rattle.window_floor.proofs.WindowLaws.{floor-below, follow-by}
use Rattle.window_floor.proofs.Outcomes.{outcome-of}
use Rattle.window_floor.proofs.WindowSizes.{floor-fits}
use Rattle.linear_machine.specs.Linear.{Linear, IsLinear}

-- a step keeps the last output
keeps : (l : Linear) → IsLinear l → KeepsOutputs l.decoder l.output
keeps l is = record {
  next = λ head p symbol at. ap (λ (s : State). s.a) (is.steps head p symbol at);
  older = λ head p symbol at. ap (λ (s : State). s.b) (is.steps head p symbol at);
}

-- outputs of a block follow one another as the head's filter says
pub follow : (l : Linear) → IsLinear l → (head p : ℕ) (symbol : ℕ → ℕ) (at : State) → ((q : ℕ) → q < l.decoder.samples → symbol q < 16)
    → Follow (l.windows head) p (outputs l.decoder head symbol p at)
follow l is head p symbol at fits =
    let d = l.decoder in
    follow-by (l.windows head) (l.output head) symbol p (outputs d head symbol p at) (λ q. (path d head symbol p at q).a) (λ q. (path d head symbol p at q).b)
    (λ size c o r within. record { code = c; within = within; is = is.free head c o r within size })
    (λ size c o r within. outcome-of (l.windows head) r o (l.output head c o r) (is.outcome head c o r within))
    (λ q within. fits q (omega (arith, within, is.places head)))
    (output-next d l.output (keeps l is) head symbol p at) (λ q after. refl) (output-third d l.output (keeps l is) head symbol p at)

-- the floor from a place on is at most what any codes cost there
pub floor-holds : (l : Linear) → IsLinear l → (head p : ℕ) (targets : List ℤ) (symbol : ℕ → ℕ) (at : State) → p ≤ l.decoder.samples
    → ((q : ℕ) → q < l.decoder.samples → symbol q < 16)
    → floor_from (l.windows head) targets p ≤ tail_cost l.decoder (miss l.decoder targets) head symbol p at (l.decoder.samples - p)
floor-holds l is head p targets symbol at h fits =
    let d = l.decoder in
    let b = l.windows head in
    let y = outputs d head symbol p at in
    let places = is.places head in
    let floor = floor-below b p y targets (is.sound head) (follow l is head p symbol at fits) (omega (arith, h, places)) in
    let count : b.places - p ≡ d.samples - p = omega (arith, places) in
    let tail = tail-sum d (miss d targets) head symbol p at (d.samples - p) in
    let costs = sum_range-same (λ q. output_cost b.row (y q) (target_at targets q)) (λ q. miss d targets q (path d head symbol p at (suc q))) p p (d.samples - p)
    (λ k within. ap (λ s. square_of (s *ℤ y (p + k) -ℤ target_at targets (p + k))) (is.scale head)) in
    subst (λ n. floor_from b targets p ≤ n) (costs ∙ sym tail) (subst (λ n. floor_from b targets p ≤ sum_range (λ q. output_cost b.row (y q) (target_at targets q)) p n) count floor)

-- and far below what a sum of 64 bits holds
pub floor-small : (l : Linear) → IsLinear l → (head p : ℕ) (targets : List ℤ) → AreSamples targets → floor_from (l.windows head) targets p ≤ l.decoder.samples * 2 ^ 34
floor-small l is head p targets all = subst (λ n. floor_from (l.windows head) targets p ≤ n * 2 ^ 34) (is.places head) (floor-fits (l.windows head) targets p (is.sound head) all)
