-- The outputs of a list's block, and what they cost in the block's window.
use Rattle.std.proofs.Common.{◌≡◌, ℕ, suc, ◌+◌, ◌*◌, ◌<◌, arith, refl, ap, sym, subst, ◌∙◌, Bool, List, [], ◌∷◌, length, get_or, drop, length-drop}
use Rattle.std.specs.Prelude.{ℤ, pos, ◌*ℤ◌, ◌-ℤ◌}
use Rattle.std.proofs.lemmas.List.{get_or-drop}
use Rattle.adpcm_nums.specs.Nums.{square_of}
use Rattle.adpcm_nums.specs.Sample.{IsSample}
use Rattle.machine_core.specs.Decoder.{start}
use Rattle.machine_core.specs.Blocks.{Blocks, IsInRange, head_at, symbol_at, state_at, output_at}
use Rattle.machine_core.specs.Sums.{cost_at}
use Rattle.machine_core.proofs.Places.{block-of, place-of, block-ends}
use Rattle.linear_machine.specs.Linear.{Linear, IsLinear}
use Rattle.linear_machine.proofs.Outputs.{output-follows, states-fit, output-stays}
use Rattle.window_floor.specs.Windows.{Windows}
use Rattle.window_floor.specs.Clamps.{MayCome}
use Rattle.block_bounds.specs.Outputs.{Outputs, ends, goes, weight_of}
use Rattle.strong_bound.specs.Counted.{own_count, AreTargets}
use Rattle.strong_bound.proofs.Counts.{count-more, count-none}

-- samples from sample i on are of a block with this head and these targets
pub record AreOf (l : Linear) (list : Blocks) (targets : List ℤ) (head i : ℕ) (ts : List ℤ) : Type 0 where
  pub heads : (j : ℕ) → j < length ts → head_at l.decoder list (i + j) ≡ head
  pub codes : (j : ℕ) → j < length ts → symbol_at list (i + j) < 16
  pub same : (j : ℕ) → j < length ts → get_or ts j (pos 0) ≡ get_or targets (i + j) (pos 0)

-- the same but for the first
of-rest : (l : Linear) (list : Blocks) (targets : List ℤ) (head i : ℕ) (tx : ℤ) (ts : List ℤ) → AreOf l list targets head i (tx ∷ ts) → AreOf l list targets head (suc i) ts
of-rest l list targets head i tx ts are = record {
  heads = λ j h. let e : i + suc j ≡ suc i + j = omega arith in subst (λ (z : ℕ). head_at l.decoder list z ≡ head) e (are.heads (suc j) (omega arith));
  codes = λ j h. let e : i + suc j ≡ suc i + j = omega arith in subst (λ (z : ℕ). symbol_at list z < 16) e (are.codes (suc j) (omega arith));
  same = λ j h. let e : i + suc j ≡ suc i + j = omega arith in subst (λ (z : ℕ). get_or ts j (pos 0) ≡ get_or targets z (pos 0)) e (are.same (suc j) (omega arith));
}

-- what an output costs in the words of its window
pub cost-is : (l : Linear) → IsLinear l → (list : Blocks) (targets : List ℤ) (head i : ℕ) (tx : ℤ) → tx ≡ get_or targets i (pos 0)
    → square_of ((l.windows head).row.scale *ℤ output_at l.decoder list start i -ℤ tx) ≡ cost_at l.decoder list targets i
cost-is l is list targets head i tx e =
    ap (λ (s : ℤ). square_of (s *ℤ output_at l.decoder list start i -ℤ tx)) (is.scale head)
    ∙ ap (λ (t : ℤ). square_of (pos l.decoder.scale *ℤ output_at l.decoder list start i -ℤ t)) e

-- one more output before some
goes-as : (b : Windows) (leaving : Bool) (tx : ℤ) (ts : List ℤ) (tr to r o o' y : ℤ) (cost c all : ℕ) → IsSample r → IsSample o → MayCome b r o y → o' ≡ o → Outputs b leaving ts to tx o' y c
    → square_of (b.row.scale *ℤ y -ℤ tx) ≡ cost → all ≡ weight_of leaving (length ts) * cost + c → Outputs b leaving (tx ∷ ts) tr to r o all
goes-as b leaving tx ts tr to r o o' y cost c all sr so may older outputs paid sums =
    subst (Outputs b leaving (tx ∷ ts) tr to r o) (ap (λ (z : ℕ). weight_of leaving (length ts) * z + c) paid ∙ sym sums)
    (goes tx ts tr to r o y c sr so may (subst (λ (z : ℤ). Outputs b leaving ts to tx z y c) older outputs))

-- the outputs from sample i on, to the end of these targets
pub outputs-from : (l : Linear) → IsLinear l → (list : Blocks) (targets : List ℤ) (leaving : Bool) (head : ℕ) (ts : List ℤ) (i : ℕ) (tr to : ℤ) → AreOf l list targets head i ts
    → Outputs (l.windows head) leaving ts tr to (state_at l.decoder list start i).b (state_at l.decoder list start i).a (own_count leaving (cost_at l.decoder list targets) i (length ts))
outputs-from l is list targets leaving head [] i tr to are =
    let at = state_at l.decoder list start i in
    subst (Outputs (l.windows head) leaving [] tr to at.b at.a) (count-none leaving (cost_at l.decoder list targets) i) (ends tr to at.b at.a)
outputs-from l is list targets leaving head (tx ∷ ts) i tr to are =
    let d = l.decoder in
    let at = state_at d list start i in
    let here : i + 0 ≡ i = omega arith in
    let code : symbol_at list i < 16 = subst (λ (z : ℕ). symbol_at list z < 16) here (are.codes 0 (omega arith)) in
    let same-head : head_at d list i ≡ head = subst (λ (z : ℕ). head_at d list z ≡ head) here (are.heads 0 (omega arith)) in
    let target : tx ≡ get_or targets i (pos 0) = are.same 0 (omega arith) ∙ ap (λ (z : ℕ). get_or targets z (pos 0)) here in
    let may = subst (λ (h : ℕ). MayCome (l.windows h) at.b at.a (output_at d list start i)) same-head (output-follows l is list start i code) in
    let fit = states-fit l is list i in
    goes-as (l.windows head) leaving tx ts tr to at.b at.a (state_at d list start (suc i)).b (output_at d list start i) (cost_at d list targets i) _ _ fit.0 fit.1 may
    (output-stays l is list start i)
    (outputs-from l is list targets leaving head ts (suc i) to tx (of-rest l list targets head i tx ts are))
    (cost-is l is list targets head i tx target)
    (count-more leaving (cost_at d list targets) i (length ts))

-- block b of a list is of its head and its targets
of-block : (l : Linear) → IsLinear l → (list : Blocks) (targets xs : List ℤ) (blocks b : ℕ) → IsInRange l.decoder blocks list → b < blocks → AreTargets l.decoder.samples targets b xs
    → AreOf l list targets (get_or list.heads b 0) (b * l.decoder.samples) (drop 2 xs)
of-block l is list targets xs blocks b fits below are =
    let n = l.decoder.samples in
    let ends = block-ends b n blocks below in
    let size : length (drop 2 xs) ≡ n = omega (arith, length-drop 2 xs, are.count) in record {
      heads = λ j h. ap (λ (z : ℕ). get_or list.heads z 0) (block-of b n j (b * n + j) refl (omega (arith, h, size)));
      codes = λ j h. (
          let within : j < n = omega (arith, h, size) in
          let symbols = is.codes j within in
          let place = place-of b n j (b * n + j) refl within in
          let small = fits.symbols_fit (b * n + j) (omega (arith, within, ends)) in
          subst (λ (z : ℕ). symbol_at list (b * n + j) < z) symbols (subst (λ (z : ℕ). symbol_at list (b * n + j) < l.decoder.symbols z) place small));
      same = λ j h. get_or-drop 2 xs j (pos 0) ∙ are.own j (omega (arith, h, size));
    }

-- the outputs of block b of a list, at what its window counts of them
pub block-outputs : (l : Linear) → IsLinear l → (list : Blocks) (targets xs : List ℤ) (leaving : Bool) (blocks b : ℕ) → IsInRange l.decoder blocks list → b < blocks → AreTargets l.decoder.samples targets b xs
    → Outputs (l.windows (get_or list.heads b 0)) leaving (drop 2 xs) (get_or xs 0 (pos 0)) (get_or xs 1 (pos 0))
    (state_at l.decoder list start (b * l.decoder.samples)).b (state_at l.decoder list start (b * l.decoder.samples)).a
    (own_count leaving (cost_at l.decoder list targets) (b * l.decoder.samples) l.decoder.samples)
block-outputs l is list targets xs leaving blocks b fits below are =
    let d = l.decoder in
    let at = state_at d list start (b * d.samples) in
    let size : length (drop 2 xs) ≡ d.samples = omega (arith, length-drop 2 xs, are.count) in
    subst (Outputs (l.windows (get_or list.heads b 0)) leaving (drop 2 xs) (get_or xs 0 (pos 0)) (get_or xs 1 (pos 0)) at.b at.a)
    (ap (own_count leaving (cost_at d list targets) (b * d.samples)) size)
    (outputs-from l is list targets leaving (get_or list.heads b 0) (drop 2 xs) (b * d.samples) (get_or xs 0 (pos 0)) (get_or xs 1 (pos 0)) (of-block l is list targets xs blocks b fits below are))
