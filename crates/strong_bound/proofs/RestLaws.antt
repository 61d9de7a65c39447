-- The floors of a block's windows, once for all places and once for the first ones, are under what any codes count.
use Rattle.std.proofs.Common.{◌≡◌, ℕ, zero, suc, ◌+◌, ◌-◌, ◌<◌, ◌≤◌, arith, refl, ap, sym, subst, ◌∙◌, inl, inr, List, get_or, take}
use Rattle.std.proofs.lemmas.Bool.{cases_lt}
use Rattle.std.proofs.lemmas.List.{get_or-take}
use Rattle.std.specs.Prelude.{ℤ, pos}
use Rattle.machine_core.specs.declared.state.State.{State}
use Rattle.machine_core.specs.Decoder.{Decoder, cost_of, miss}
use Rattle.machine_core.specs.Rules.{tail_cost}
use Rattle.window_floor.specs.Windows.{Windows, IsSound, floor_from}
use Rattle.window_floor.specs.Clamps.{MayCome, over, under, inside}
use Rattle.linear_machine.specs.Linear.{Linear, IsLinear}
use Rattle.linear_machine.specs.Laws.FloorTruth.{floor-holds}
use Rattle.strong_bound.specs.Quiet.{count_from, IsUnderSymbols, IsUnderRest, HoldsRests, shortened}

-- the decoder of the first m samples of each block
first_samples : Decoder → ℕ → Decoder
first_samples d m = record d { samples = m }

abbrev shorter : Linear → ℕ → Linear
shorter l m = record { decoder = record l.decoder { samples = m }; windows = λ head. shortened (l.windows head) m; output = l.output }

sound-shorter : (b : Windows) (m : ℕ) → IsSound b → IsSound (shortened b m)
sound-shorter b m s = record { scale = s.scale; normed = s.normed; clamped = s.clamped; samples_fit = s.samples_fit }

-- an output may come after the same ones
comes-shorter : (b : Windows) (m : ℕ) (r o y : ℤ) → MayCome b r o y → MayCome (shortened b m) r o y
comes-shorter b m r o y (over raw is above e) = over raw is above e
comes-shorter b m r o y (under raw is below e) = under raw is below e
comes-shorter b m r o y (inside raw k is wrap e) = inside raw k is wrap e

-- it is as linear as the whole one
is-shorter : (l : Linear) (m : ℕ) → IsLinear l → m ≤ l.decoder.samples → IsLinear (shorter l m)
is-shorter l m is few = record {
  sound = λ head. sound-shorter (l.windows head) m (is.sound head);
  places = λ head. refl;
  scale = is.scale;
  codes = λ p h. is.codes p (omega (arith, h, few));
  steps = is.steps;
  range = is.range;
  outcome = λ head code o r within. comes-shorter (l.windows head) m r o (l.output head code o r) (is.outcome head code o r within);
  free = is.free;
}

-- the first places cost what they cost in the whole block
costs-same : (d : Decoder) (targets : List ℤ) (m head : ℕ) (symbol : ℕ → ℕ) (p : ℕ) (at : State) (count : ℕ) → p + count ≤ m
    → tail_cost (record d { samples = m }) (miss (record d { samples = m }) (take m targets)) head symbol p at count ≡ tail_cost d (miss d targets) head symbol p at count
costs-same d targets m head symbol p at zero h = refl
costs-same d targets m head symbol p at (suc count) h =
    let next = d.step head p (symbol p) at in
    let own : cost_of d next (get_or (take m targets) p (pos 0)) ≡ cost_of d next (get_or targets p (pos 0)) = ap (λ (z : ℤ). cost_of d next z) (get_or-take m targets p (pos 0) (omega (arith, h))) in
    let rest = costs-same d targets m head symbol (p + 1) next count (omega (arith, h)) in
    ap (λ z. z + tail_cost (record d { samples = m }) (miss (record d { samples = m }) (take m targets)) head symbol (p + 1) next count) own
    ∙ ap (λ z. cost_of d next (get_or targets p (pos 0)) + z) rest

-- the floor of the first places
first-holds : (l : Linear) → IsLinear l → (m head p : ℕ) (targets : List ℤ) (symbol : ℕ → ℕ) (at : State) → m ≤ l.decoder.samples → p ≤ m → ((q : ℕ) → q < l.decoder.samples → symbol q < 16)
    → floor_from (shortened (l.windows head) m) (take m targets) p ≤ tail_cost l.decoder (miss l.decoder targets) head symbol p at (m - p)
first-holds l is m head p targets symbol at few h fits =
    let holds = floor-holds (shorter l m) (is-shorter l m is few) head p (take m targets) symbol at h (λ q w. fits q (omega (arith, w, few))) in
    let same = costs-same l.decoder targets m head symbol p at (m - p) (omega (arith, h)) in
    subst (λ (z : ℕ). floor_from (shortened (l.windows head) m) (take m targets) p ≤ z) same holds

-- a table of both is one of rests
pub rests-hold : (l : Linear) → IsLinear l → (w : Windows) (targets : List ℤ) (twice head : ℕ) (rests : List ℕ) → twice ≤ l.decoder.samples → w ≡ l.windows head
    → ((p : ℕ) → p ≤ twice → get_or rests p 0 ≤ floor_from w targets p + floor_from (shortened w twice) (take twice targets) p)
    → ((p : ℕ) → twice < p → p ≤ l.decoder.samples → get_or rests p 0 ≤ floor_from w targets p)
    → HoldsRests l.decoder targets twice head rests
unfolding HoldsRests IsUnderRest IsUnderSymbols count_from
rests-hold l is w targets twice head rests few same front back = λ p h at state symbol are.
    let fits : (q : ℕ) → q < l.decoder.samples → symbol q < 16 = λ q within. subst (λ (z : ℕ). symbol q < z) (is.codes q within) (are q within) in
    let whole = subst (λ (b : Windows). floor_from b targets p ≤ tail_cost l.decoder (miss l.decoder targets) head symbol p at (l.decoder.samples - p)) (sym same) (floor-holds l is head p targets symbol at h fits) in
    elim (cases_lt twice p) [
      | inl w ↦ (let k = back p w h in omega (arith, k, whole))
      | inr w ↦ (
          let k = front p w in
          let first = subst (λ (b : Windows). floor_from (shortened b twice) (take twice targets) p ≤ tail_cost l.decoder (miss l.decoder targets) head symbol p at (twice - p)) (sym same) (first-holds l is twice head p targets symbol at few w fits) in
          omega (arith, k, whole, first))
    ]

-- the same for the decoder that a machine means
pub rests-for : (l : Linear) → IsLinear l → (d : Decoder) → l.decoder ≡ d → (w : Windows) (targets : List ℤ) (twice head : ℕ) (rests : List ℕ) (places : ℕ) → twice ≤ d.samples → w ≡ l.windows head → d.samples ≤ places
    → ((p : ℕ) → p ≤ twice → get_or rests p 0 ≤ floor_from w targets p + floor_from (shortened w twice) (take twice targets) p)
    → ((p : ℕ) → twice < p → p ≤ places → get_or rests p 0 ≤ floor_from w targets p)
    → HoldsRests d targets twice head rests
rests-for l is d e w targets twice head rests places few same all front back =
    subst (λ (d : Decoder). twice ≤ d.samples → d.samples ≤ places → HoldsRests d targets twice head rests) e
    (λ few all. rests-hold l is w targets twice head rests few same front (λ p h within. back p h (omega (arith, within, all)))) few all
