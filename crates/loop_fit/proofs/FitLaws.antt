-- What a fit keeps: it goes round as the sound does, in whole blocks.
use Rattle.std.proofs.Common.{◌≡◌, ℕ, ◌-◌, ◌*◌, ◌<◌, ◌≤◌, ℤ, pos, List, length, get_or, Option, Some, None, Ok, Err, false, sym, ap, ◌∙◌, subst, arith, inl, inr}
use Rattle.std.specs.Prelude.{IfSome, nat_eq}
use Rattle.std.proofs.lemmas.Bool.{cases_lt, cases_Bool, le-ltb, lt-ltb}
use Rattle.std.proofs.lemmas.Bool.Decides.{nat_tests}
use Rattle.std.proofs.lemmas.List.{get_or_past}
use Rattle.std.proofs.lemmas.List.Elements.{All-get_or, All-from_get_or}
use Rattle.std.proofs.lemmas.List.FromFn.{length-map-range_with_len}
use Rattle.std.proofs.lemmas.Nat.{mul-le}
use Rattle.std.proofs.lemmas.Int.{ints}
use Rattle.adpcm_nums.specs.Outcome.{◌>>=◌}
use Rattle.adpcm_nums.specs.Round.{round_of}
use Rattle.adpcm_nums.specs.Sample.{IsSample, AreSamples}
use Rattle.adpcm_nums.specs.declared.loop_at.LoopAt.{LoopAt}
use Rattle.adpcm_nums.proofs.OutcomeLaws.{went_on}
use Rattle.machine_core.specs.declared.state.Kind.{Kind}
use Rattle.machine_core.specs.declared.state.Kind.TheVariants.{Brr, Spu, Ima}
use Rattle.loop_fit.specs.declared.plan.Plan.{Plan}
use Rattle.loop_fit.specs.declared.rule.FitRule.{FitRule}
use Rattle.loop_fit.specs.declared.fault.FitFault.TheVariants.{EmptySample}
use Rattle.loop_fit.specs.declared.fitted.Fitted.{Fitted}
use Rattle.loop_fit.specs.Source.{IsLoopIn, IsBlockOf, IsSource}
use Rattle.loop_fit.specs.Plan.{plan_of}
use Rattle.loop_fit.specs.Align.{block_loop, frame_loop, loop_length}
use Rattle.loop_fit.specs.Fit.{delayed, target_of, targets_of, points_in, fitted_of, fit_of, GoesRound, HasTargets, IsWhole}
use Rattle.loop_fit.proofs.PlanFacts.{IsSized, IsOncePlan, IsLoopPlan, IsPlan, plan_of-is, same_ok}
use Rattle.loop_fit.proofs.RoundLaws.{target-at, block_round, once_round, frame_round}

-- the targets of a plan, played with their loop for ever
abbrev pub played : Kind → List ℤ → Option LoopAt → ℕ → Plan → ℕ → ℤ
played kind samples at block plan i =
    round_of (targets_of samples (block_loop kind at) plan.front (plan.blocks * block)) (points_in block plan.blocks plan.loop_block (frame_loop kind at)) i

-- a sound with a loop on whole blocks
loop_law : (samples : List ℤ) (at : LoopAt) (block : ℕ) (plan : Plan) (i : ℕ) → IsLoopIn (length samples) at → IsLoopPlan block at plan
    → round_of (targets_of samples (Some at) plan.front (plan.blocks * block)) (points_in block plan.blocks plan.loop_block None) i ≡ delayed plan.front (round_of samples (Some at)) i
loop_law samples at block plan i inside p =
    let least : 1 * 1 ≤ plan.unroll * loop_length at = mul-le 1 1 plan.unroll (loop_length at) p.some (omega arith) in
    let points : LoopAt = record { start = p.first * block; end = plan.blocks * block - 1 } in
    ap (λ (o : Option ℕ). round_of (targets_of samples (Some at) plan.front (plan.blocks * block)) (points_in block plan.blocks o None) i) p.loop_block
    ∙ block_round samples at points plan.front (plan.blocks * block) plan.unroll i inside.ordered p.some (omega (arith, p.front, p.first_is)) (omega (arith, p.end, least)) (omega (arith, p.end, p.first_is))

-- a sound that is played once
once_law : (samples : List ℤ) (block : ℕ) (plan : Plan) (i : ℕ) → IsOncePlan (length samples) block plan
    → round_of (targets_of samples None plan.front (plan.blocks * block)) (points_in block plan.blocks plan.loop_block None) i ≡ delayed plan.front (round_of samples None) i
once_law samples block plan i p = rw (p.front, p.loop_block) (once_round samples (plan.blocks * block) i p.enough)

-- a sound whose loop stays at its frames
frame_law : (samples : List ℤ) (at : LoopAt) (block : ℕ) (plan : Plan) (i : ℕ) → IsLoopIn (length samples) at → IsOncePlan (length samples) block plan
    → round_of (targets_of samples None plan.front (plan.blocks * block)) (points_in block plan.blocks plan.loop_block (Some at)) i ≡ delayed plan.front (round_of samples (Some at)) i
frame_law samples at block plan i inside p = rw (p.front, p.loop_block) (frame_round samples at (plan.blocks * block) i inside.ordered inside.within p.enough)

-- whatever the kind and the loop, they go round as the sound does, after the zeros in front
pub played-is : (kind : Kind) (samples : List ℤ) (at : Option LoopAt) (block : ℕ) (plan : Plan) (i : ℕ) → IfSome at (IsLoopIn (length samples)) → IsPlan (length samples) block (block_loop kind at) plan
    → played kind samples at block plan i ≡ delayed plan.front (round_of samples at) i
played-is Brr samples None block plan i inside p = once_law samples block plan i p
played-is Spu samples None block plan i inside p = once_law samples block plan i p
played-is Ima samples None block plan i inside p = once_law samples block plan i p
played-is Brr samples (Some at) block plan i inside p = loop_law samples at block plan i inside p
played-is Spu samples (Some at) block plan i inside p = loop_law samples at block plan i inside p
played-is Ima samples (Some at) block plan i inside p = frame_law samples at block plan i inside p

-- each target is a sample
silence : IsSample (pos 0)
silence = record { low = omega (arith, ints); high = omega (arith, ints) }

sample-at : (samples : List ℤ) (i : ℕ) → AreSamples samples → IsSample (get_or samples i (pos 0))
sample-at samples i range =
    elim (cases_lt i (length samples)) [
      | inl within ↦ All-get_or IsSample samples i (pos 0) within range
      | inr past ↦ subst IsSample (sym (get_or_past samples i (pos 0) past)) silence
    ]

round-sample : (samples : List ℤ) (looped : Option LoopAt) (i : ℕ) → AreSamples samples → IsSample (round_of samples looped i)
round-sample samples None i range = sample-at samples i range
round-sample samples (Some at) i range = sample-at samples _ range

target-sample : (samples : List ℤ) (looped : Option LoopAt) (front i : ℕ) → AreSamples samples → IsSample (target_of samples looped front i)
target-sample samples looped front i range =
    elim (cases_lt i front) [
      | inl before ↦ rw (lt-ltb i front before) silence
      | inr after ↦ rw (le-ltb i front after) (round-sample samples looped (i - front) range)
    ]

-- there are as many targets as were asked for
pub targets-count : (samples : List ℤ) (looped : Option LoopAt) (front count : ℕ) → length (targets_of samples looped front count) ≡ count
targets-count samples looped front count = length-map-range_with_len (target_of samples looped front) 0 count

-- and all of them are samples
pub targets-range : (samples : List ℤ) (looped : Option LoopAt) (front count : ℕ) → AreSamples samples → AreSamples (targets_of samples looped front count)
targets-range samples looped front count range =
    All-from_get_or IsSample (targets_of samples looped front count) (pos 0)
    (λ i h. subst IsSample (sym (target-at samples looped front count i (omega (arith, targets-count samples looped front count)))) (target-sample samples looped front i range))

-- a plan has some blocks, and the loop block is one of them
pub record IsInBlocks (block : ℕ) (plan : Plan) : Type 0 where
  pub some : 0 < plan.blocks
  pub size : IsSized block plan.blocks
  pub loop_block : IfSome plan.loop_block (λ l. l < plan.blocks)

some_blocks : (a block : ℕ) → 0 < a * block → 0 < a
some_blocks a block h = elim (cases_lt 0 a) [ inl some ↦ some | inr none ↦ (let zero_of : a * block ≡ 0 = (let e : a ≡ 0 = omega arith in ap (λ n. n * block) e ∙ omega arith) in absurd (omega (arith, zero_of))) ]

below_product : (a b block : ℕ) → a * block < b * block → a < b
below_product a b block h = elim (cases_lt a b) [ inl less ↦ less | inr more ↦ absurd (omega (arith, mul-le b block a block more (omega arith))) ]

-- every plan for a sound with frames is so
pub in_blocks : (frames block : ℕ) (looped : Option LoopAt) (plan : Plan) → 0 < frames → IsPlan frames block looped plan → IsInBlocks block plan
in_blocks frames block None plan some p = record {
  some = some_blocks plan.blocks block (omega (arith, p.enough));
  size = p.size;
  loop_block = rw p.loop_block tt;
}
in_blocks frames block (Some at) plan some p =
    let least : 1 * 1 ≤ plan.unroll * loop_length at = mul-le 1 1 plan.unroll (loop_length at) p.some (omega arith) in
    record {
      some = some_blocks plan.blocks block (omega (arith, p.end, least));
      size = p.size;
      loop_block = rw p.loop_block (below_product p.first plan.blocks block (omega (arith, p.end, p.first_is, least)));
    }

some_samples : (kind : Kind) (block : ℕ) → IsBlockOf kind block → 0 < block
some_samples Brr block h = omega arith
some_samples Spu block h = omega arith
some_samples Ima block h = omega (arith, h.1.samples_are)

-- what is laid by a plan goes round as the sound does
pub fitted_of-goes_round : (samples : List ℤ) (at : Option LoopAt) (rule : FitRule) (plan : Plan) → IsSource samples at rule
    → plan_of (length samples) (block_loop rule.kind at) rule ≡ Ok plan → GoesRound samples at rule (fitted_of samples at rule plan)
fitted_of-goes_round samples at rule plan source h =
    λ i. played-is rule.kind samples at rule.block plan i source.loop (plan_of-is (length samples) (block_loop rule.kind at) rule plan (some_samples rule.kind rule.block source.block) h)

-- has each target in its place
pub fitted_of-targets : (samples : List ℤ) (at : Option LoopAt) (rule : FitRule) (plan : Plan) → HasTargets samples at rule (fitted_of samples at rule plan)
fitted_of-targets samples at rule plan =
    λ i h. target-at samples (block_loop rule.kind at) plan.front (plan.blocks * rule.block) i (omega (arith, targets-count samples (block_loop rule.kind at) plan.front (plan.blocks * rule.block)))

-- and has whole blocks
pub fitted_of-whole : (samples : List ℤ) (at : Option LoopAt) (rule : FitRule) (plan : Plan) → 0 < length samples → IsSource samples at rule
    → plan_of (length samples) (block_loop rule.kind at) rule ≡ Ok plan → IsWhole rule.block (fitted_of samples at rule plan)
fitted_of-whole samples at rule plan some source h =
    let looped = block_loop rule.kind at in
    let p = in_blocks (length samples) rule.block looped plan some (plan_of-is (length samples) looped rule plan (some_samples rule.kind rule.block source.block) h) in
    let count = targets-count samples looped plan.front (plan.blocks * rule.block) in
    record {
      some = p.some;
      few = p.size.few;
      count = count;
      small = omega (arith, count, p.size.small);
      range = targets-range samples looped plan.front (plan.blocks * rule.block) source.range;
      loop_block = p.loop_block;
    }

-- a number that is not 0 is above it
pub some_from : (n : ℕ) → nat_eq n 0 ≡ false → 0 < n
some_from n h = grind (arith, nat_tests)

-- a fit has samples, and was laid by a plan
pub fit_of-is : (samples : List ℤ) (at : Option LoopAt) (rule : FitRule) (fitted : Fitted) → fit_of samples at rule ≡ Ok fitted
    → (plan : Plan) × (0 < length samples) × (plan_of (length samples) (block_loop rule.kind at) rule ≡ Ok plan) × (fitted_of samples at rule plan ≡ fitted)
unfolding fit_of
fit_of-is samples at rule fitted h =
    elim (cases_Bool (nat_eq (length samples) 0)) [
      | inl none ↦ absurd (let refused : Err EmptySample ≡ Ok fitted = rw none at h in (cc))
      | inr some ↦ (let on : (plan_of (length samples) (block_loop rule.kind at) rule >>= λ plan. Ok (fitted_of samples at rule plan)) ≡ Ok fitted = rw some at h in
          let w = went_on (plan_of (length samples) (block_loop rule.kind at) rule) (λ plan. Ok (fitted_of samples at rule plan)) fitted on in
          (w.0, some_from _ some, w.1, same_ok (fitted_of samples at rule w.0) fitted w.2))
    ]

-- a fit goes round as the sound does
pub fit_of-goes_round : (samples : List ℤ) (at : Option LoopAt) (rule : FitRule) (fitted : Fitted) → IsSource samples at rule → fit_of samples at rule ≡ Ok fitted → GoesRound samples at rule fitted
fit_of-goes_round samples at rule fitted source h =
    let w = fit_of-is samples at rule fitted h in
    subst (GoesRound samples at rule) w.3 (fitted_of-goes_round samples at rule w.0 source w.2)

-- has whole blocks
pub fit_of-whole : (samples : List ℤ) (at : Option LoopAt) (rule : FitRule) (fitted : Fitted) → IsSource samples at rule → fit_of samples at rule ≡ Ok fitted → IsWhole rule.block fitted
fit_of-whole samples at rule fitted source h =
    let w = fit_of-is samples at rule fitted h in
    subst (IsWhole rule.block) w.3 (fitted_of-whole samples at rule w.0 w.1 source w.2)

-- and has each target in its place
pub fit_of-targets : (samples : List ℤ) (at : Option LoopAt) (rule : FitRule) (fitted : Fitted) → fit_of samples at rule ≡ Ok fitted → HasTargets samples at rule fitted
fit_of-targets samples at rule fitted h =
    let w = fit_of-is samples at rule fitted h in
    subst (HasTargets samples at rule) w.3 (fitted_of-targets samples at rule w.0)
