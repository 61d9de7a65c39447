-- What a plan that was not refused says.
use Rattle.std.proofs.Common.{◌≡◌, ℕ, ◌+◌, ◌*◌, ◌/◌, ◌%◌, ◌<◌, ◌≤◌, Bool, true, false, cond, Option, Some, None, Result, Ok, Err, refl, sym, ap, ◌∙◌, subst, arith}
use Rattle.std.specs.Prelude.{nat_eq, nat_lt, ◌||◌}
use Rattle.std.specs.Int.{div_ceil}
use Rattle.std.proofs.lemmas.Bool.{eqb-true, ltb-false}
use Rattle.std.proofs.lemmas.Nat.{div-add-mod'}
use Rattle.std.proofs.lemmas.Grind.{div_ceil_times}
use Rattle.adpcm_nums.specs.Outcome.{◌>>=◌}
use Rattle.adpcm_nums.specs.declared.loop_at.LoopAt.{LoopAt}
use Rattle.adpcm_nums.proofs.OutcomeLaws.{went_on}
use Rattle.loop_fit.specs.declared.rule.FitRule.{FitRule}
use Rattle.loop_fit.specs.declared.rule.Length.{Length}
use Rattle.loop_fit.specs.declared.rule.Length.TheVariants.{Exact, Unroll}
use Rattle.loop_fit.specs.declared.rule.Start.{Start}
use Rattle.loop_fit.specs.declared.rule.Start.TheVariants.{Front, Rotate}
use Rattle.loop_fit.specs.declared.fault.FitFault.{FitFault}
use Rattle.loop_fit.specs.declared.fault.FitFault.TheVariants.{LoopLength, TooLong}
use Rattle.loop_fit.specs.declared.plan.Plan.{Plan}
use Rattle.loop_fit.specs.Align.{loop_length, loop_target, front_of, unroll_of}
use Rattle.loop_fit.specs.Plan.{rounds_of, sized, plan_of}
use Rattle.loop_fit.proofs.AlignLaws.{next_multiple-whole, sum-whole}
use Rattle.loop_fit.proofs.Unrolling.{unroll_of-some, unroll_of-whole}

-- the blocks and their targets are not too many
pub record IsSized (block blocks : ℕ) : Type 0 where
  pub few : blocks ≤ 4096
  pub small : blocks * block ≤ 262144

-- where a choice is Ok, its test failed
passed : {A : Type 0} (b : Bool) (e : FitFault) (x y : A) → cond {A = Result A FitFault} b (Err e) (Ok x) ≡ Ok y → (b ≡ false) × (x ≡ y)
passed true e x y h = (cc, cc)
passed false e x y h = (refl, cc)

-- where another is, its test passed
allowed : {A : Type 0} (b : Bool) (e : FitFault) (x y : A) → cond {A = Result A FitFault} b (Ok x) (Err e) ≡ Ok y → (b ≡ true) × (x ≡ y)
allowed true e x y h = (refl, cc)
allowed false e x y h = (cc, cc)

-- a value where nothing was refused
abbrev pub done : {A : Type 0} → A → Result A FitFault
done x = Ok x

-- such answers are the same only where the values are
pub same_ok : {A : Type 0} (x y : A) → done x ≡ Ok y → x ≡ y
same_ok x y h = cc

both_fail : (a b : Bool) → (a || b) ≡ false → (a ≡ false) × (b ≡ false)
both_fail true b h = (cc, cc)
both_fail false b h = (refl, h)

sized-is : (block blocks n : ℕ) → sized block blocks ≡ Ok n → (blocks ≡ n) × IsSized block n
unfolding sized
sized-is block blocks n h =
    let test = passed (nat_lt 4096 blocks || nat_lt 262144 (blocks * block)) (TooLong blocks) blocks n h in
    let fits = both_fail (nat_lt 4096 blocks) (nat_lt 262144 (blocks * block)) test.0 in
    (test.1, subst (IsSized block) test.1 (record { few = ltb-false _ _ fits.0; small = ltb-false _ _ fits.1 }))

rounds-whole : (length : Length) (block len n : ℕ) → 0 < block → rounds_of length block len ≡ Ok n → (1 ≤ n) × ((n * len) % block ≡ 0)
unfolding rounds_of
rounds-whole Exact block len n some h =
    let test = allowed (nat_eq (len % block) 0) (LoopLength len block) 1 n h in
    let one : 1 * len ≡ len = omega arith in
    subst (λ (m : ℕ). (1 ≤ m) × ((m * len) % block ≡ 0)) test.1 (omega arith, ap (λ m. m % block) one ∙ eqb-true _ _ test.0)
rounds-whole Unroll block len n some h =
    let same : unroll_of block len ≡ n = same_ok _ _ h in
    subst (λ (m : ℕ). (1 ≤ m) × ((m * len) % block ≡ 0)) same (unroll_of-some block len, unroll_of-whole block len some)

-- a plan for a sound that is played once
pub record IsOncePlan (frames block : ℕ) (plan : Plan) : Type 0 where
  pub front : plan.front ≡ 0
  pub loop_block : plan.loop_block ≡ None
  pub enough : frames ≤ plan.blocks * block
  pub size : IsSized block plan.blocks

-- where no loop has to lie on whole blocks, every plan is such a plan
pub once_plan : (frames : ℕ) (rule : FitRule) (plan : Plan) → 0 < rule.block → plan_of frames None rule ≡ Ok plan → IsOncePlan frames rule.block plan
unfolding plan_of
once_plan frames rule plan some h =
    let made : ℕ → Plan = λ blocks. record { front = 0; unroll = 1; blocks = blocks; loop_block = None } in
    let on = went_on (sized rule.block (div_ceil frames rule.block)) (λ blocks. Ok (made blocks)) plan h in
    let size = sized-is rule.block (div_ceil frames rule.block) on.0 on.1 in
    let enough : frames ≤ on.0 * rule.block = subst (λ (n : ℕ). frames ≤ n * rule.block) size.0 (div_ceil_times frames rule.block some).0 in
    subst (IsOncePlan frames rule.block) (same_ok (made on.0) plan on.2) (record { front = refl; loop_block = refl; enough = enough; size = size.1 })

-- a plan for a sound with a loop on whole blocks
pub record IsLoopPlan (block : ℕ) (at : LoopAt) (plan : Plan) : Type 0 where
  pub some : 1 ≤ plan.unroll
  -- the last block ends where the last round of the loop does
  pub end : plan.blocks * block ≡ loop_target block at + plan.unroll * loop_length at
  -- the block at which the loop begins
  pub first : ℕ
  pub loop_block : plan.loop_block ≡ Some first
  pub first_is : first * block ≡ loop_target block at
  pub front : plan.front + at.start ≤ loop_target block at
  pub size : IsSized block plan.blocks

front-fits : (start : Start) (block : ℕ) (at : LoopAt) → front_of start block at + at.start ≤ loop_target block at
front-fits Front block at = omega arith
front-fits Rotate block at = omega arith

-- where a loop has to, every plan is such a plan
pub loop_plan : (frames : ℕ) (at : LoopAt) (rule : FitRule) (plan : Plan) → 0 < rule.block → plan_of frames (Some at) rule ≡ Ok plan → IsLoopPlan rule.block at plan
unfolding plan_of
loop_plan frames at rule plan some h =
    let block = rule.block in
    let target = loop_target block at in
    let len = loop_length at in
    let made : ℕ → ℕ → Plan = λ unroll blocks. record { front = front_of rule.start block at; unroll = unroll; blocks = blocks; loop_block = Some (target / block) } in
    let after : ℕ → Result Plan FitFault = λ unroll. sized block ((target + unroll * len) / block) >>= λ blocks. Ok (made unroll blocks) in
    let rounds = went_on (rounds_of rule.length block len) after plan h in
    let on = went_on (sized block ((target + rounds.0 * len) / block)) (λ blocks. Ok (made rounds.0 blocks)) plan rounds.2 in
    let whole = rounds-whole rule.length block len rounds.0 some rounds.1 in
    let start_whole = next_multiple-whole at.start block some in
    let size = sized-is block ((target + rounds.0 * len) / block) on.0 on.1 in
    let ends : on.0 * block ≡ target + rounds.0 * len = ap (λ n. n * block) (sym size.0) ∙ sum-whole target (rounds.0 * len) block start_whole whole.1 in
    let first_is : target / block * block ≡ target = omega (arith, div-add-mod' target block, start_whole) in
    subst (IsLoopPlan block at) (same_ok (made rounds.0 on.0) plan on.2)
    (record { some = whole.0; end = ends; first = target / block; loop_block = refl; first_is = first_is; front = front-fits rule.start block at; size = size.1 })

-- what a plan says, with the loop that has to lie on whole blocks
abbrev pub IsPlan : ℕ → ℕ → Option LoopAt → Plan → Type 0
IsPlan frames block None plan = IsOncePlan frames block plan
IsPlan frames block (Some at) plan = IsLoopPlan block at plan

-- every plan that was not refused says so
pub plan_of-is : (frames : ℕ) (looped : Option LoopAt) (rule : FitRule) (plan : Plan) → 0 < rule.block → plan_of frames looped rule ≡ Ok plan → IsPlan frames rule.block looped plan
plan_of-is frames None rule plan some h = once_plan frames rule plan some h
plan_of-is frames (Some at) rule plan some h = loop_plan frames at rule plan some h
