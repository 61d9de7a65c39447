-- What is known of every fitted sound that can be compiled.
use Rattle.std.proofs.Common.{◌≡◌, ℕ, ◌+◌, ◌*◌, ◌<◌, ◌≤◌, ℤ, List, length, Option, Some, None, Ok, refl, sym, ap, ◌∙◌, subst, arith}
use Rattle.std.specs.Prelude.{IfSome}
use Rattle.adpcm_nums.specs.declared.loop_at.LoopAt.{LoopAt}
use Rattle.machine_core.specs.declared.state.Kind.{Kind}
use Rattle.machine_core.specs.declared.state.Kind.TheVariants.{Brr, Spu, Ima}
use Rattle.machine_core.proofs.Places.{block-ends}
use Rattle.loop_fit.specs.declared.rule.FitRule.{FitRule}
use Rattle.loop_fit.specs.declared.fitted.Fitted.{Fitted}
use Rattle.loop_fit.specs.Source.{IsLoopIn, IsSource}
use Rattle.loop_fit.specs.Align.{block_loop, frame_loop}
use Rattle.loop_fit.specs.Fit.{IsWhole, fit_of, points_in, points_of}
use Rattle.loop_fit.specs.Plan.{plan_of}
use Rattle.loop_fit.proofs.FitLaws.{fit_of-is, fit_of-whole}
use Rattle.loop_fit.proofs.PlanFacts.{once_plan}
use Rattle.ima_machine.specs.Ima.{samples_in}
use Rattle.bank_kinds.specs.Kinds.{codec_for}
use Rattle.bank_kinds.specs.Fits.{IsFit, AreWithin}

-- the kind says whether the loop stays at its frames
fit_of-frames : (samples : List ℤ) (at : Option LoopAt) (rule : FitRule) (fitted : Fitted) → fit_of samples at rule ≡ Ok fitted → fitted.loop_frames ≡ frame_loop rule.kind at
fit_of-frames samples at rule fitted h =
    let w = fit_of-is samples at rule fitted h in
    ap (λ (f : Fitted). f.loop_frames) (sym w.3)

-- the loop of some blocks stands in them
points-stand : (samples blocks : ℕ) (loop_block : Option ℕ) (frames : Option LoopAt) → 0 < samples → 0 < blocks → IfSome loop_block (λ l. l < blocks) → frames ≡ None
    → AreWithin (blocks * samples) (points_in samples blocks loop_block frames)
points-stand samples blocks None frames some any within none = subst (λ (o : Option LoopAt). AreWithin (blocks * samples) o) (sym none) tt
points-stand samples blocks (Some l) frames some any within none =
    let ends : l * samples + samples ≤ blocks * samples = block-ends l samples blocks within in
    (omega (arith, ends), omega (arith, ends))

-- what a rule has fitted to blocks of so many samples, whose loop lies on them
on-blocks : (samples : List ℤ) (at : Option LoopAt) (rule : FitRule) (fitted : Fitted) (kind : Kind) (block : ℕ) → IsSource samples at rule → fit_of samples at rule ≡ Ok fitted
    → rule.kind ≡ kind → rule.block ≡ block → 0 < block → frame_loop kind at ≡ None
    → IsWhole block fitted × (fitted.loop_frames ≡ None) × AreWithin (fitted.blocks * block) (points_of block fitted)
on-blocks samples at rule fitted kind block source h same size some none =
    let whole = subst (λ (b : ℕ). IsWhole b fitted) size (fit_of-whole samples at rule fitted source h) in
    let frames : fitted.loop_frames ≡ None = fit_of-frames samples at rule fitted h ∙ (ap (λ (k : Kind). frame_loop k at) same ∙ none) in
    (whole, frames, points-stand block fitted.blocks fitted.loop_block fitted.loop_frames some whole.some whole.loop_block frames)

-- a loop that stays at its frames stands in them
frames-stand : (frames : ℕ) (at : Option LoopAt) → IfSome at (IsLoopIn frames) → AreWithin frames at
frames-stand frames None within = tt
frames-stand frames (Some at) within = (within.ordered, within.within)

-- what a rule for IMA ADPCM has fitted: no loop lies on blocks, and all frames stand in them
in-frames : (samples : List ℤ) (at : Option LoopAt) (rule : FitRule) (fitted : Fitted) (block : ℕ) → IsSource samples at rule → fit_of samples at rule ≡ Ok fitted
    → rule.kind ≡ Ima → rule.block ≡ block → 0 < block
    → IsWhole block fitted × (fitted.loop_block ≡ None) × (fitted.frames ≤ fitted.blocks * block) × AreWithin fitted.frames (points_of block fitted)
in-frames samples at rule fitted block source h same size some =
    let whole = subst (λ (b : ℕ). IsWhole b fitted) size (fit_of-whole samples at rule fitted source h) in
    let w = fit_of-is samples at rule fitted h in
    let none : block_loop rule.kind at ≡ None = ap (λ (k : Kind). block_loop k at) same in
    let plan = once_plan (length samples) rule w.0 (omega (arith, size)) (sym (ap (λ (o : Option LoopAt). plan_of (length samples) o rule) none) ∙ w.2) in
    let looped : fitted.loop_block ≡ None = ap (λ (f : Fitted). f.loop_block) (sym w.3) ∙ plan.loop_block in
    let frames : fitted.frames ≡ length samples = ap (λ (f : Fitted). f.frames) (sym w.3) in
    let blocks : fitted.blocks ≡ w.0.blocks = ap (λ (f : Fitted). f.blocks) (sym w.3) in
    let enough : fitted.frames ≤ fitted.blocks * block =
    subst (λ (n : ℕ). n ≤ fitted.blocks * block) (sym frames) (subst (λ (n : ℕ). length samples ≤ n * block) (sym blocks) (subst (λ (n : ℕ). length samples ≤ w.0.blocks * n) size plan.enough)) in
    let stays : fitted.loop_frames ≡ at = fit_of-frames samples at rule fitted h ∙ ap (λ (k : Kind). frame_loop k at) same in
    let points : points_of block fitted ≡ at = ap (λ (o : Option ℕ). points_in block fitted.blocks o fitted.loop_frames) looped ∙ stays in (
      whole,
      looped,
      enough,
      subst (λ (o : Option LoopAt). AreWithin fitted.frames o) (sym points)
          (frames-stand fitted.frames at (subst (λ (n : ℕ). IfSome at (IsLoopIn n)) (sym frames) source.loop)),
    )

-- what a rule for a kind has fitted can be compiled
fit-for : (kind : Kind) (block : ℕ) (samples : List ℤ) (at : Option LoopAt) (rule : FitRule) (fitted : Fitted) → rule.kind ≡ kind → rule.block ≡ (codec_for kind block).rules.decoder.samples
    → IsSource samples at rule → fit_of samples at rule ≡ Ok fitted → IsFit (codec_for kind block) fitted
fit-for Brr block samples at rule fitted kind size source h =
    let is = on-blocks samples at rule fitted Brr 16 source h kind size (omega arith) refl in
    record { whole = is.0; looped = is.1; played = omega arith; points = is.2 }
fit-for Spu block samples at rule fitted kind size source h =
    let is = on-blocks samples at rule fitted Spu 28 source h kind size (omega arith) refl in
    record { whole = is.0; looped = is.1; played = omega arith; points = is.2 }
fit-for Ima block samples at rule fitted kind size source h =
    let is = in-frames samples at rule fitted (samples_in block) source h kind size (omega arith) in
    record { whole = is.0; looped = is.1; played = is.2; points = is.3 }

pub fit_of-ready : (samples : List ℤ) (at : Option LoopAt) (rule : FitRule) (block : ℕ) (fitted : Fitted) → rule.block ≡ (codec_for rule.kind block).rules.decoder.samples
    → IsSource samples at rule → fit_of samples at rule ≡ Ok fitted → IsFit (codec_for rule.kind block) fitted
fit_of-ready samples at rule block fitted size source h = fit-for rule.kind block samples at rule fitted refl size source h
