-- How `make` comes to its report, over plain variables.
use Rattle.std.proofs.Common.{◌≡◌, ℕ, List, ℤ, [], length, refl, sym, ap, subst, ◌∙◌, arith, inl, inr, Option, Some, None, pos, Ok, Err, ◌==◌, if◌then◌else◌}
use Rattle.adpcm_nums.specs.Sample.{AreSamples}
use Rattle.adpcm_nums.specs.declared.loop_at.LoopAt.{LoopAt}
use Rattle.host_files.specs.Outside.{World, grown}
use Rattle.machine_core.specs.declared.state.Kind.{Kind}
use Rattle.manifest_reader.specs.Ranges.{IsWithin}
use Rattle.loop_fit.specs.declared.rule.FitRule.{FitRule}
use Rattle.loop_fit.specs.declared.fitted.Fitted.{Fitted}
use Rattle.loop_fit.specs.Source.{IsBlockOf, IsSource}
use Rattle.machine_core.specs.declared.state.Kind.TheVariants.{Brr, Spu, Ima}
use Rattle.loop_fit.specs.declared.fault.FitFault.{FitFault}
use Rattle.loop_fit.specs.declared.fault.FitFault.TheVariants.{EmptySample}
use Rattle.loop_fit.specs.Align.{unroll_of}
use Rattle.loop_fit.specs.Plan.{plan_of, rounds_of, sized}
use Rattle.loop_fit.specs.Fit.{fit_of, fitted_of}
use Rattle.adpcm_nums.specs.First.{first_where}
use Rattle.adpcm_nums.specs.Outcome.{◌>>=◌}
use Rattle.sample_gen.specs.Walk.{frames_of, second_half}
use Rattle.sample_gen.proofs.FrameLaws.{length-frames}
use Rattle.bank_kinds.specs.Kinds.{codec_for}
use Rattle.bank_kinds.specs.Fits.{loop_shown}
use Rattle.bank_kinds.specs.Bound.{IsBound}
use Rattle.bank_compile.specs.declared.sample.SampleOut.{SampleOut}
use Rattle.command_faults.specs.declared.status.Status.{Status}
use Rattle.command_faults.specs.declared.status.Status.TheVariants.{Memory}
use Rattle.command_plan.specs.Plan.{Plan}
use Rattle.command_plan.specs.Promise.{IsPlanOf, Reaches, Promises, Finishes}
use Rattle.command_plan.specs.Steps.{Comes, writing}
use Rattle.command_plan.proofs.Promised.{short_before, written, answers, done_is}
use Rattle.tool_compile.specs.Make.{made_rule, made_blocks, made_shown, make_course, IsMadeIn, IsMade, IsToldIn, HasMade, AnswersMake}
use Rattle.command_plan.proofs.Unwritten.{unwritten_files}
use Rattle.command_plan.proofs.Telling.{ok-one, ok-err}
use Rattle.tool_files.proofs.SourceSteps.{block_of}

-- 256 bytes are a block of IMA ADPCM
pub made_block : IsWithin 8 1024 4 256
made_block = record { least = omega arith; most = omega arith; multiple = refl }

-- the rule's blocks are those of its kind
pub made_size : (kind : Kind) → IsBlockOf (made_rule kind).kind (made_rule kind).block
made_size kind = block_of kind 256 (made_rule kind).block made_block refl

-- the test sound can be fitted
pub made_source : (samples : List ℤ) (kind : Kind) → length samples ≡ 1024 → AreSamples samples → IsSource samples (Some second_half) (made_rule kind)
made_source samples kind count range = record {
  count = omega (arith, count);
  range = range;
  loop = record { ordered = omega arith; within = omega (arith, count) };
  block = made_size kind;
}

-- what is fitted is the test sound
pub made_fits : (frames samples : List ℤ) (at : Option LoopAt) (rule : FitRule) (kind : Kind) (fitted : Fitted) → samples ≡ frames → at ≡ Some second_half → rule ≡ made_rule kind → fit_of samples at rule ≡ Ok fitted
    → fit_of frames (Some second_half) (made_rule kind) ≡ Ok fitted
made_fits frames samples at rule kind fitted s a r fits =
    ap (λ (xs : List ℤ). fit_of xs (Some second_half) (made_rule kind)) (sym s)
    ∙ (ap (λ (o : Option LoopAt). fit_of samples o (made_rule kind)) (sym a) ∙ (ap (λ (k : FitRule). fit_of samples at k) (sym r) ∙ fits))

-- the fit in each format
fit-brr : (samples : List ℤ) → length samples ≡ 1024
    → fit_of samples (Some second_half) (made_rule Brr) ≡ Ok (fitted_of samples (Some second_half) (made_rule Brr) (record { front = 0; unroll = 1; blocks = 64; loop_block = Some 32 }))
unfolding fit_of plan_of rounds_of sized unroll_of first_where
fit-brr samples count =
    ap (λ n. if n == 0 then Err EmptySample else (plan_of n (Some second_half) (made_rule Brr) >>= (λ plan. Ok (fitted_of samples (Some second_half) (made_rule Brr) plan)))) count

fit-spu : (samples : List ℤ) → length samples ≡ 1024
    → fit_of samples (Some second_half) (made_rule Spu) ≡ Ok (fitted_of samples (Some second_half) (made_rule Spu) (record { front = 20; unroll = 7; blocks = 147; loop_block = Some 19 }))
unfolding fit_of plan_of rounds_of sized unroll_of first_where
fit-spu samples count =
    ap (λ n. if n == 0 then Err EmptySample else (plan_of n (Some second_half) (made_rule Spu) >>= (λ plan. Ok (fitted_of samples (Some second_half) (made_rule Spu) plan)))) count

fit-ima : (samples : List ℤ) → length samples ≡ 1024
    → fit_of samples (Some second_half) (made_rule Ima) ≡ Ok (fitted_of samples (Some second_half) (made_rule Ima) (record { front = 0; unroll = 1; blocks = 3; loop_block = None }))
unfolding fit_of plan_of rounds_of sized
fit-ima samples count =
    ap (λ n. if n == 0 then Err EmptySample else (plan_of n None (made_rule Ima) >>= (λ plan. Ok (fitted_of samples (Some second_half) (made_rule Ima) plan)))) count

-- a fit of so many blocks whose loop is told so
record IsKnown (samples : List ℤ) (kind : Kind) : Type 0 where
  fitted : Fitted
  fits : fit_of samples (Some second_half) (made_rule kind) ≡ Ok fitted
  blocks : fitted.blocks ≡ made_blocks kind
  shown : loop_shown fitted.loop_block fitted.loop_frames ≡ made_shown kind

fit-known : (samples : List ℤ) (kind : Kind) → length samples ≡ 1024 → IsKnown samples kind
fit-known samples Brr count = record { fitted = _; fits = fit-brr samples count; blocks = refl; shown = refl }
fit-known samples Spu count = record { fitted = _; fits = fit-spu samples count; blocks = refl; shown = refl }
fit-known samples Ima count = record { fitted = _; fits = fit-ima samples count; blocks = refl; shown = refl }

-- so the test sound is not refused
pub not-refused : (frames samples : List ℤ) (at : Option LoopAt) (rule : FitRule) (kind : Kind) (fault : FitFault) → length frames ≡ 1024 → samples ≡ frames → at ≡ Some second_half → rule ≡ made_rule kind
    → fit_of samples at rule ≡ Err fault → ⊥
not-refused frames samples at rule kind fault count s a r refused =
    let known = fit-known frames kind count in
    let same : fit_of samples at rule ≡ fit_of frames (Some second_half) (made_rule kind) =
    ap (λ (xs : List ℤ). fit_of xs at rule) s ∙ (ap (λ (o : Option LoopAt). fit_of frames o rule) a ∙ ap (λ (k : FitRule). fit_of frames (Some second_half) k) r) in
    ok-err (fit_of samples at rule) known.fitted fault (same ∙ known.fits) refused

-- the report is said
pub make_comes : (number : ℕ) (line said : List ℕ) (a b : World) (s : Status) → IsMade number [] line → said ≡ line → Comes (writing [] said) a b s → Reaches make_course (IsMade number) a b s
make_comes number line said a b s may same r =
    written (IsMade number) [] [] said a b s (subst (IsMade number []) (sym same) may) refl r

-- there was no memory for it
pub make_short : (number : ℕ) (a : World) → Reaches make_course (IsMade number) a a Memory
make_short number a = short_before make_course (IsMade number) a

-- what is told of what was made
told_in : (number : ℕ) (kind : Kind) (name : List ℕ) (out : SampleOut) → IsMadeIn number kind name out → IsToldIn number kind name out.report
told_in number kind name out m =
    let made = m.compiled.made in
    let known = fit-known (frames_of number) kind (length-frames 1024 (record { number = number; frame = pos 0 })) in
    let same : known.fitted ≡ m.fitted = ok-one (fit_of (frames_of number) (Some second_half) (made_rule kind)) known.fitted m.fitted known.fits m.fits in
    record {
      fitted = m.fitted;
      fits = m.fits;
      named = ap (λ (o : SampleOut). o.report.name) made;
      blocks = ap (λ (o : SampleOut). o.report.blocks) made ∙ (ap (λ (f : Fitted). f.blocks) (sym same) ∙ known.blocks);
      shown = ap (λ (o : SampleOut). o.report.shown) made ∙ (ap (λ (f : Fitted). loop_shown f.loop_block f.loop_frames) (sym same) ∙ known.shown);
      reached = m.reached;
      bound = m.bound;
      gap = m.gap;
      optimal = λ e. subst (IsBound (codec_for kind 256) m.fitted) (sym e) m.bound;
    }

-- what was done at `Done`
has_made : (number : ℕ) (a b : World) → Finishes make_course (IsMade number) a b → HasMade number a b
has_made number a b f = record {
  brr = f.may.brr;
  spu = f.may.spu;
  ima = f.may.ima;
  brr_told = told_in number _ _ f.may.brr f.may.made.brr_made;
  spu_told = told_in number _ _ f.may.spu f.may.made.spu_made;
  ima_told = told_in number _ _ f.may.ima f.may.made.ima_made;
  said = f.said ∙ ap (grown a.said) f.may.told;
  calls = f.calls;
}

-- `make` stores nothing, whether or not its report was chosen
stores_none : (number : ℕ) (r : Status) (p : Plan) → IsPlanOf make_course (IsMade number) r p → p.writes ≡ []
stores_none number r p is = elim is.choice [ inl may ↦ may.none | inr early ↦ early.1 ]

-- what the promise says in the command's own words
pub answers_make : (number : ℕ) (a b : World) (r : Status) → Promises make_course (IsMade number) a b r → AnswersMake number a b r
answers_make number a b r h = record {
  files = unwritten_files h.0 a b r (stores_none number r h.0 h.1) h.2;
  done = λ e. has_made number a b (done_is make_course (IsMade number) a b r h e);
  outcome = λ calm. answers make_course (IsMade number) a b r h calm;
}
