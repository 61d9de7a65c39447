-- The sound of the file is the number's, and it can be fitted.
use Rattle.std.proofs.Common.{◌∙◌, ap, sym, subst, refl, inl, inr, Some, Err, ◌≡◌}
use Rattle.loop_fit.specs.declared.rule.FitRule.{FitRule}
use Rattle.loop_fit.specs.Fit.{fit_of}
use Rattle.loop_fit.specs.Source.{IsBlockOf}
use Rattle.wave_form.specs.declared.wave.Wave.{Wave}
use Rattle.sample_gen.specs.Walk.{frames_of, second_half}
use Rattle.tool_compile.specs.Make.{made_rule}
use Rattle.tool_compile.proofs.MakeSteps.{made_size, made_source, made_fits, not-refused}
use Rattle.tool_compile.proofs.made.made_fit.Goals as goal

pub fit-requires-clause-block : goal.fit-requires-clause-block
fit-requires-clause-block c = subst (λ (r : FitRule). IsBlockOf r.kind r.block) (sym c.made_rule.ensures) (made_size c.args.kind)

pub returns-in-Ok-clause-ready : goal.returns-in-Ok-clause-ready
returns-in-Ok-clause-ready c =
    let number = c.args.number in
    c.fit_is_ready.ensures (frames_of number) (Some second_half) (made_rule c.args.kind) 256 c.in-Ok.fitted refl
    (made_source (frames_of number) c.args.kind (c.made_wave_is_read.ensures.count number) (c.made_wave_is_read.ensures.range number))
    (made_fits (frames_of number) _ _ _ c.args.kind c.in-Ok.fitted (c.as_slice.ensures.list ∙ ap (λ (w : Wave). w.samples) c.in_ok-wave.ensures) c.made_loop-at.ensures c.made_rule.ensures c.in-Ok.ensures.exact)

pub unreachable-requires : goal.unreachable-requires
unreachable-requires c =
    let refused : fit_of c.as_slice.result.now c.made_loop-at.result c.made_rule.result ≡ Err c.in-Err.field-0 → ⊥ =
    not-refused (frames_of c.args.number) _ _ _ c.args.kind c.in-Err.field-0 (c.made_wave_is_read.ensures.count c.args.number)
    (c.as_slice.ensures.list ∙ ap (λ (w : Wave). w.samples) c.in_ok-wave.ensures) c.made_loop-at.ensures c.made_rule.ensures in
    elim c.in-Err.ensures.exact [
      | inl none ↦ c.in-Err.in-Err-own'.refused-1.1 (rw none refl)
      | inr is ↦ refused is
    ]
