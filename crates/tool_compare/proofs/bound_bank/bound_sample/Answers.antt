use Rattle.std.proofs.Common.{◌∙◌, refl}
use Rattle.manifest_reader.specs.Meaning.{content_of}
use Rattle.command_plan.specs.Read.{as_reading}
use Rattle.command_plan.proofs.Readings.{halts_after}
use Rattle.tool_compare.specs.Banks.{stored_read}
use Rattle.tool_compare.proofs.BoundSteps.{is_bounded}
use Rattle.tool_compare.proofs.bound_bank.bound_sample.Goals as goal

pub returns-in-Err-copy_of-clause-told : goal.returns-in-Err-copy_of-clause-told
returns-in-Err-copy_of-clause-told g c = λ files told.
    let got = c.in-Ok.ensures.told files told in
    halts_after (as_reading (stored_read files (content_of c.args.manifest.now) c.args.image.now c.args.j c.args.source.now)) (g.H.Host.world c.args.host.now) (g.H.Host.world c.fetch_error.new.host) got.0

pub returns-clause-told : goal.returns-clause-told
returns-clause-told g c = λ files told.
    let got = c.in-Ok.ensures.told files told in (
      got.0,
      is_bounded files (content_of c.args.manifest.now) c.args.image.now c.args.j c.args.source.now
          (record { name = c.in-Ok-copy_of.name; blocks = c.args.source.now.fitted.blocks; shown = c.shown.result; error = c.in-Ok.error; bound = c.bound_of-bound.result })
          (c.in-Ok-copy_of.ensures ∙ c.as_str.ensures) refl c.shown.ensures got.1 c.bound_of-bound.ensures.bound c.bound_of-bound.ensures.floor c.bound_of-bound.ensures.bare,
    )
