use Rattle.std.proofs.Common.{◌∙◌}
use Rattle.manifest_reader.specs.Meaning.{content_of}
use Rattle.command_plan.proofs.ReadOn.{first_halts}
use Rattle.tool_compare.specs.Banks.{image_by}
use Rattle.tool_compare.specs.Bound.{each_list}
use Rattle.tool_compare.proofs.BoundedSteps.{bounds_read}
use Rattle.tool_compare.proofs.bound.fetch_bounds.Goals as goal

pub returns-in-Ok-clause-told : goal.returns-in-Ok-clause-told
returns-in-Ok-clause-told g c = λ files told.
    let got = c.in-Ok.ensures.told files told in
    bounds_read (λ v. v.items) files (content_of c.args.manifest.now) c.args.sources.now c.in-Ok.image c.bound_samples.result (g.H.Host.world c.args.host.now) (g.H.Host.world c.fetch_image.new.host) (g.H.Host.world c.bound_samples.new.host)
    got.0 got.1 (c.bound_samples.ensures.told files (got.0.quiet.files ∙ told))

pub returns-in-Err-clause-told : goal.returns-in-Err-clause-told
returns-in-Err-clause-told g c = λ files told.
    let m = content_of c.args.manifest.now in
    first_halts (image_by m.kind files m) (each_list files m c.args.sources.now) (g.H.Host.world c.args.host.now) (g.H.Host.world c.fetch_image.new.host) c.in-Err.status (c.in-Err.ensures.told files told)
