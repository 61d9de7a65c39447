use Rattle.std.proofs.Common.{◌∙◌, refl}
use Rattle.manifest_reader.specs.Meaning.{content_of}
use Rattle.tool_compare.proofs.CheckSteps.{stored_halts, proven_halts, sample_short, sample_done}
use Rattle.tool_compare.proofs.check_bank.check_sample.Goals as goal

pub returns-in-Err-clause-told : goal.returns-in-Err-clause-told
returns-in-Err-clause-told g c = λ files told.
    stored_halts files (content_of c.args.manifest.now) c.args.image.now c.args.j c.args.source.now (g.H.Host.world c.args.host.now) (g.H.Host.world c.fetch_error.new.host) c.in-Err.status (c.in-Err.ensures.told files told)

pub returns-in-Err-fetch_proven-clause-told : goal.returns-in-Err-fetch_proven-clause-told
returns-in-Err-fetch_proven-clause-told g c = λ files told.
    let got = c.in-Ok.ensures.told files told in
    proven_halts files (content_of c.args.manifest.now) c.args.image.now c.args.j c.args.source.now c.in-Ok.error (g.H.Host.world c.args.host.now) (g.H.Host.world c.fetch_error.new.host) (g.H.Host.world c.fetch_proven.new.host) c.in-Err-fetch_proven.status
    (record { read = got.0; is = got.1 }) (c.in-Err-fetch_proven.ensures.told files (got.0.quiet.files ∙ told))

pub returns-in-Err-copy_of-clause-told : goal.returns-in-Err-copy_of-clause-told
returns-in-Err-copy_of-clause-told g c = λ files told.
    let got = c.in-Ok.ensures.told files told in
    let and = c.in-Ok-fetch_proven.ensures.told files (got.0.quiet.files ∙ told) in
    sample_short files (content_of c.args.manifest.now) c.args.image.now c.args.j c.args.source.now c.in-Ok.error c.in-Ok-fetch_proven.proven (g.H.Host.world c.args.host.now) (g.H.Host.world c.fetch_error.new.host) (g.H.Host.world c.fetch_proven.new.host)
    (record { read = got.0; is = got.1 }) (record { read = and.0; gives = and.1.0; certified = and.1.1; bound = c.in-Ok-fetch_proven.ensures.bound })

pub returns-clause-told : goal.returns-clause-told
returns-clause-told g c = λ files told.
    let got = c.in-Ok.ensures.told files told in
    let and = c.in-Ok-fetch_proven.ensures.told files (got.0.quiet.files ∙ told) in
    let all = sample_done files (content_of c.args.manifest.now) c.args.image.now c.args.j c.args.source.now c.in-Ok.error c.in-Ok-fetch_proven.proven
    (record { name = c.in-Ok-copy_of.name; blocks = c.args.source.now.fitted.blocks; shown = c.shown.result; error = c.in-Ok.error; bound = c.in-Ok-fetch_proven.proven.bound; levels = c.in-Ok-fetch_proven.proven.levels })
    (g.H.Host.world c.args.host.now) (g.H.Host.world c.fetch_error.new.host) (g.H.Host.world c.fetch_proven.new.host)
    (record { read = got.0; is = got.1 }) (record { read = and.0; gives = and.1.0; certified = and.1.1; bound = c.in-Ok-fetch_proven.ensures.bound })
    (record { name_is = c.in-Ok-copy_of.ensures ∙ c.as_str.ensures; blocks_are = refl; loop_is = c.shown.ensures; error_is = refl; bound_is = refl; levels_are = refl }) in
    (all.0, (all.1, all.2))
