use Rattle.tool_files.proofs.SourceSteps.{is_source}
use Rattle.tool_files.proofs.read_source.fit_sound.Goals as goal

pub returns-in-Ok-clause-fit : goal.returns-in-Ok-clause-fit
returns-in-Ok-clause-fit c = λ block size.
    c.fit_is_ready.ensures c.as_slice.result.now c.args.at c.args.rule block c.in-Ok.fitted size
    (is_source c.args.wave.now.samples c.as_slice.result.now c.args.at c.args.rule c.as_slice.ensures.list c.requires.count c.requires.range c.requires.inside c.requires.block)
    c.in-Ok.ensures.exact
