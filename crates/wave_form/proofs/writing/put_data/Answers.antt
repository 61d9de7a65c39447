use Rattle.wave_form.proofs.Spelling.{data_all}
use Rattle.wave_form.proofs.writing.put_data.Goals as goal

pub returns : goal.returns
returns c = data_all c.args.out.now.items c.loop-sample.out.items c.args.samples.now c.loop-sample.sample-index c.loop-sample-test.false c.loop-sample.invariant
