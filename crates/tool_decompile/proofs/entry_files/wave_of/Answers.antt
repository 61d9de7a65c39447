use Rattle.std.proofs.Common.{subst}
use Rattle.adpcm_nums.specs.Sample.{AreSamples}
use Rattle.tool_decompile.proofs.EntrySteps.{kept_loop}
use Rattle.tool_decompile.proofs.entry_files.wave_of.Goals as goal

pub returns-in-Some-clause-kept : goal.returns-in-Some-clause-kept
returns-in-Some-clause-kept c =
    kept_loop c.write_wave_loop.result c.args.entry.now c.in-Some.at c.in-Some.is c.requires (subst AreSamples c.as_slice-samples.ensures.list c.as_slice-samples.ensures.range)
    c.written_loop_is_read.ensures.sound c.written_loop_is_read.ensures.first_loop
