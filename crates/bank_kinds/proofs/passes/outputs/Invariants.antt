use Rattle.std.proofs.Common.{◌≡◌}
use Rattle.adpcm_nums.specs.Sample.{AreSamples}
use Rattle.machine_core.specs.Decoder.{start}
use Rattle.machine_core.specs.Blocks.{state_at}
use Rattle.bank_kinds.specs.Chosen.{list_of}
use Rattle.bank_kinds.specs.Passes.{outputs_of}
use Rattle.bank_kinds.proofs.passes.outputs.Given as goal

abbrev pub invariant-loop-i : goal.invariant-loop-i
invariant-loop-i g l = let d = (g.M.Machine.rules l.machine).decoder in record {
  state : l.state ≡ state_at d (list_of l.choice) start l.i;
  outputs : l.outputs ≡ outputs_of d (list_of l.choice) l.i;
  range : AreSamples l.outputs;
}
