-- The decoder of SPU-ADPCM keeps the laws of decoders. The proofs stand here since no definition may cite proofs/.
pub mod States
pub mod Forgetting
pub mod Lanes
pub mod Alike
pub mod Ranges
pub mod Outcomes
pub mod Linear
pub mod Rises
pub mod Boxed
use Rattle.std.proofs.Common.{arith, refl, IsTrue}
use Rattle.machine_core.specs.declared.state.HeadRule.{HeadRule}
use Rattle.machine_core.specs.declared.state.HeadRule.TheVariants.{AnyHead, FilterZero}
use Rattle.machine_core.specs.Rules.{IsMachine}
use Rattle.linear_machine.specs.Laws.Steps.{same-step}
use Rattle.linear_machine.specs.Laws.FloorTruth.{floor-holds, floor-small}
use Rattle.spu_machine.specs.Spu.{spu, output_of, allows_head}
use Rattle.spu_machine.specs.SpuRules.{spu_rules}
use Rattle.spu_machine.specs.Floors.{spu_linear, spu_floor}
use Rattle.spu_machine.specs.Laws.Linear.{spu_is_linear}
use Rattle.spu_machine.specs.Laws.Forgetting.{spu-steps, spu-forgets}
use Rattle.spu_machine.specs.Laws.Lanes.{same-output}
use Rattle.spu_machine.specs.Laws.Alike.{same-floor}
use Rattle.spu_machine.specs.Laws.Ranges.{step-fits, cost-small, all-hold}

-- head 0 is allowed everywhere
head-zero : (rule : HeadRule) → IsTrue (allows_head 0 rule)
head-zero AnyHead = refl
head-zero FilterZero = refl

-- all laws of decoders
pub spu_is_machine : IsMachine spu_rules
unfolding spu_floor
spu_is_machine = record {
  some_samples = omega arith;
  few_samples = omega arith;
  some_symbols = λ p within. omega arith;
  some_head = λ rule. (0, omega arith, head-zero rule);
  start_fits = refl;
  steps = λ head p symbol at head_fits within symbol_fits is. step-fits head p symbol at is;
  costs_small = cost-small;
  forgets = spu-forgets;
  lanes_alike = λ g h p q symbol at g_fits h_fits later after within same. same-step spu output_of spu-steps g h q symbol at (same-output g h symbol at.a at.b same);
  lanes_stay = λ g h p g_fits h_fits later within same. same;
  floors_alike = λ g h p bx targets g_fits h_fits later within same. same-floor g h p targets same;
  floors = λ head p bx targets symbol at head_fits within count samples symbols_fit is_box is inside. floor-holds spu_linear spu_is_linear head p targets symbol at (omega (arith, within)) symbols_fit;
  floors_small = λ head p bx targets head_fits within is_box count samples. (let fits = floor-small spu_linear spu_is_linear head p targets samples in omega (arith, fits));
  whole_is_box = refl;
  whole_holds = all-hold;
  tables_small = omega arith;
}
