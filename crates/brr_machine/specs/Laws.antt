-- The decoder of BRR keeps the laws of decoders. The proofs stand here since no definition may cite proofs/.
pub mod States
pub mod Forgetting
pub mod Lanes
pub mod Alike
pub mod Ranges
pub mod Equations
pub mod Samples
pub mod Outcomes
pub mod Linear
pub mod Rises
pub mod Cuts
pub mod Parts
pub mod Boxed
use Rattle.std.proofs.Common.{◌≡◌, ℕ, ◌<◌, ◌≤◌, arith, refl, true, IsTrue}
use Rattle.machine_core.specs.declared.state.HeadRule.{HeadRule}
use Rattle.machine_core.specs.declared.state.HeadRule.TheVariants.{AnyHead, FilterZero}
use Rattle.machine_core.specs.Rules.{IsMachine}
use Rattle.linear_machine.specs.Laws.Steps.{same-step}
use Rattle.brr_machine.specs.Brr.{brr, output_of, allows_head}
use Rattle.brr_machine.specs.BrrRules.{brr_rules}
use Rattle.brr_machine.specs.Laws.Linear.{brr-floor-below, brr-floor-fits}
use Rattle.brr_machine.specs.Laws.Forgetting.{brr-steps, brr-forgets}
use Rattle.brr_machine.specs.Laws.Lanes.{same-output}
use Rattle.brr_machine.specs.Laws.Alike.{same-floor}
use Rattle.brr_machine.specs.Laws.Ranges.{step-fits, cost-small, all-hold}

-- head 0 is allowed everywhere
head-zero : (rule : HeadRule) → IsTrue (allows_head 0 rule)
head-zero AnyHead = refl
head-zero FilterZero = refl

-- all laws of decoders
pub brr_is_machine : IsMachine brr_rules
brr_is_machine = record {
  some_samples = omega arith;
  few_samples = omega arith;
  some_symbols = λ p within. omega arith;
  some_head = λ rule. (0, omega arith, head-zero rule);
  start_fits = refl;
  steps = λ head p symbol at head_fits within symbol_fits is. step-fits head p symbol at is;
  costs_small = cost-small;
  forgets = brr-forgets;
  lanes_alike = λ g h p q symbol at g_fits h_fits later after within same. same-step brr output_of brr-steps g h q symbol at (same-output g h symbol at.a at.b same);
  lanes_stay = λ g h p g_fits h_fits later within same. same;
  floors_alike = λ g h p bx targets g_fits h_fits later within same. same-floor g h p targets same;
  floors = λ head p bx targets symbol at head_fits within count samples symbols_fit is_box is inside. brr-floor-below head p targets symbol at within symbols_fit;
  floors_small = λ head p bx targets head_fits within is_box count samples. (let fits = brr-floor-fits head p targets samples in omega (arith, fits));
  whole_is_box = refl;
  whole_holds = all-hold;
  tables_small = omega arith;
}
