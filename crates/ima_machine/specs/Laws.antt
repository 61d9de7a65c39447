-- The decoder of IMA ADPCM keeps the laws of decoders. The proofs stand here since no definition may cite proofs/.
pub mod States
pub mod Stepping
pub mod Pairs
pub mod Chains
pub mod LeastSums
pub mod ChainTruth
pub mod Images
pub mod Slacks
pub mod Boxed
use Rattle.std.proofs.Common.{◌≡◌, ℕ, zero, suc, ◌+◌, ◌-◌, ◌*◌, ◌<◌, ◌≤◌, arith, refl, true, false, IsTrue, ap, sym, inl, inr, ◌⊎◌, ◌∙◌}
use Rattle.std.specs.Prelude.{ℤ, pos, ◌≤ℤ◌, ◌==◌, ◌||◌, int_le, unsigned_abs, List}
use Rattle.std.proofs.lemmas.Int.{ints}
use Rattle.std.proofs.lemmas.Bool.{and_parts, cond_both}
use Rattle.adpcm_nums.specs.Sample.{AreSamples}
use Rattle.adpcm_nums.proofs.IntTests.{from-test}
use Rattle.machine_core.specs.declared.state.State.{State}
use Rattle.machine_core.specs.declared.boxes.Bx.{Bx}
use Rattle.machine_core.specs.Boxes.{InBox}
use Rattle.machine_core.specs.Decoder.{miss}
use Rattle.machine_core.specs.Rules.{IsMachine, tail_cost}
use Rattle.machine_core.proofs.Places.{not-first}
use Rattle.ima_machine.specs.Ima.{ima, is_ima_state, symbols_at}
use Rattle.ima_machine.specs.Boxes.{is_ima_box}
use Rattle.ima_machine.specs.Floors.{ima_floor}
use Rattle.ima_machine.specs.ImaRules.{ima_rules}
use Rattle.ima_machine.specs.Laws.Stepping.{step-fits, cost-small, ima-forgets, same-step, all-hold}
use Rattle.ima_machine.specs.Laws.Chains.{floor-small, floor-first, same-floor}
use Rattle.ima_machine.specs.Laws.ChainTruth.{floor-true}

some-symbols : (p : ℕ) → 0 < symbols_at p
some-symbols p = cond_both (p == 0) 65536 16 (λ n. 0 < n) (λ _. omega arith) (λ _. omega arith)

-- a box after the first place has one index, which is that of its states
one-index : (p : ℕ) (bx : Bx) (at : State) → IsTrue (is_ima_box (suc p) bx) → InBox at bx → unsigned_abs at.b ≡ unsigned_abs bx.b.lo
one-index p bx at is inside =
    let parts = (and_parts _ _ (and_parts _ _ is).1).1 in
    let first : (suc p == 0) ≡ false = not-first (suc p) (omega arith) in
    let one : int_le bx.b.hi bx.b.lo ≡ true = sym (ap (λ b. b || int_le bx.b.hi bx.b.lo) first) ∙ parts in
    let le = from-test bx.b.hi bx.b.lo one in
    let above = inside.in_b.above in let below = inside.in_b.below in omega (arith, ints)

box-floor-true : (samples head p : ℕ) (bx : Bx) (targets : List ℤ) (symbol : ℕ → ℕ) (at : State) → head < 89 → p < samples
    → ((q : ℕ) → q < samples → symbol q < symbols_at q) → IsTrue (is_ima_box p bx) → IsTrue (is_ima_state at) → InBox at bx
    → ima_floor samples head p (unsigned_abs bx.b.lo) targets ≤ tail_cost (ima samples) (miss (ima samples) targets) head symbol p at (samples - p)
box-floor-true samples head zero bx targets symbol at head_fits within fit is_box is inside =
    let below = floor-true samples head 0 targets symbol at head_fits within fit is in
    omega (arith, below, floor-first samples head (unsigned_abs at.b) targets, floor-first samples head (unsigned_abs bx.b.lo) targets)
box-floor-true samples head (suc p) bx targets symbol at head_fits within fit is_box is inside =
    let below = floor-true samples head (suc p) targets symbol at head_fits within fit is in
    let same = ap (λ i. ima_floor samples head (suc p) i targets) (one-index p bx at is_box inside) in
    omega (arith, below, same)

-- all laws of decoders
pub ima_is_machine : (samples : ℕ) → 0 < samples → samples ≤ 4095 → IsMachine (ima_rules samples)
ima_is_machine samples some few = record {
  some_samples = some;
  few_samples = omega (arith, few);
  some_symbols = λ p within. some-symbols p;
  some_head = λ rule. (0, omega arith, refl);
  start_fits = refl;
  steps = λ head p symbol at head_fits within symbol_fits is. step-fits head p symbol at head_fits symbol_fits is;
  costs_small = cost-small samples;
  forgets = ima-forgets samples some;
  lanes_alike = λ g h p q symbol at g_fits h_fits later after within same. same-step g h q symbol at (omega arith);
  lanes_stay = λ g h p g_fits h_fits later within same. refl;
  floors_alike = λ g h p bx targets g_fits h_fits later within same. same-floor samples g h p (unsigned_abs bx.b.lo) targets later;
  floors = λ head p bx targets symbol at head_fits within count range symbols_fit is_box is inside. box-floor-true samples head p bx targets symbol at head_fits within symbols_fit is_box is inside;
  floors_small = λ head p bx targets head_fits within is_box count range. floor-small samples head p (unsigned_abs bx.b.lo) targets few range;
  whole_is_box = refl;
  whole_holds = all-hold;
  tables_small = omega arith;
}
