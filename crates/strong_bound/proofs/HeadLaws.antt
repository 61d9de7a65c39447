-- What a head's windows say of its decoder, and bounds under each head.
use Rattle.std.proofs.Common.{◌≡◌, ℕ, ◌+◌, ◌<◌, ◌≤◌, arith, ap, sym, subst, ◌∙◌, inl, inr, IsTrue, List, get_or, take, below_more, to_z, of_z, w64}
use Rattle.std.specs.Prelude.{◌⊎◌, ℤ, pos}
use Rattle.std.proofs.lemmas.Int.{ints}
use Rattle.machine_core.specs.declared.state.State.{State}
use Rattle.machine_core.specs.declared.state.HeadRule.{HeadRule}
use Rattle.machine_core.specs.Decoder.{Decoder}
use Rattle.window_floor.specs.declared.block.BlockWindows.{BlockWindows}
use Rattle.window_floor.specs.Numbers.{StandFor, windows_of}
use Rattle.window_floor.specs.Windows.{Windows, floor_from}
use Rattle.linear_machine.specs.Linear.{Linear, IsLinear}
use Rattle.strong_bound.specs.Quiet.{far_cost, shortened, IsUnderSymbols, HoldsRests, IsUnderStates, IsUnderEntry, entering_cost}
use Rattle.strong_bound.proofs.RestLaws.{rests-for}
use Rattle.strong_bound.proofs.SymbolCounts.{rest-under, under-more}

pub places-are : (l : Linear) → IsLinear l → (d : Decoder) → l.decoder ≡ d → (w : BlockWindows) (head : ℕ) → windows_of w (l.windows head).samples ≡ l.windows head → w.places ≡ d.samples
places-are l is d e w head same = ap (λ (b : Windows). b.places) same ∙ is.places head ∙ ap (λ (d : Decoder). d.samples) e

scale-same : (l : Linear) (w : BlockWindows) (head : ℕ) → windows_of w (l.windows head).samples ≡ l.windows head → w.row.scale ≡ (l.windows head).row.scale
scale-same l w head same = ap (λ (b : Windows). b.row.scale) same

small : (s : ℤ) → (s ≡ pos 1) ⊎ (s ≡ pos 2) → to_z w64 (of_z w64 s) ≡ s
small s is = elim is [
  | inl w ↦ omega (arith, ints, w)
  | inr w ↦ omega (arith, ints, w)
]

-- its scale is 1 or 2
is-scale : (l : Linear) → IsLinear l → (w : BlockWindows) (head : ℕ) → windows_of w (l.windows head).samples ≡ l.windows head → (w.row.scale ≡ pos 1) ⊎ (w.row.scale ≡ pos 2)
is-scale l is w head same = subst (λ (s : ℤ). (s ≡ pos 1) ⊎ (s ≡ pos 2)) (sym (scale-same l w head same)) (is.sound head).scale

-- in the code's words
pub scale-fits : (l : Linear) → IsLinear l → (w : BlockWindows) (head : ℕ) → windows_of w (l.windows head).samples ≡ l.windows head → (to_z w64 (of_z w64 w.row.scale) ≡ pos 1) ⊎ (to_z w64 (of_z w64 w.row.scale) ≡ pos 2)
scale-fits l is w head same =
    let told = is-scale l is w head same in
    subst (λ (s : ℤ). (s ≡ pos 1) ⊎ (s ≡ pos 2)) (sym (small w.row.scale told)) told

-- and the decoder's
pub scale-told : (l : Linear) → IsLinear l → (d : Decoder) → l.decoder ≡ d → (w : BlockWindows) (head : ℕ) → windows_of w (l.windows head).samples ≡ l.windows head → to_z w64 (of_z w64 w.row.scale) ≡ pos d.scale
scale-told l is d e w head same = small w.row.scale (is-scale l is w head same) ∙ scale-same l w head same ∙ is.scale head ∙ ap (λ (d : Decoder). pos d.scale) e

-- a bound under the floors alone
pub floor-under : (d : Decoder) (aim : State) (targets : List ℤ) (twice head : ℕ) (rests : List ℕ) (bound : ℕ) → HoldsRests d targets twice head rests → bound ≤ get_or rests 0 0 → IsUnderStates d aim targets twice head bound
unfolding IsUnderStates
floor-under d aim targets twice head rests bound holds low = λ at fits. rest-under d targets twice head rests 0 at (entering_cost d aim at) bound holds (omega arith) fits (omega (arith, low))

-- the entry at a block's begin
pub entry-under : (d : Decoder) (aim : State) (targets : List ℤ) (twice head bound : ℕ) → IsUnderEntry d (record { place = 0; aim = aim; last = 1; older = 1 }) targets twice head bound → IsUnderStates d aim targets twice head bound
unfolding IsUnderStates IsUnderEntry
entry-under d aim targets twice head bound under = λ at fits. under-more d targets twice head 0 at _ (entering_cost d aim at) bound bound (omega arith) (omega arith) (under at fits)

-- a lower bound
pub states-less : (d : Decoder) (aim : State) (targets : List ℤ) (twice head bound less : ℕ) → less ≤ bound → IsUnderStates d aim targets twice head bound → IsUnderStates d aim targets twice head less
unfolding IsUnderStates
states-less d aim targets twice head bound less low under = λ at fits. under-more d targets twice head 0 at (entering_cost d aim at) (entering_cost d aim at) bound less (omega arith) low (under at fits)

-- nothing is below 0
pub states-zero : (d : Decoder) (aim : State) (targets : List ℤ) (twice head : ℕ) → IsUnderStates d aim targets twice head 0
unfolding IsUnderStates IsUnderSymbols
states-zero d aim targets twice head = λ at fits symbol are. omega arith

-- one more head, where the rule allows it
pub heads-more : (d : Decoder) (rule : HeadRule) (aim : State) (targets : List ℤ) (twice n bound less : ℕ) → ((head : ℕ) → head < n → IsTrue (d.allows head rule) → IsUnderStates d aim targets twice head bound) → less ≤ bound
    → (IsTrue (d.allows n rule) → IsUnderStates d aim targets twice n less) → (head : ℕ) → head < n + 1 → IsTrue (d.allows head rule) → IsUnderStates d aim targets twice head less
heads-more d rule aim targets twice n bound less front low last =
    below_more (λ k. IsTrue (d.allows k rule) → IsUnderStates d aim targets twice k less) n
    (λ k within allowed. states-less d aim targets twice k bound less low (front k within allowed))
    last

-- the table of a head's floors is one of rests
pub head-rests : (l : Linear) → IsLinear l → (d : Decoder) → l.decoder ≡ d → (w : BlockWindows) (head : ℕ) → windows_of w (l.windows head).samples ≡ l.windows head → StandFor w (l.windows head).samples
    → (targets : List ℤ) (twice : ℕ) (rests : List ℕ) → twice ≤ d.samples
    → ((samples : List ℤ) (p : ℕ) → StandFor w samples → p ≤ twice → get_or rests p 0 ≤ floor_from (windows_of w samples) targets p + floor_from (shortened (windows_of w samples) twice) (take twice targets) p)
    → ((samples : List ℤ) (p : ℕ) → StandFor w samples → twice < p → p ≤ w.places → get_or rests p 0 ≤ floor_from (windows_of w samples) targets p)
    → HoldsRests d targets twice head rests
head-rests l is d e w head same stand targets twice rests few front back =
    let samples = (l.windows head).samples in
    let places = places-are l is d e w head same in
    rests-for l is d e (windows_of w samples) targets twice head rests w.places few same (omega (arith, places)) (λ p h. front samples p stand h) (λ p h k. back samples p stand h k)

-- where little is counted, all that may cost less is near
pub near-enough : (scale : ℤ) (rest top : ℕ) → (scale ≡ pos 1) ⊎ (scale ≡ pos 2) → top ≤ 256 → top ≤ rest + far_cost scale
near-enough scale rest top is few = elim is [
  | inl w ↦ subst (λ (s : ℤ). top ≤ rest + far_cost s) (sym w) (omega (arith, few))
  | inr w ↦ subst (λ (s : ℤ). top ≤ rest + far_cost s) (sym w) (omega (arith, few))
]
