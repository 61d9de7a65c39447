-- A bound under what is counted from every state is at most what a block's window counts of every legal list.
use Rattle.std.proofs.Common.{◌≡◌, ℕ, zero, suc, ◌+◌, ◌-◌, ◌*◌, ◌<◌, ◌≤◌, arith, refl, ap, sym, subst, ◌∙◌, Bool, true, false, IsTrue, List, get_or, length, to_z, of_z, w32}
use Rattle.std.proofs.Math.Nat.{sub-zero}
use Rattle.std.specs.Prelude.{ℤ, pos, ◌*ℤ◌, ◌-ℤ◌}
use Rattle.std.proofs.lemmas.Int.{ints}
use Rattle.adpcm_nums.specs.Nums.{square_of}
use Rattle.adpcm_nums.specs.Sample.{IsSample, AreSamples}
use Rattle.machine_core.specs.declared.state.State.{State}
use Rattle.machine_core.specs.declared.state.HeadRule.{HeadRule}
use Rattle.machine_core.specs.Decoder.{Decoder, start, cost_of, miss}
use Rattle.machine_core.specs.Blocks.{Blocks, IsLegal, rule_of, symbol_at, state_at}
use Rattle.machine_core.specs.Sums.{cost_at, sum_after}
use Rattle.machine_core.specs.Rules.{Rules, IsMachine, tail_cost}
use Rattle.machine_core.specs.Floors.{block_targets}
use Rattle.machine_core.proofs.BlockFloors.{tail-is}
use Rattle.machine_core.proofs.Places.{place-of, block-ends}
use Rattle.machine_core.proofs.States.{states}
use Rattle.row_bound.specs.Windows.{sum_from, half_from, tail, enter}
use Rattle.strong_bound.specs.Counted.{own_count, is_left, enters, counted}
use Rattle.strong_bound.specs.Quiet.{twice_of, AreSymbols, count_from, IsUnderSymbols, IsUnderStates, entering_cost}

sums-same : (d : Decoder) (list : Blocks) (targets : List ℤ) (i n : ℕ) → sum_after d (miss d targets) list (state_at d list start i) i n ≡ sum_from (cost_at d list targets) i n
unfolding sum_from
sums-same d list targets i zero = refl
sums-same d list targets i (suc n) = ap (λ z. cost_at d list targets i + z) (sums-same d list targets (suc i) n)

half-is : (f : ℕ → ℕ) (i n : ℕ) → half_from f i n ≡ sum_from f i n + sum_from f i (n - 2)
unfolding half_from sum_from
half-is f i zero = refl
half-is f i (suc zero) = omega arith
half-is f i (suc (suc zero)) = omega arith
half-is f i (suc (suc (suc n))) =
    let rest = half-is f (suc i) (suc (suc n)) in
    let one : suc (suc (suc n)) - 2 ≡ suc n = omega arith in
    let none : suc (suc n) - 2 ≡ n = omega arith in
    let here = ap (sum_from f i) one in
    let behind = ap (sum_from f (suc i)) none in
    omega (arith, rest, here, behind)

-- what samples of a block are counted at: all once, and the first ones once more
own-sums : (leaving : Bool) (f : ℕ → ℕ) (i n : ℕ) → own_count leaving f i n ≡ sum_from f i n + sum_from f i (twice_of leaving n)
unfolding own_count
own-sums true f i n = half-is f i n
own-sums false f i n = omega arith

twice-few : (leaving : Bool) (n : ℕ) → twice_of leaving n ≤ n
twice-few true n = omega arith
twice-few false n = omega arith

-- a decoder that keeps its last output behind the new one
abbrev pub Keeps : Decoder → Type 0
Keeps d = (list : Blocks) (i : ℕ) → (state_at d list start (suc i)).b ≡ (state_at d list start i).a

entering-is : (d : Decoder) → Keeps d → (list : Blocks) (targets : List ℤ) (m : ℕ) (aim : State) → aim.b ≡ get_or targets m (pos 0) → aim.a ≡ get_or targets (suc m) (pos 0)
    → entering_cost d aim (state_at d list start (suc (suc m))) ≡ tail (cost_at d list targets) (suc (suc m))
unfolding tail
entering-is d keeps list targets m aim b a =
    let f = cost_at d list targets in
    let at = state_at d list start (suc (suc m)) in
    let older : square_of (pos d.scale *ℤ at.b -ℤ aim.b) ≡ f m =
    ap (λ (y : ℤ). square_of (pos d.scale *ℤ y -ℤ aim.b)) (keeps list (suc m)) ∙ ap (λ (t : ℤ). square_of (pos d.scale *ℤ (state_at d list start (suc m)).a -ℤ t)) b in
    let last : cost_of d at aim.a ≡ f (suc m) = ap (λ (t : ℤ). cost_of d at t) a in
    let p : f (suc (suc m) - 2) ≡ f m = ap f (omega arith) in
    let q : f (suc (suc m) - 1) ≡ f (suc m) = ap f (omega arith) in
    omega (arith, older, last, p, q)

-- the same at any sample from the third on
entering-at : (d : Decoder) → Keeps d → (list : Blocks) (targets : List ℤ) (i : ℕ) (aim : State) → 2 ≤ i → aim.b ≡ get_or targets (i - 2) (pos 0) → aim.a ≡ get_or targets (i - 1) (pos 0)
    → entering_cost d aim (state_at d list start i) ≡ tail (cost_at d list targets) i
entering-at d keeps list targets i aim h b a =
    let here : suc (suc (i - 2)) ≡ i = omega (arith, h) in
    let next : i - 1 ≡ suc (i - 2) = omega (arith, h) in
    subst (λ (k : ℕ). entering_cost d aim (state_at d list start k) ≡ tail (cost_at d list targets) k) here
    (entering-is d keeps list targets (i - 2) aim b (a ∙ ap (λ (z : ℕ). get_or targets z (pos 0)) next))

-- what a block of a list counts of its own samples
own-is : (r : Rules) (list : Blocks) (targets : List ℤ) (leaving : Bool) (b : ℕ) → count_from r.decoder (block_targets r targets b) (twice_of leaving r.decoder.samples) (get_or list.heads b 0) (λ q. symbol_at list (b * r.decoder.samples + q)) 0 (state_at r.decoder list start (b * r.decoder.samples))
    ≡ own_count leaving (cost_at r.decoder list targets) (b * r.decoder.samples) r.decoder.samples
unfolding count_from
own-is r list targets leaving b =
    let d = r.decoder in
    let n = d.samples in
    let i = b * n in
    let at = state_at d list start i in
    let part : (count : ℕ) → count ≤ n → tail_cost d (miss d (block_targets r targets b)) (get_or list.heads b 0) (λ q. symbol_at list (i + q)) 0 at (count - 0) ≡ sum_from (cost_at d list targets) i count =
    λ count h. ap (tail_cost d (miss d (block_targets r targets b)) (get_or list.heads b 0) (λ q. symbol_at list (i + q)) 0 at) (sub-zero count) ∙ tail-is r list targets at b 0 i count (omega arith) (omega (arith, h)) ∙ sums-same d list targets i count in
    let few = twice-few leaving n in
    let whole = part n (omega arith) in
    let first = part (twice_of leaving n) few in
    let all = own-sums leaving (cost_at d list targets) i n in
    omega (arith, whole, first, all)

-- the samples before a block count where it is the third or later
enters-some : (n : ℕ) (f : ℕ → ℕ) (b : ℕ) → 0 < enters b → enter n f b ≡ tail f (b * n)
unfolding enter
enters-some n f zero h = absurd (omega (arith, h))
enters-some n f (suc zero) h = absurd (omega (arith, h))
enters-some n f (suc (suc b)) h = refl

pub later-enough : (n b : ℕ) → 2 ≤ n → 0 < b → 2 ≤ b * n
later-enough n b h some = let p : (b - 1 + 1) * n ≡ (b - 1) * n + n = omega arith in let q : b ≡ b - 1 + 1 = omega (arith, some) in let r : b * n ≡ (b - 1 + 1) * n = ap (λ z. z * n) q in omega (arith, p, r, h)

-- the bound and the list
pub quiet-counted : (r : Rules) → IsMachine r → Keeps r.decoder → (rule : HeadRule) (leaving : Bool) (fixed : ℕ → Bool) (blocks b bound : ℕ) (list : Blocks) → IsLegal r.decoder blocks fixed list → 2 ≤ r.decoder.samples
    → (targets own : List ℤ) (aim : State) → 0 < b → b < blocks → rule ≡ rule_of fixed b → leaving ≡ is_left blocks b → 0 < enters b → own ≡ block_targets r targets b
    → aim.b ≡ get_or targets (b * r.decoder.samples - 2) (pos 0) → aim.a ≡ get_or targets (b * r.decoder.samples - 1) (pos 0)
    → ((head : ℕ) → head < r.decoder.heads → IsTrue (r.decoder.allows head rule) → IsUnderStates r.decoder aim own (twice_of leaving r.decoder.samples) head bound)
    → bound ≤ counted r.decoder.samples (cost_at r.decoder list targets) blocks b
unfolding IsUnderStates IsUnderSymbols counted
quiet-counted r laws keeps rule leaving fixed blocks b bound list legal some targets own aim later below ruled left entered same older last under =
    let d = r.decoder in
    let n = d.samples in
    let i = b * n in
    let head = get_or list.heads b 0 in
    let symbol : ℕ → ℕ = λ q. symbol_at list (i + q) in
    let ends = block-ends b n blocks below in
    let allowed = subst (λ (q : HeadRule). IsTrue (d.allows head q)) (sym ruled) (legal.obeys.allowed b below) in
    let fits = states r laws blocks list legal.in_range start laws.start_fits i (omega (arith, ends)) in
    let are : AreSymbols d symbol = λ q before. subst (λ (z : ℕ). symbol_at list (i + q) < d.symbols z) (place-of b n q (i + q) refl before) (legal.in_range.symbols_fit (i + q) (omega (arith, ends, before))) in
    let bounded = under head (legal.in_range.heads_fit b below) allowed (state_at d list start i) fits symbol are in
    let told = subst (λ (ts : List ℤ). bound ≤ entering_cost d aim (state_at d list start i) + count_from d ts (twice_of leaving n) head symbol 0 (state_at d list start i)) same bounded in
    let all = own-is r list targets leaving b in
    let before = entering-at d keeps list targets i aim (later-enough n b some later) older last in
    let enters_at = enters-some n (cost_at d list targets) b entered in
    let leaves : own_count leaving (cost_at d list targets) i n ≡ own_count (is_left blocks b) (cost_at d list targets) i n = ap (λ (z : Bool). own_count z (cost_at d list targets) i n) left in
    omega (arith, told, all, before, enters_at, leaves)

-- a target that the code read
pub read-target : (targets : List ℤ) → AreSamples targets → (at place : ℕ) → at ≡ place → at < length targets → to_z w32 (of_z w32 (get_or targets at (pos 0))) ≡ get_or targets place (pos 0)
read-target targets are at place e within =
    let fits : IsSample (get_or targets at (pos 0)) = are at (pos 0) within in
    let same : to_z w32 (of_z w32 (get_or targets at (pos 0))) ≡ get_or targets at (pos 0) = omega (arith, ints, fits.low, fits.high) in
    same ∙ ap (λ (z : ℕ). get_or targets z (pos 0)) e
