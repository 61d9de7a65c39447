-- A bound under each head that a block may have is at most what the block's window counts of every legal list.
use Rattle.std.proofs.Common.{◌≡◌, ℕ, zero, suc, ◌+◌, ◌-◌, ◌*◌, ◌<◌, ◌≤◌, arith, refl, ap, sym, subst, ◌∙◌, Bool, IsTrue, List, get_or}
use Rattle.std.specs.Prelude.{ℤ, pos, ◌*ℤ◌, ◌-ℤ◌}
use Rattle.adpcm_nums.specs.Nums.{square_of}
use Rattle.machine_core.specs.declared.state.HeadRule.{HeadRule}
use Rattle.machine_core.specs.Decoder.{Decoder, start}
use Rattle.machine_core.specs.Blocks.{Blocks, IsLegal, rule_of, state_at}
use Rattle.machine_core.specs.Sums.{cost_at}
use Rattle.row_bound.specs.Windows.{tail, enter}
use Rattle.linear_machine.specs.Linear.{Linear, IsLinear}
use Rattle.linear_machine.proofs.Outputs.{output-stays}
use Rattle.strong_bound.specs.Counted.{own_count, is_left, enters, counted, IsUnder, AreTargets}
use Rattle.strong_bound.proofs.BlockOutputs.{block-outputs, cost-is}
use Rattle.strong_bound.proofs.Unders.{under-for}

-- what an output before a block counts in its window
abbrev before : (l : Linear) → ℕ → ℤ → ℤ → ℕ
before l head y t = square_of ((l.windows head).row.scale *ℤ y -ℤ t)

-- under the list's own head
under-list : (l : Linear) → IsLinear l → (fixed : ℕ → Bool) (blocks : ℕ) (list : Blocks) → IsLegal l.decoder blocks fixed list → (targets xs : List ℤ) (leaving : Bool) (entering b bound : ℕ) → b < blocks
    → AreTargets l.decoder.samples targets b xs
    → ((head : ℕ) → head < l.decoder.heads → IsTrue (l.decoder.allows head (rule_of fixed b)) → IsUnder (l.windows head) leaving entering xs bound)
    → bound ≤ entering * before l (get_or list.heads b 0) (state_at l.decoder list start (b * l.decoder.samples)).b (get_or xs 0 (pos 0))
    + entering * before l (get_or list.heads b 0) (state_at l.decoder list start (b * l.decoder.samples)).a (get_or xs 1 (pos 0))
    + own_count leaving (cost_at l.decoder list targets) (b * l.decoder.samples) l.decoder.samples
unfolding IsUnder
under-list l is fixed blocks list legal targets xs leaving entering b bound below are under =
    under (get_or list.heads b 0) (legal.in_range.heads_fit b below) (legal.obeys.allowed b below) _ _ _ (block-outputs l is list targets xs leaving blocks b legal.in_range below are)

-- the two outputs before a sample count what their samples cost
before-costs : (l : Linear) → IsLinear l → (list : Blocks) (targets : List ℤ) (head m : ℕ) (tr to : ℤ) → tr ≡ get_or targets m (pos 0) → to ≡ get_or targets (suc m) (pos 0)
    → before l head (state_at l.decoder list start (suc (suc m))).b tr + before l head (state_at l.decoder list start (suc (suc m))).a to ≡ tail (cost_at l.decoder list targets) (suc (suc m))
unfolding tail
before-costs l is list targets head m tr to e g =
    let f = cost_at l.decoder list targets in
    let older = ap (λ (y : ℤ). before l head y tr) (output-stays l is list start (suc m)) ∙ cost-is l is list targets head m tr e in
    let last = cost-is l is list targets head (suc m) to g in
    let p : f (suc (suc m) - 2) ≡ f m = ap f (omega arith) in
    let q : f (suc (suc m) - 1) ≡ f (suc m) = ap f (omega arith) in
    ap (λ (z : ℕ). z + before l head (state_at l.decoder list start (suc (suc m))).a to) older ∙ ap (λ (z : ℕ). f m + z) last ∙ sym (ap (λ (z : ℕ). z + f (suc (suc m) - 1)) p ∙ ap (λ (z : ℕ). f m + z) q)

-- the same at any sample from the third on
costs-before : (l : Linear) → IsLinear l → (list : Blocks) (targets : List ℤ) (head i : ℕ) (tr to : ℤ) → 2 ≤ i → tr ≡ get_or targets (i - 2) (pos 0) → to ≡ get_or targets (i - 1) (pos 0)
    → before l head (state_at l.decoder list start i).b tr + before l head (state_at l.decoder list start i).a to ≡ tail (cost_at l.decoder list targets) i
costs-before l is list targets head i tr to h e g =
    let here : suc (suc (i - 2)) ≡ i = omega (arith, h) in
    let next : i - 1 ≡ suc (i - 2) = omega (arith, h) in
    subst (λ (k : ℕ). before l head (state_at l.decoder list start k).b tr + before l head (state_at l.decoder list start k).a to ≡ tail (cost_at l.decoder list targets) k) here
    (before-costs l is list targets head (i - 2) tr to e (g ∙ ap (λ (z : ℕ). get_or targets z (pos 0)) next))

-- nothing is counted before the first two blocks
none-before : (bound x y c e all : ℕ) → bound ≤ 0 * x + 0 * y + c → all ≡ e + c → bound ≤ all
none-before bound x y c e all h s = omega (arith, h, s)

-- before the others it is what the two samples cost
some-before : (bound x y c e all : ℕ) → bound ≤ 1 * x + 1 * y + c → x + y ≡ e → all ≡ e + c → bound ≤ all
some-before bound x y c e all h p s = omega (arith, h, p, s)

second-reaches : (k n : ℕ) → 2 ≤ n → 2 ≤ suc (suc k) * n
second-reaches k n h = let p : suc (suc k) * n ≡ n + (n + k * n) = omega arith in omega (arith, p, h)

-- so it is what the window counts
pub counted-below : (l : Linear) → IsLinear l → (fixed : ℕ → Bool) (blocks : ℕ) (list : Blocks) → IsLegal l.decoder blocks fixed list → 2 ≤ l.decoder.samples → (targets xs : List ℤ) (b bound : ℕ) → b < blocks
    → AreTargets l.decoder.samples targets b xs
    → ((head : ℕ) → head < l.decoder.heads → IsTrue (l.decoder.allows head (rule_of fixed b)) → IsUnder (l.windows head) (is_left blocks b) (enters b) xs bound)
    → bound ≤ counted l.decoder.samples (cost_at l.decoder list targets) blocks b
unfolding counted enter
counted-below l is fixed blocks list legal some targets xs zero bound below are under =
    none-before bound _ _ _ 0 _ (under-list l is fixed blocks list legal targets xs (is_left blocks 0) 0 0 bound below are under) refl
counted-below l is fixed blocks list legal some targets xs (suc zero) bound below are under =
    none-before bound _ _ _ 0 _ (under-list l is fixed blocks list legal targets xs (is_left blocks 1) 0 1 bound below are under) refl
counted-below l is fixed blocks list legal some targets xs (suc (suc k)) bound below are under =
    some-before bound _ _ _ _ _ (under-list l is fixed blocks list legal targets xs (is_left blocks (suc (suc k))) 1 (suc (suc k)) bound below are under)
    (costs-before l is list targets (get_or list.heads (suc (suc k)) 0) (suc (suc k) * l.decoder.samples) (get_or xs 0 (pos 0)) (get_or xs 1 (pos 0)) (second-reaches k l.decoder.samples some)
    (are.older (omega arith)) (are.last (omega arith))) refl

-- the same for the decoder that a machine means
pub counted-for : (l : Linear) → IsLinear l → (d : Decoder) → l.decoder ≡ d → (fixed : ℕ → Bool) (blocks : ℕ) (list : Blocks) → IsLegal d blocks fixed list → 2 ≤ d.samples → (targets xs : List ℤ) (b bound : ℕ) → b < blocks
    → AreTargets d.samples targets b xs
    → ((head : ℕ) → head < d.heads → IsTrue (d.allows head (rule_of fixed b)) → IsUnder (l.windows head) (is_left blocks b) (enters b) xs bound)
    → bound ≤ counted d.samples (cost_at d list targets) blocks b
counted-for l is d e fixed blocks list legal some targets xs b bound below are under =
    subst (λ (d : Decoder). IsLegal d blocks fixed list → 2 ≤ d.samples → AreTargets d.samples targets b xs
    → ((head : ℕ) → head < d.heads → IsTrue (d.allows head (rule_of fixed b)) → IsUnder (l.windows head) (is_left blocks b) (enters b) xs bound)
    → bound ≤ counted d.samples (cost_at d list targets) blocks b) e
    (λ legal some are under. counted-below l is fixed blocks list legal some targets xs b bound below are under) legal some are under

-- the same where the rule, and how often the samples at the block's ends are counted, are known by other words
pub counted-with : (l : Linear) → IsLinear l → (d : Decoder) → l.decoder ≡ d → (rule : HeadRule) (leaving : Bool) (entering : ℕ) (fixed : ℕ → Bool) (blocks : ℕ) (list : Blocks) → IsLegal d blocks fixed list
    → 2 ≤ d.samples → (targets xs : List ℤ) (b bound : ℕ) → b < blocks → rule ≡ rule_of fixed b → leaving ≡ is_left blocks b → entering ≡ enters b → AreTargets d.samples targets b xs
    → ((head : ℕ) → head < d.heads → IsTrue (d.allows head rule) → IsUnder (l.windows head) leaving entering xs bound)
    → bound ≤ counted d.samples (cost_at d list targets) blocks b
counted-with l is d e rule leaving entering fixed blocks list legal some targets xs b bound below ruled left entered are under =
    counted-for l is d e fixed blocks list legal some targets xs b bound below are
    (λ head h allowed. under-for (l.windows head) leaving (is_left blocks b) entering (enters b) xs bound left entered (under head h (subst (λ (q : HeadRule). IsTrue (d.allows head q)) (sym ruled) allowed)))
