-- A list that grows at its end keeps its states and its sum.
use Rattle.std.proofs.Common.{◌≡◌, ℕ, zero, suc, ◌+◌, ◌*◌, ◌%◌, ◌/◌, ◌<◌, ◌≤◌, ◌⊎◌, inl, inr, ℤ, pos, List, [], ◌∷◌, ◌++◌, length, get_or, arith, refl, ap, sym, ◌∙◌, subst, true, Bool, cond, nat_eq, length-append}
use Rattle.std.proofs.Math.Nat.{mod-lt, mod-eq_of_lt, div-eq_of_lt, eq-or-lt_of_le}
use Rattle.std.proofs.lemmas.Nat.{div-add-mod'}
use Rattle.branch_bound.specs.Walks.{begun, list_of}
use Rattle.box_layers.proofs.Sound.{block-over, block-within, place-over, place-within}
use Rattle.machine_core.proofs.Places.{block-below}
use Rattle.machine_core.specs.Blocks.{Blocks, first_only, head_at, rule_of, state_at, symbol_at}
use Rattle.machine_core.specs.Decoder.{cost_of, start}
use Rattle.machine_core.specs.Floors.{may_take}
use Rattle.machine_core.specs.Rules.{Rules}
use Rattle.machine_core.specs.Sums.{cost_at, sum_from}
use Rattle.machine_core.specs.declared.state.State.{State}
use Rattle.machine_core.specs.Rules.{IsMachine}
use Rattle.std.proofs.Common.{zero-add}
use Rattle.std.proofs.Math.Nat.{suc-add}
use Rattle.std.proofs.lemmas.Bool.Decides.{nat_tests}

pub get-front : (xs : List ℕ) (y i : ℕ) → i < length xs → get_or (xs ++ y ∷ []) i 0 ≡ get_or xs i 0
get-front (x ∷ xs) y zero h = refl
get-front (x ∷ xs) y (suc i) h = get-front xs y i (omega arith)
get-front [] y i h = absurd (omega arith)

pub get-last : (xs : List ℕ) (y i : ℕ) → length xs ≡ i → get_or (xs ++ y ∷ []) i 0 ≡ y
get-last [] y zero e = refl
get-last [] y (suc i) e = absurd (omega arith)
get-last (x ∷ xs) y zero e = absurd (omega arith)
get-last (x ∷ xs) y (suc i) e = get-last xs y i (omega arith)

-- two lists that agree below i
pub record Agree (m : Rules) (l k : Blocks) (i : ℕ) : Type 0 where
  pub heads : (j : ℕ) → j < i → head_at m.decoder l j ≡ head_at m.decoder k j
  pub symbols : (j : ℕ) → j < i → symbol_at l j ≡ symbol_at k j

pub state-same : (m : Rules) (l k : Blocks) (from : State) (n i : ℕ) → Agree m l k n → i ≤ n → state_at m.decoder l from i ≡ state_at m.decoder k from i
state-same m l k from n zero a h = refl
state-same m l k from n (suc i) a h =
    let ih = state-same m l k from n i a (omega arith) in
    let f : ℕ → ℕ → State → State = λ x y z. m.decoder.step x (i % m.decoder.samples) y z in
    ap (λ x. f x (symbol_at l i) (state_at m.decoder l from i)) (a.heads i (omega arith)) ∙ (ap (λ y. f (head_at m.decoder k i) y (state_at m.decoder l from i)) (a.symbols i (omega arith)) ∙ ap (f (head_at m.decoder k i) (symbol_at k i)) ih)

pub sum-same : (m : Rules) (l k : Blocks) (targets : List ℤ) (n j count : ℕ) → Agree m l k n → j + count ≤ n → sum_from m.decoder l targets j count ≡ sum_from m.decoder k targets j count
sum-same m l k targets n j zero a h = refl
sum-same m l k targets n j (suc count) a h =
    let ih = sum-same m l k targets n (suc j) count a (omega arith) in
    let s = state-same m l k start n (suc j) a (omega arith) in
    let c : cost_at m.decoder l targets j ≡ cost_at m.decoder k targets j = ap (λ z. cost_of m.decoder z (get_or targets j (pos 0))) s in
    omega arith

pub sum-split : (m : Rules) (l : Blocks) (targets : List ℤ) (i a b j : ℕ) → j ≡ i + a → sum_from m.decoder l targets i (a + b) ≡ sum_from m.decoder l targets i a + sum_from m.decoder l targets j b
sum-split m l targets i zero b j e = let q : j ≡ i = omega arith in rw (zero-add, zero-add, q) refl
sum-split m l targets i (suc a) b j e =
    let ih = sum-split m l targets (suc i) a b j (omega arith) in rw suc-add (omega (arith, ih))

pub sum-last : (m : Rules) (l : Blocks) (targets : List ℤ) (i : ℕ) → sum_from m.decoder l targets 0 (suc i) ≡ sum_from m.decoder l targets 0 i + cost_at m.decoder l targets i
sum-last m l targets i =
    let s = sum-split m l targets 0 i 1 i (omega arith) in
    let o : suc i ≡ i + 1 = omega arith in
    let e : sum_from m.decoder l targets 0 (suc i) ≡ sum_from m.decoder l targets 0 (i + 1) = ap (sum_from m.decoder l targets 0) o in
    let one : sum_from m.decoder l targets i 1 ≡ cost_at m.decoder l targets i + 0 = refl in
    omega arith

inside-or-end : (i n : ℕ) → i % n < n → (suc (i % n) < n) ⊎ (suc (i % n) ≡ n)
inside-or-end i n h = grind arith

pub begun-first : (m : Rules) → IsMachine m → (i : ℕ) → i % m.decoder.samples ≡ 0 → begun m i ≡ i / m.decoder.samples
begun-first m laws zero e = sym (div-eq_of_lt laws.some_samples)
begun-first m laws (suc j) e =
    elim (inside-or-end j m.decoder.samples (mod-lt j laws.some_samples)) [
      | inl lt ↦ (let r = place-within j m.decoder.samples lt in absurd (omega arith))
      | inr eq ↦ sym (block-over j m.decoder.samples laws.some_samples eq)
    ]

pub later-inside : (m : Rules) → IsMachine m → (j : ℕ) → 0 < suc j % m.decoder.samples → suc (j % m.decoder.samples) < m.decoder.samples
later-inside m laws j h =
    elim (inside-or-end j m.decoder.samples (mod-lt j laws.some_samples)) [
      | inl lt ↦ lt
      | inr eq ↦ (let r = place-over j m.decoder.samples laws.some_samples eq in absurd (omega arith))
    ]

pub begun-later : (m : Rules) → IsMachine m → (i : ℕ) → 0 < i % m.decoder.samples → begun m i ≡ suc (i / m.decoder.samples)
begun-later m laws zero h = (let z : 0 % m.decoder.samples ≡ 0 = mod-eq_of_lt laws.some_samples in absurd (omega arith))
begun-later m laws (suc j) h = ap suc (sym (block-within j m.decoder.samples (later-inside m laws j h)))

-- the block of an earlier sample has begun
pub begun-above : (m : Rules) → IsMachine m → (j i : ℕ) → j < i → j / m.decoder.samples < begun m i
begun-above m laws j zero h = absurd (omega arith)
begun-above m laws j (suc k) h =
    let r = mod-lt k laws.some_samples in
    let lt : j < suc (k / m.decoder.samples) * m.decoder.samples = omega (arith, div-add-mod' k m.decoder.samples) in
    block-below j m.decoder.samples (suc (k / m.decoder.samples)) lt

-- the heads after one more sample
pub record HeadsNow (m : Rules) (heads heads' : List ℕ) (i h : ℕ) : Type 0 where
  pub size : length heads' ≡ suc (i / m.decoder.samples)
  pub kept : (b : ℕ) → b < length heads → get_or heads' b 0 ≡ get_or heads b 0
  pub last : get_or heads' (i / m.decoder.samples) 0 ≡ h
  pub fit : (b : ℕ) → b < length heads' → get_or heads' b 0 < m.decoder.heads
  pub allowed : (b : ℕ) → b < length heads' → m.decoder.allows (get_or heads' b 0) (rule_of first_only b) ≡ true

same : (x y : ℕ) → x ≡ y → nat_eq x y ≡ true
same x y h = grind (arith, nat_tests)

bool-cond : (b x y : Bool) → b ≡ true → cond b x y ≡ x
bool-cond b x y h = rw h refl

pub heads-first : (m : Rules) → IsMachine m → (heads heads' : List ℕ) (i lane h : ℕ) → length heads ≡ begun m i → i % m.decoder.samples ≡ 0 → heads' ≡ heads ++ h ∷ [] → ((b : ℕ) → b < length heads → get_or heads b 0 < m.decoder.heads)
    → ((b : ℕ) → b < length heads → m.decoder.allows (get_or heads b 0) (rule_of first_only b) ≡ true) → h < m.decoder.heads → may_take m first_only i lane h ≡ true → HeadsNow m heads heads' i h
heads-first m laws heads heads' i lane h n p e fit allow hl takes =
    let b0 = begun-first m laws i p in
    let size : length (heads ++ h ∷ []) ≡ length heads + 1 = length-append heads (h ∷ []) in
    let at : length heads ≡ i / m.decoder.samples = omega arith in
    let last = get-last heads h (i / m.decoder.samples) at in
    let ok : m.decoder.allows h (rule_of first_only (i / m.decoder.samples)) ≡ true = sym (bool-cond (nat_eq (i % m.decoder.samples) 0) (m.decoder.allows h (rule_of first_only (i / m.decoder.samples))) (nat_eq (m.lane h (i % m.decoder.samples)) lane) (same (i % m.decoder.samples) 0 p)) ∙ takes in
    subst (λ (z : List ℕ). HeadsNow m heads z i h) (sym e) (record {
      size = omega arith;
      kept = λ b lt. get-front heads h b lt;
      last = last;
      fit = λ b lt. (elim (eq-or-lt_of_le {n = b} {m = length heads} (omega arith)) [
        | inl q ↦ (let g : get_or (heads ++ h ∷ []) b 0 ≡ h = get-last heads h b (sym q) in omega arith)
        | inr l ↦ (let g = get-front heads h b l in let f = fit b l in omega arith)
      ]);
      allowed = λ b lt. (elim (eq-or-lt_of_le {n = b} {m = length heads} (omega arith)) [
        | inl q ↦ ap (λ z. m.decoder.allows z (rule_of first_only b)) (get-last heads h b (sym q)) ∙ (ap (λ z. m.decoder.allows h (rule_of first_only z)) (q ∙ at) ∙ ok)
        | inr l ↦ ap (λ z. m.decoder.allows z (rule_of first_only b)) (get-front heads h b l) ∙ allow b l
      ]);
    })

pub heads-later : (m : Rules) → IsMachine m → (heads heads' : List ℕ) (i h : ℕ) → length heads ≡ begun m i → 0 < i % m.decoder.samples → heads' ≡ heads → ((b : ℕ) → b < length heads → get_or heads b 0 < m.decoder.heads)
    → ((b : ℕ) → b < length heads → m.decoder.allows (get_or heads b 0) (rule_of first_only b) ≡ true) → h ≡ get_or heads (i / m.decoder.samples) 0 → HeadsNow m heads heads' i h
heads-later m laws heads heads' i h n p e fit allow he =
    let b0 = begun-later m laws i p in
    subst (λ (z : List ℕ). HeadsNow m heads z i h) (sym e) (record { size = omega arith; kept = λ b lt. refl; last = sym he; fit = fit; allowed = allow })

pub agree-now : (m : Rules) → IsMachine m → (heads heads' symbols : List ℕ) (s i h : ℕ) → HeadsNow m heads heads' i h → length heads ≡ begun m i → length symbols ≡ i
    → Agree m (list_of heads symbols) (list_of heads' (symbols ++ s ∷ [])) i
agree-now m laws heads heads' symbols s i h now n k = record {
  heads = λ j lt. sym (now.kept (j / m.decoder.samples) (let b = begun-above m laws j i lt in omega arith));
  symbols = λ j lt. sym (get-front symbols s j (omega arith));
}
