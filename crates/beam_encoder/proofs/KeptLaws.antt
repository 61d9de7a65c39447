-- What is kept: each node extends a node of the layer before, and there is one.
use Rattle.std.proofs.Common.{◌≡◌, ℕ, zero, suc, ◌+◌, ◌<◌, ◌≤◌, refl, sym, subst, ap, ◌∙◌, arith, inl, inr, ℤ, IsTrue, List, [], ◌∷◌, ◌++◌, length, get_or, take, true}
use Rattle.std.proofs.lemmas.Bool.{cases_lt, cases_Bool, cond-true, cond-false}
use Rattle.std.proofs.lemmas.List.{length-take, length-append}
use Rattle.machine_core.specs.declared.state.HeadRule.{HeadRule}
use Rattle.machine_core.specs.Decoder.{Decoder}
use Rattle.machine_core.specs.Blocks.{rule_of, first_only}
use Rattle.machine_core.specs.Rules.{Rules, IsMachine}
use Rattle.beam_encoder.specs.declared.node.Node.{Node}
use Rattle.beam_encoder.specs.Near.{near_state, near_sum, targets_in}
use Rattle.beam_encoder.specs.Kept.{put, put_all, sorted, root, extension, ruled, extended, extensions, kept}
use Rattle.beam_encoder.proofs.Putting.{put-here, put-later}

-- of each element of a list, by recursion
unfoldable Each : (Node → Type 0) → List Node → Type 0
Each P [] = 0 ≤ 0
Each P (x ∷ xs) = P x × Each P xs

each-put : (P : Node → Type 0) (x : Node) (xs : List Node) → P x → Each P xs → Each P (put x xs)
unfolding Each put
each-put P x [] here all = (here, omega arith)
each-put P x (y ∷ ys) here all =
    elim (cases_lt x.sum y.sum) as (λ _. Each P (put x (y ∷ ys))) [
      | inl less ↦ subst (Each P) (sym (put-here x y ys less)) (here, all)
      | inr more ↦ (let m : y.sum ≤ x.sum = omega arith in subst (Each P) (sym (put-later x y ys m)) (all.0, each-put P x ys here all.1))
    ]

each-all : (P : Node → Type 0) (into xs : List Node) → Each P into → Each P xs → Each P (put_all into xs)
unfolding Each put_all
each-all P into [] before all = before
each-all P into (x ∷ xs) before all = each-all P (put x into) xs (each-put P x into all.0 before) all.1

each-take : (P : Node → Type 0) (n : ℕ) (xs : List Node) → Each P xs → Each P (take n xs)
unfolding Each
each-take P zero xs all = omega arith
each-take P (suc n) [] all = all
each-take P (suc n) (y ∷ ys) all = (all.0, each-take P n ys all.1)

each-append : (P : Node → Type 0) (xs ys : List Node) → Each P xs → Each P ys → Each P (xs ++ ys)
unfolding Each
each-append P [] ys a b = b
each-append P (x ∷ xs) ys a b = (a.0, each-append P xs ys a.1 b)

each-at : (P : Node → Type 0) (xs : List Node) (k : ℕ) → Each P xs → k < length xs → P (get_or xs k root)
unfolding Each
each-at P [] k all within = absurd (omega arith)
each-at P (x ∷ xs) zero all within = all.0
each-at P (x ∷ xs) (suc k) all within = each-at P xs k all.1 (omega arith)

-- a node extends one of a layer
pub record Extends (d : Decoder) (rule : HeadRule) (block : List ℤ) (layer : List Node) (x : Node) : Type 0 where
  pub within : x.parent < length layer
  pub fits : x.head < d.heads
  pub allowed : IsTrue (d.allows x.head rule)
  pub state : x.state ≡ near_state d x.head block (get_or layer x.parent root).state d.samples
  pub sum : x.sum ≡ (get_or layer x.parent root).sum + near_sum d x.head block (get_or layer x.parent root).state d.samples

each-ruled : (d : Decoder) (rule : HeadRule) (block : List ℤ) (layer : List Node) (k head : ℕ) → k < length layer → head < d.heads
    → Each (Extends d rule block layer) (ruled d rule block k (get_or layer k root) head)
unfolding Each ruled extension
each-ruled d rule block layer k head within fits =
    elim (cases_Bool (d.allows head rule)) as (λ _. Each (Extends d rule block layer) (ruled d rule block k (get_or layer k root) head)) [
      | inl allowed ↦ subst (Each (Extends d rule block layer)) (sym (cond-true (d.allows head rule) (extension d block k (get_or layer k root) head ∷ []) [] allowed))
          (record { within = within; fits = fits; allowed = allowed; state = refl; sum = refl }, omega arith)
      | inr not_allowed ↦ subst (Each (Extends d rule block layer)) (sym (cond-false (d.allows head rule) (extension d block k (get_or layer k root) head ∷ []) [] not_allowed)) (omega arith)
    ]

each-extended : (d : Decoder) (rule : HeadRule) (block : List ℤ) (layer : List Node) (k heads : ℕ) → k < length layer → heads ≤ d.heads
    → Each (Extends d rule block layer) (extended d rule block k (get_or layer k root) heads)
unfolding Each extended
each-extended d rule block layer k zero within fits = omega arith
each-extended d rule block layer k (suc head) within fits =
    each-append _ _ _ (each-extended d rule block layer k head within (omega arith)) (each-ruled d rule block layer k head within (omega arith))

each-extensions : (d : Decoder) (rule : HeadRule) (block : List ℤ) (layer : List Node) (k : ℕ) → k ≤ length layer
    → Each (Extends d rule block layer) (extensions d rule block layer k)
unfolding Each extensions
each-extensions d rule block layer zero within = omega arith
each-extensions d rule block layer (suc k) within =
    each-append _ _ _ (each-extensions d rule block layer k (omega arith)) (each-extended d rule block layer k d.heads (omega arith) (omega arith))

-- each kept node extends a kept node
pub kept-extends : (d : Decoder) (width : ℕ) (targets : List ℤ) (b k : ℕ) → k < length (kept d width targets (suc b))
    → Extends d (rule_of first_only b) (targets_in d targets b) (kept d width targets b) (get_or (kept d width targets (suc b)) k root)
unfolding kept sorted Each
kept-extends d width targets b k within =
    each-at (Extends d (rule_of first_only b) (targets_in d targets b) (kept d width targets b)) (kept d width targets (suc b)) k
    (each-take _ width _ (each-all _ [] _ (omega arith) (each-extensions d (rule_of first_only b) (targets_in d targets b) (kept d width targets b) (length (kept d width targets b)) (omega arith)))) within

-- putting makes a list longer
length-put : (x : Node) (xs : List Node) → length (put x xs) ≡ suc (length xs)
unfolding put
length-put x [] = refl
length-put x (y ∷ ys) =
    elim (cases_lt x.sum y.sum) [
      | inl less ↦ ap length (put-here x y ys less)
      | inr more ↦ (let m : y.sum ≤ x.sum = omega arith in ap length (put-later x y ys m) ∙ ap suc (length-put x ys))
    ]

pub length-all : (into xs : List Node) → length (put_all into xs) ≡ length into + length xs
unfolding put_all
length-all into [] = omega arith
length-all into (x ∷ xs) = let a = length-all (put x into) xs in let b = length-put x into in omega (arith, a, b)

-- an allowed head makes an extension
some-extended : (d : Decoder) (rule : HeadRule) (block : List ℤ) (k : ℕ) (from : Node) (head heads : ℕ) → head < heads → IsTrue (d.allows head rule)
    → 0 < length (extended d rule block k from heads)
unfolding extended ruled
some-extended d rule block k from head zero below allowed = absurd (omega arith)
some-extended d rule block k from head (suc n) below allowed =
    let whole = length-append (extended d rule block k from n) (ruled d rule block k from n) in
    elim (cases_lt head n) [
      | inl less ↦ (let a = some-extended d rule block k from head n less allowed in omega (arith, a, whole))
      | inr same ↦ (
          let e : head ≡ n = omega arith in
          let here : d.allows n rule ≡ true = subst (λ (z : ℕ). IsTrue (d.allows z rule)) e allowed in
          let one = ap length (cond-true (d.allows n rule) (extension d block k from n ∷ []) [] here) in
          omega (arith, one, whole))
    ]

some-extensions : (d : Decoder) (rule : HeadRule) (block : List ℤ) (layer : List Node) (k head : ℕ) → 0 < k → head < d.heads → IsTrue (d.allows head rule)
    → 0 < length (extensions d rule block layer k)
unfolding extensions
some-extensions d rule block layer zero head some fits allowed = absurd (omega arith)
some-extensions d rule block layer (suc k) head some fits allowed =
    let whole = length-append (extensions d rule block layer k) (extended d rule block k (get_or layer k root) d.heads) in
    let here = some-extended d rule block k (get_or layer k root) head d.heads fits allowed in
    omega (arith, whole, here)

-- something is kept
pub kept-some : (r : Rules) → IsMachine r → (width : ℕ) (targets : List ℤ) (b : ℕ) → 0 < width → 0 < length (kept r.decoder width targets b)
unfolding kept sorted
kept-some r laws width targets zero wide = omega arith
kept-some r laws width targets (suc b) wide =
    let d = r.decoder in
    let rule = rule_of first_only b in
    let layer = kept d width targets b in
    let before = kept-some r laws width targets b wide in
    let head = laws.some_head rule in
    let some = some-extensions d rule (targets_in d targets b) layer (length layer) head.0 before head.1 head.2 in
    let all = length-all [] (extensions d rule (targets_in d targets b) layer (length layer)) in
    let cut = length-take width (put_all [] (extensions d rule (targets_in d targets b) layer (length layer))) in
    omega (arith, some, all, cut)

-- at most `width` are kept
pub kept-few : (d : Decoder) (width : ℕ) (targets : List ℤ) (b : ℕ) → 0 < width → length (kept d width targets b) ≤ width
unfolding kept
kept-few d width targets zero wide = omega arith
kept-few d width targets (suc b) wide = let cut = length-take width (sorted (extensions d (rule_of first_only b) (targets_in d targets b) (kept d width targets b) (length (kept d width targets b)))) in omega (arith, cut)
