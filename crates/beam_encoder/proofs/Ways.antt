-- The heads of a kept prefix: what they lead to and cost is what its node says.
use Rattle.std.proofs.Common.{◌≡◌, ℕ, zero, suc, ◌*◌, ◌^◌, ◌<◌, ◌≤◌, refl, sym, subst, ap, ◌∙◌, arith, inl, inr, ℤ, IsTrue, List, [], ◌∷◌, ◌++◌, length, get_or}
use Rattle.std.specs.List.{All}
use Rattle.std.proofs.lemmas.Bool.{cases_lt}
use Rattle.std.proofs.lemmas.List.{length-append}
use Rattle.std.proofs.Math.ListN.{get_or-append}
use Rattle.std.proofs.Math.Seq.{get_or-append_seam}
use Rattle.std.proofs.lemmas.List.Elements.{All-from_get_or}
use Rattle.machine_core.specs.declared.state.State.{State}
use Rattle.machine_core.specs.Decoder.{Decoder}
use Rattle.machine_core.specs.Blocks.{rule_of, first_only}
use Rattle.machine_core.specs.Rules.{Rules, IsMachine}
use Rattle.beam_encoder.specs.declared.node.Node.{Node}
use Rattle.beam_encoder.specs.Near.{AreTargets, near_state, near_sum, targets_in}
use Rattle.beam_encoder.specs.Walk.{AreHeads, walk_state, walk_sum}
use Rattle.beam_encoder.specs.Kept.{root, kept, prefix}
use Rattle.beam_encoder.proofs.Growth.{walk_state-fits, walk_sum-small}
use Rattle.beam_encoder.proofs.KeptLaws.{Extends, kept-extends}

-- one head more changes nothing before it
walk_state-front : (d : Decoder) (heads : List ℕ) (head : ℕ) (targets : List ℤ) (b : ℕ) → b ≤ length heads
    → walk_state d (heads ++ head ∷ []) targets b ≡ walk_state d heads targets b
unfolding walk_state
walk_state-front d heads head targets zero within = refl
walk_state-front d heads head targets (suc b) within =
    let before = walk_state-front d heads head targets b (omega arith) in
    let same = get_or-append heads (head ∷ []) 0 b (omega arith) in
    ap (λ h. near_state d h (targets_in d targets b) (walk_state d (heads ++ head ∷ []) targets b) d.samples) same
    ∙ ap (λ s. near_state d (get_or heads b 0) (targets_in d targets b) s d.samples) before

walk_sum-front : (d : Decoder) (heads : List ℕ) (head : ℕ) (targets : List ℤ) (b : ℕ) → b ≤ length heads
    → walk_sum d (heads ++ head ∷ []) targets b ≡ walk_sum d heads targets b
unfolding walk_sum
walk_sum-front d heads head targets zero within = refl
walk_sum-front d heads head targets (suc b) within =
    let before = walk_state-front d heads head targets b (omega arith) in
    let sum = walk_sum-front d heads head targets b (omega arith) in
    let same = get_or-append heads (head ∷ []) 0 b (omega arith) in
    let cost = ap (λ h. near_sum d h (targets_in d targets b) (walk_state d (heads ++ head ∷ []) targets b) d.samples) same
    ∙ ap (λ s. near_sum d (get_or heads b 0) (targets_in d targets b) s d.samples) before in
    omega (arith, sum, cost)

-- the last head
last-head : (heads : List ℕ) (head b : ℕ) → length heads ≡ b → get_or (heads ++ head ∷ []) b 0 ≡ head
last-head heads head b e = ap (λ n. get_or (heads ++ head ∷ []) n 0) (sym e) ∙ get_or-append_seam heads head [] 0

-- heads that lead to a node
pub record IsWay (d : Decoder) (targets : List ℤ) (b : ℕ) (heads : List ℕ) (x : Node) : Type 0 where
  pub heads_are : AreHeads d b heads
  pub state : walk_state d heads targets b ≡ x.state
  pub sum : walk_sum d heads targets b ≡ x.sum

heads-more : (d : Decoder) (b : ℕ) (heads : List ℕ) (head : ℕ) → AreHeads d b heads → head < d.heads → IsTrue (d.allows head (rule_of first_only b)) → AreHeads d (suc b) (heads ++ head ∷ [])
heads-more d b heads head are fits allowed = record {
  count = (let a = length-append heads (head ∷ []) in let e = are.count in omega (arith, a));
  fit = λ i below. elim (cases_lt i b) [
    | inl less ↦ subst (λ (z : ℕ). z < d.heads) (sym (get_or-append heads (head ∷ []) 0 i (let e = are.count in omega arith))) (are.fit i less)
    | inr same ↦ subst (λ (z : ℕ). z < d.heads) (sym (last-head heads head i (let e = are.count in omega arith))) fits
  ];
  allowed = λ i below. elim (cases_lt i b) as (λ _. IsTrue (d.allows (get_or (heads ++ head ∷ []) i 0) (rule_of first_only i))) [
    | inl less ↦ subst (λ (z : ℕ). IsTrue (d.allows z (rule_of first_only i))) (sym (get_or-append heads (head ∷ []) 0 i (let e = are.count in omega arith))) (are.allowed i less)
    | inr same ↦ (let e : b ≡ i = omega arith in
        subst (λ (z : ℕ). IsTrue (d.allows z (rule_of first_only i))) (sym (last-head heads head i (let n = are.count in omega arith)))
        (subst (λ (z : ℕ). IsTrue (d.allows head (rule_of first_only z))) e allowed))
  ];
}

way-more : (d : Decoder) (targets : List ℤ) (b : ℕ) (heads : List ℕ) (layer : List Node) (x : Node) → Extends d (rule_of first_only b) (targets_in d targets b) layer x
    → IsWay d targets b heads (get_or layer x.parent root) → IsWay d targets (suc b) (heads ++ x.head ∷ []) x
unfolding walk_state walk_sum
way-more d targets b heads layer x e way =
    let count = way.heads_are.count in
    let before = walk_state-front d heads x.head targets b (omega arith) ∙ way.state in
    let sums = walk_sum-front d heads x.head targets b (omega arith) ∙ way.sum in
    let last = last-head heads x.head b count in
    let cost = ap (λ h. near_sum d h (targets_in d targets b) (walk_state d (heads ++ x.head ∷ []) targets b) d.samples) last
    ∙ ap (λ s. near_sum d x.head (targets_in d targets b) s d.samples) before in
    record {
      heads_are = heads-more d b heads x.head way.heads_are e.fits e.allowed;
      state = ap (λ h. near_state d h (targets_in d targets b) (walk_state d (heads ++ x.head ∷ []) targets b) d.samples) last
          ∙ (ap (λ s. near_state d x.head (targets_in d targets b) s d.samples) before ∙ sym e.state);
      sum = (let s = e.sum in omega (arith, sums, cost, s));
    }

-- the heads of a kept prefix lead to its node
pub prefix-way : (d : Decoder) (width : ℕ) (targets : List ℤ) (b k : ℕ) → k < length (kept d width targets b)
    → IsWay d targets b (prefix d width targets b k) (get_or (kept d width targets b) k root)
unfolding prefix kept walk_state walk_sum
prefix-way d width targets zero zero within = record {
  heads_are = record { count = refl; fit = λ b below. absurd (omega arith); allowed = λ b below. absurd (omega arith) };
  state = refl;
  sum = refl;
}
prefix-way d width targets zero (suc k) within = absurd (omega arith)
prefix-way d width targets (suc b) k within =
    let e = kept-extends d width targets b k within in
    way-more d targets b _ (kept d width targets b) (get_or (kept d width targets (suc b)) k root) e
    (prefix-way d width targets b (get_or (kept d width targets (suc b)) k root).parent e.within)

-- so the states of a layer are states
pub kept-fit : (r : Rules) → IsMachine r → (width : ℕ) (targets : List ℤ) (b : ℕ) → All (λ n. IsTrue (r.decoder.is_state n.state)) (kept r.decoder width targets b)
kept-fit r laws width targets b =
    All-from_get_or (λ (n : Node). IsTrue (r.decoder.is_state n.state)) (kept r.decoder width targets b) root
    (λ k within. (let way = prefix-way r.decoder width targets b k within in
    subst (λ (s : State). IsTrue (r.decoder.is_state s)) way.state (walk_state-fits r laws _ targets b b way.heads_are (omega arith))))

-- and its sums are small
pub kept-small : (r : Rules) → IsMachine r → (width : ℕ) (targets : List ℤ) (blocks b : ℕ) → AreTargets r.decoder blocks targets → b ≤ blocks
    → b * r.decoder.samples ≤ 262144 → All (λ n. n.sum ≤ 2 ^ 60) (kept r.decoder width targets b)
kept-small r laws width targets blocks b are below few =
    All-from_get_or (λ (n : Node). n.sum ≤ 2 ^ 60) (kept r.decoder width targets b) root
    (λ k within. (let way = prefix-way r.decoder width targets b k within in
    let small = walk_sum-small r laws (prefix r.decoder width targets b k) targets b blocks b way.heads_are are (omega arith) below in
    let sum = way.sum in
    omega (arith, small, sum, few)))
