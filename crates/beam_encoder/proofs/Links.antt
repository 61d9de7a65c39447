-- Layers one behind another.
use Rattle.std.proofs.Common.{◌≡◌, ℕ, zero, suc, ◌+◌, ◌*◌, ◌^◌, ◌-◌, ◌<◌, ◌≤◌, refl, sym, subst, ap, ◌∙◌, arith, inl, inr, ℤ, List, [], ◌∷◌, ◌++◌, append-nil, append_assoc, length, get_or, take, drop, length-drop}
use Rattle.std.specs.Prelude.{reverse, slice_index_or}
use Rattle.std.specs.List.{slice_range}
use Rattle.std.proofs.lemmas.Bool.{cases_lt}
use Rattle.std.proofs.lemmas.List.{length-append, reverse-append, take-append-le, drop-append-le, take_all, length-take, get_or-take, get_or-drop, get_or_default}
use Rattle.std.proofs.Math.ListN.{get_or-append}
use Rattle.std.proofs.Math.Nat.{suc-mul, mul-le-mul_left, le-mul_of_pos_right}
use Rattle.std.proofs.Math.Seq.{get_or-append_seam}
use Rattle.machine_core.specs.declared.state.HeadRule.{HeadRule}
use Rattle.machine_core.specs.Decoder.{Decoder}
use Rattle.machine_core.specs.Blocks.{rule_of, first_only}
use Rattle.machine_core.specs.Rules.{Rules, IsMachine}
use Rattle.machine_core.proofs.Lists.{second-part}
use Rattle.beam_encoder.specs.declared.node.Node.{Node}
use Rattle.beam_encoder.specs.Near.{AreTargets, targets_in}
use Rattle.beam_encoder.specs.Kept.{root, kept, sorted, extensions, prefix}
use Rattle.beam_encoder.specs.Layers.{nodes_at, AreLayers, AreLinked, way_to}
use Rattle.beam_encoder.proofs.KeptLaws.{kept-extends, kept-some, kept-few}

-- a part of a list's front
part-front : (xs ys : List Node) (begin end : ℕ) → end ≤ length xs → slice_range (xs ++ ys) begin end ≡ slice_range xs begin end
part-front xs ys begin end within =
    elim (cases_lt end begin) as (λ _. slice_range (xs ++ ys) begin end ≡ slice_range xs begin end) [
      | inl less ↦ (let none : end - begin ≡ 0 = omega (arith, less) in ap (λ k. take k (drop begin (xs ++ ys))) none ∙ sym (ap (λ k. take k (drop begin xs)) none))
      | inr more ↦ ap (take (end - begin)) (drop-append-le begin xs ys (omega (arith, within, more))) ∙ take-append-le (end - begin) (drop begin xs) ys (omega (arith, within, length-drop begin xs))
    ]

-- a place in a part is one in the whole
pub in-part : (xs : List Node) (begin end k : ℕ) → k < length (slice_range xs begin end) → begin + k < length xs × (get_or (slice_range xs begin end) k root ≡ get_or xs (begin + k) root)
in-part xs begin end k within =
    let a = length-take (end - begin) (drop begin xs) in
    let b = length-drop begin xs in
    (omega (arith, a, b, within), get_or-take (end - begin) (drop begin xs) k root (omega (arith, a, within)) ∙ get_or-drop begin xs k root)

-- a node of a layer by its place among all
pub node-in : (nodes : List Node) (bounds : List ℕ) (b begin place : ℕ) (x : Node) → begin ≡ get_or bounds b 0 → place < length (nodes_at nodes bounds b)
    → x ≡ slice_index_or nodes (begin + place) x → x ≡ get_or (nodes_at nodes bounds b) place root
unfolding nodes_at
node-in nodes bounds b begin place x at within is =
    let p = in-part nodes (get_or bounds b 0) (get_or bounds (suc b) 0) place within in
    let w = p.0 in
    is ∙ (get_or_default nodes (begin + place) x root (omega (arith, at, w)) ∙ (ap (λ i. get_or nodes (i + place) root) at ∙ sym p.1))

pub node-place : (nodes : List Node) (bounds : List ℕ) (b begin place : ℕ) → begin ≡ get_or bounds b 0 → place < length (nodes_at nodes bounds b) → begin + place < length nodes
unfolding nodes_at
node-place nodes bounds b begin place at within =
    let p = in-part nodes (get_or bounds b 0) (get_or bounds (suc b) 0) place within in
    let w = p.0 in omega (arith, at, w)

few-more : (n w a b t : ℕ) → a ≤ n * w → b ≤ w → t ≡ a + b → t ≤ suc n * w
few-more n w a b t before more e = omega (arith, before, more, e, suc-mul n w)

-- what is put behind changes no layer before
pub nodes-front : (xs ys : List Node) (bounds ends : List ℕ) (b : ℕ) → suc b < length bounds → get_or bounds (suc b) 0 ≤ length xs
    → nodes_at (xs ++ ys) (bounds ++ ends) b ≡ nodes_at xs bounds b
unfolding nodes_at
nodes-front xs ys bounds ends b here within =
    let begin = get_or-append bounds ends 0 b (omega arith) in
    let end = get_or-append bounds ends 0 (suc b) here in
    ap (λ i. slice_range (xs ++ ys) i (get_or (bounds ++ ends) (suc b) 0)) begin
    ∙ (ap (slice_range (xs ++ ys) (get_or bounds b 0)) end ∙ part-front xs ys (get_or bounds b 0) (get_or bounds (suc b) 0) within)

-- and makes one layer more
pub nodes-last : (xs ys all : List Node) (bounds : List ℕ) (n : ℕ) → all ≡ xs ++ ys → length bounds ≡ suc n → get_or bounds n 0 ≡ length xs
    → nodes_at all (bounds ++ length all ∷ []) n ≡ ys
unfolding nodes_at
nodes-last xs ys all bounds n pushed count last =
    let begin : get_or (bounds ++ length all ∷ []) n 0 ≡ length xs = get_or-append bounds (length all ∷ []) 0 n (omega arith) ∙ last in
    let end : get_or (bounds ++ length all ∷ []) (suc n) 0 ≡ length xs + length ys =
    ap (λ i. get_or (bounds ++ length all ∷ []) i 0) (sym count) ∙ (get_or-append_seam bounds (length all) [] 0 ∙ (ap length pushed ∙ length-append xs ys)) in
    ap (λ i. slice_range all i (get_or (bounds ++ length all ∷ []) (suc n) 0)) begin
    ∙ (ap (slice_range all (length xs)) end ∙ (ap (λ zs. slice_range zs (length xs) (length xs + length ys)) pushed ∙ second-part xs ys (length xs) (length ys) refl refl))

-- no layer
pub layers-none : (d : Decoder) (width : ℕ) (targets : List ℤ) (nodes : List Node) (bounds : List ℕ) → nodes ≡ [] → bounds ≡ 0 ∷ [] → AreLayers d width targets 0 nodes bounds
layers-none d width targets nodes bounds none zero_only =
    let size = ap length none in
    let begin = ap (λ zs. get_or zs 0 0) zero_only in
    record {
      count = ap length zero_only;
      last = omega (arith, size, begin);
      within = λ b below. (let z : b ≡ 0 = omega arith in let e = ap (λ i. get_or bounds i 0) z in omega (arith, e, begin));
      few = omega (arith, size);
      each = λ b below. absurd (omega arith);
    }

-- one layer more
pub layers-add : (d : Decoder) (width : ℕ) (targets : List ℤ) (n : ℕ) (nodes layer all : List Node) (bounds ends : List ℕ)
    → 0 < width → AreLayers d width targets n nodes bounds → all ≡ nodes ++ layer → ends ≡ bounds ++ length all ∷ [] → layer ≡ kept d width targets n
    → AreLayers d width targets (suc n) all ends
layers-add d width targets n nodes layer all bounds ends wide are pushed ended is =
    let count = are.count in
    let last = are.last in
    let before = are.few in
    let long = ap length pushed ∙ length-append nodes layer in
    let more = kept-few d width targets n wide in
    let size = ap length is in
    let at_end : get_or ends (suc n) 0 ≡ length all = ap (λ zs. get_or zs (suc n) 0) ended ∙ (ap (λ i. get_or (bounds ++ length all ∷ []) i 0) (sym count) ∙ get_or-append_seam bounds (length all) [] 0) in
    let below : (b : ℕ) → b ≤ n → get_or ends b 0 ≡ get_or bounds b 0 = λ b low. ap (λ zs. get_or zs b 0) ended ∙ get_or-append bounds (length all ∷ []) 0 b (omega (arith, count, low)) in
    record {
      count = (let a = ap length ended in let l = length-append bounds (length all ∷ []) in omega (arith, a, l, count));
      last = at_end;
      within = λ b low. elim (cases_lt b (suc n)) as (λ _. get_or ends b 0 ≤ length all) [
        | inl less ↦ (let e = below b (omega (arith, less)) in let w = are.within b (omega (arith, less)) in omega (arith, e, w, long))
        | inr more_than ↦ (let s : b ≡ suc n = omega (arith, low, more_than) in let e = ap (λ i. get_or ends i 0) s ∙ at_end in omega (arith, e))
      ];
      few = few-more n width (length nodes) (length layer) (length all) before (omega (arith, size, more)) long;
      each = λ b low. ap (λ zs. nodes_at zs ends b) pushed ∙ (ap (λ zs. nodes_at (nodes ++ layer) zs b) ended ∙ elim (cases_lt b n) as (λ _. nodes_at (nodes ++ layer) (bounds ++ length all ∷ []) b ≡ kept d width targets b) [
        | inl less ↦ nodes-front nodes layer bounds (length all ∷ []) b (omega (arith, less, count)) (are.within (suc b) (omega (arith, less))) ∙ are.each b less
        | inr same ↦ (let e : n ≡ b = omega (arith, low, same) in
            subst (λ (k : ℕ). nodes_at (nodes ++ layer) (bounds ++ length all ∷ []) k ≡ kept d width targets k) e
            (ap (λ zs. nodes_at zs (bounds ++ length all ∷ []) n) (sym pushed) ∙ (nodes-last nodes layer all bounds n pushed count last ∙ is)))
      ]);
    }

-- the first layer
pub layers-one : (d : Decoder) (width : ℕ) (targets : List ℤ) (nodes layer all : List Node) (bounds ends : List ℕ)
    → 0 < width → AreLayers d width targets 0 nodes bounds → all ≡ nodes ++ layer → ends ≡ bounds ++ length all ∷ [] → layer ≡ root ∷ []
    → AreLayers d width targets 1 all ends
unfolding kept
layers-one d width targets nodes layer all bounds ends wide are pushed ended is = layers-add d width targets 0 nodes layer all bounds ends wide are pushed ended is

-- layers of one segment are few nodes
pub layers-few : (d : Decoder) (blocks : ℕ) (targets : List ℤ) (width n : ℕ) (nodes : List Node) (bounds : List ℕ) → 0 < d.samples → AreTargets d blocks targets → width ≤ 64 → n ≤ suc blocks
    → AreLayers d width targets n nodes bounds → length nodes ≤ 16777280
layers-few d blocks targets width n nodes bounds some whole narrow low are =
    let each = le-mul_of_pos_right {m = d.samples} blocks some in
    let wide = mul-le-mul_left n narrow in
    let count = whole.count in
    let all = whole.few in
    let few = are.few in
    omega (arith, each, wide, count, all, few, low)

-- what is kept of the last layer's extensions
pub layer-next : (d : Decoder) (width : ℕ) (targets : List ℤ) (b : ℕ) (rule : HeadRule) (block : List ℤ) (layer next : List Node)
    → rule ≡ rule_of first_only b → block ≡ targets_in d targets b → layer ≡ kept d width targets b
    → next ≡ take width (sorted (extensions d rule block layer (length layer))) → next ≡ kept d width targets (suc b)
unfolding kept
layer-next d width targets b rule block layer next ruled here layer_is made =
    made ∙ (ap (λ z. take width (sorted (extensions d z block layer (length layer)))) ruled
    ∙ (ap (λ z. take width (sorted (extensions d (rule_of first_only b) z layer (length layer)))) here
    ∙ ap (λ z. take width (sorted (extensions d (rule_of first_only b) (targets_in d targets b) z (length z)))) layer_is))

-- the last layer is what stands behind its bound
pub last-layer : (d : Decoder) (width : ℕ) (targets : List ℤ) (b begin : ℕ) (nodes : List Node) (bounds : List ℕ)
    → AreLayers d width targets (suc b) nodes bounds → begin ≡ get_or bounds b 0 → drop begin nodes ≡ kept d width targets b
unfolding nodes_at
last-layer d width targets b begin nodes bounds are at =
    let last = are.last in
    let whole : length (drop begin nodes) ≤ get_or bounds (suc b) 0 - begin = omega (arith, last, length-drop begin nodes) in
    sym (take_all (get_or bounds (suc b) 0 - begin) (drop begin nodes) whole)
    ∙ (ap (λ i. take (get_or bounds (suc b) 0 - i) (drop i nodes)) at ∙ are.each b (omega arith))

-- its nodes have their parents
pub layers-linked : (r : Rules) → IsMachine r → (width : ℕ) (targets : List ℤ) (blocks : ℕ) (nodes : List Node) (bounds : List ℕ) → 0 < width → length nodes < 2 ^ 32 → AreLayers r.decoder width targets (suc blocks) nodes bounds → AreLinked nodes bounds blocks
layers-linked r laws width targets blocks nodes bounds wide few are = record {
  few = few;
  size = (let s = are.count in omega arith);
  parents = λ b k below within.
      (let here = are.each (suc b) (omega arith) in
      let before = are.each b (omega arith) in
      let size = ap length here in
      let e = kept-extends r.decoder width targets b k (omega (arith, size, within)) in
      let p = ap (λ xs. (get_or xs k root).parent) here in
      let q = ap length before in
      let w = e.within in
      omega (arith, p, q, w));
  some = (let last = ap length (are.each blocks (omega arith)) in let s = kept-some r laws width targets blocks wide in omega (arith, last, s));
}

-- and the way back is the prefix
pub way-prefix : (d : Decoder) (width : ℕ) (targets : List ℤ) (n b k : ℕ) (nodes : List Node) (bounds : List ℕ) → AreLayers d width targets n nodes bounds → b < n
    → way_to nodes bounds b k ≡ prefix d width targets b k
unfolding way_to prefix
way-prefix d width targets n zero k nodes bounds are below = refl
way-prefix d width targets n (suc b) k nodes bounds are below =
    ap (λ xs. way_to nodes bounds b (get_or xs k root).parent ++ (get_or xs k root).head ∷ []) (are.each (suc b) below)
    ∙ ap (λ hs. hs ++ (get_or (kept d width targets (suc b)) k root).head ∷ []) (way-prefix d width targets n b (get_or (kept d width targets (suc b)) k root).parent nodes bounds are (omega arith))

-- what the way back has seen: the heads behind node `place` of layer b, last first
pub record IsBack (nodes : List Node) (bounds : List ℕ) (blocks b place : ℕ) (seen : List ℕ) : Type 0 where
  pub below : b ≤ blocks
  pub within : place < length (nodes_at nodes bounds b)
  pub so_far : way_to nodes bounds blocks 0 ≡ way_to nodes bounds b place ++ reverse seen

-- nothing so far
pub back-none : (nodes : List Node) (bounds : List ℕ) (blocks : ℕ) (seen : List ℕ) → AreLinked nodes bounds blocks → seen ≡ [] → IsBack nodes bounds blocks blocks 0 seen
back-none nodes bounds blocks seen linked none = record {
  below = omega arith;
  within = linked.some;
  so_far = sym (append-nil (way_to nodes bounds blocks 0)) ∙ ap (λ xs. way_to nodes bounds blocks 0 ++ reverse xs) (sym none);
}

back-step : (nodes : List Node) (bounds : List ℕ) (blocks b m place : ℕ) (x : Node) (seen after : List ℕ) → AreLinked nodes bounds blocks → b ≡ suc m → IsBack nodes bounds blocks b place seen
    → x ≡ get_or (nodes_at nodes bounds b) place root → after ≡ seen ++ x.head ∷ [] → IsBack nodes bounds blocks m x.parent after
unfolding way_to
back-step nodes bounds blocks zero m place x seen after linked e back is pushed = absurd (omega arith)
back-step nodes bounds blocks (suc b) m place x seen after linked e back is pushed =
    let same : b ≡ m = omega arith in
    let n = get_or (nodes_at nodes bounds (suc b)) place root in
    let parent = linked.parents b place (let h = back.below in omega arith) back.within in
    let p : n.parent ≡ x.parent = ap (λ z. z.parent) (sym is) in
    let h : n.head ≡ x.head = ap (λ z. z.head) (sym is) in
    let front : List ℕ = way_to nodes bounds b n.parent in
    let turned : x.head ∷ reverse seen ≡ reverse after = sym (reverse-append seen (x.head ∷ [])) ∙ ap reverse (sym pushed) in
    subst (λ (z : ℕ). IsBack nodes bounds blocks z x.parent after) same record {
      below = (let g = back.below in omega arith);
      within = omega (arith, parent, p);
      so_far = back.so_far ∙ (append_assoc front (n.head ∷ []) (reverse seen) ∙ (ap (λ z. front ++ z ∷ reverse seen) h ∙ (ap (λ z. way_to nodes bounds b z ++ x.head ∷ reverse seen) p ∙ ap (λ zs. way_to nodes bounds b x.parent ++ zs) turned)));
    }

-- one step back
pub back-more : (nodes : List Node) (bounds : List ℕ) (blocks b place : ℕ) (x : Node) (seen after : List ℕ) → AreLinked nodes bounds blocks → 0 < b → IsBack nodes bounds blocks b place seen
    → x ≡ get_or (nodes_at nodes bounds b) place root → after ≡ seen ++ x.head ∷ [] → IsBack nodes bounds blocks (b - 1) x.parent after
back-more nodes bounds blocks b place x seen after linked some back is pushed = back-step nodes bounds blocks b (b - 1) place x seen after linked (omega arith) back is pushed

-- the whole way
pub back-all : (nodes : List Node) (bounds : List ℕ) (blocks b place : ℕ) (seen : List ℕ) → IsBack nodes bounds blocks b place seen → b ≡ 0 → reverse seen ≡ way_to nodes bounds blocks 0
unfolding way_to
back-all nodes bounds blocks zero place seen back none = sym back.so_far
back-all nodes bounds blocks (suc b) place seen back none = absurd (omega arith)
