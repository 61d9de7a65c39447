-- Bounds under what is counted from the states near two targets, and from all others.
use Rattle.std.proofs.Common.{◌≡◌, ℕ, ◌+◌, ◌≤◌, ◌*◌, arith, ap, sym, subst, ◌∙◌, inl, inr, IsTrue, List, get_or}
use Rattle.std.specs.Prelude.{◌⊎◌, ℤ, pos, ◌+ℤ◌, ◌-ℤ◌, ◌*ℤ◌, ◌≤ℤ◌, ◌<ℤ◌}
use Rattle.std.proofs.lemmas.Int.{ints}
use Rattle.std.proofs.Math.Nat.{mul-le-mul}
use Rattle.adpcm_nums.specs.Nums.{square_of}
use Rattle.adpcm_nums.proofs.OrderLaws.{le-or-gt}
use Rattle.machine_core.specs.declared.state.State.{State}
use Rattle.machine_core.specs.Decoder.{Decoder, cost_of}
use Rattle.strong_bound.specs.declared.states.Entry.{Entry}
use Rattle.strong_bound.specs.Quiet.{tried, far_cost, IsUnderSymbols, IsUnderLast, IsUnderEntry, HoldsRests, IsNear, pair_cost}
use Rattle.strong_bound.proofs.SymbolCounts.{under-more, rest-under}

-- a number below one more is below, or is the last
below-or-at : (x first : ℤ) (n : ℕ) → x <ℤ (first +ℤ pos (n + 1)) → (x <ℤ (first +ℤ pos n)) ⊎ (x ≡ first +ℤ pos n)
below-or-at x first n h = elim (le-or-gt (first +ℤ pos n) x) [
  | inr w ↦ inl w
  | inl w ↦ inr (omega (arith, ints, h, w))
]

states-are : (x y : State) → x.a ≡ y.a → x.b ≡ y.b → x ≡ y
states-are x y p q =
    let mk : ℤ → ℤ → State = λ a b. record { a = a; b = b } in
    ap (λ a. mk a x.b) p ∙ ap (mk y.a) q

-- no last output
pub last-none : (d : Decoder) (targets : List ℤ) (twice head : ℕ) (first : State) (entry : Entry) (paid bound : ℕ) → IsUnderLast d targets twice head first entry paid 0 bound
unfolding IsUnderLast
last-none d targets twice head first entry paid bound = λ at fits same low high. absurd (omega (arith, ints, low, high))

-- one more last output
pub last-more : (d : Decoder) (targets : List ℤ) (twice head : ℕ) (first : State) (entry : Entry) (paid n bound less : ℕ) (at : State) → IsUnderLast d targets twice head first entry paid n bound → less ≤ bound → at.a ≡ first.a +ℤ pos n → at.b ≡ first.b
    → (IsTrue (d.is_state at) → IsUnderSymbols d targets twice head entry.place at (paid + entry.last * cost_of d at entry.aim.a) less) → IsUnderLast d targets twice head first entry paid (n + 1) less
unfolding IsUnderLast
last-more d targets twice head first entry paid n bound less at front low a b under = λ s fits same from to.
    elim (below-or-at s.a first.a n to) [
      | inl w ↦ under-more d targets twice head entry.place s (paid + entry.last * cost_of d s entry.aim.a) (paid + entry.last * cost_of d s entry.aim.a) bound less (omega arith) low (front s fits same from w)
      | inr w ↦ (
          let it : at ≡ s = states-are at s (a ∙ sym w) (b ∙ sym same) in
          subst (λ (z : State). IsTrue (d.is_state z) → IsUnderSymbols d targets twice head entry.place z (paid + entry.last * cost_of d z entry.aim.a) less) it under fits)
    ]

-- the same for as many as there are
pub last-all : (d : Decoder) (targets : List ℤ) (twice head : ℕ) (first : State) (entry : Entry) (paid n m bound : ℕ) → n ≡ m → IsUnderLast d targets twice head first entry paid n bound → IsUnderLast d targets twice head first entry paid m bound
last-all d targets twice head first entry paid n m bound e under = subst (λ (k : ℕ). IsUnderLast d targets twice head first entry paid k bound) e under

-- a bound is under what is counted from the states of the first n older outputs
unfoldable pub IsUnderOlder : Decoder → List ℤ → ℕ → ℕ → State → Entry → ℕ → ℕ → Type 0
IsUnderOlder d targets twice head corner entry n bound =
    (at : State) → IsTrue (d.is_state at) → corner.b ≤ℤ at.b → at.b <ℤ (corner.b +ℤ pos n) → corner.a ≤ℤ at.a → at.a <ℤ (corner.a +ℤ pos tried) → IsUnderSymbols d targets twice head entry.place at (pair_cost d entry at) bound

pub older-none : (d : Decoder) (targets : List ℤ) (twice head : ℕ) (corner : State) (entry : Entry) (bound : ℕ) → IsUnderOlder d targets twice head corner entry 0 bound
unfolding IsUnderOlder
older-none d targets twice head corner entry bound = λ at fits low high from to. absurd (omega (arith, ints, low, high))

-- one more older output
pub older-more : (d : Decoder) (targets : List ℤ) (twice head : ℕ) (corner : State) (entry : Entry) (n bound less paid : ℕ) (first : State) → IsUnderOlder d targets twice head corner entry n bound → less ≤ bound
    → first.a ≡ corner.a → first.b ≡ corner.b +ℤ pos n → paid ≤ entry.older * square_of (pos d.scale *ℤ first.b -ℤ entry.aim.b)
    → IsUnderLast d targets twice head first entry paid tried less → IsUnderOlder d targets twice head corner entry (n + 1) less
unfolding IsUnderOlder IsUnderLast
older-more d targets twice head corner entry n bound less paid first front low a is costs under = λ s fits below to from end.
    elim (below-or-at s.b corner.b n to) [
      | inl w ↦ under-more d targets twice head entry.place s (pair_cost d entry s) (pair_cost d entry s) bound less (omega arith) low (front s fits below w from end)
      | inr w ↦ (
          let own = under s fits (w ∙ sym is) (omega (arith, ints, a, from)) (omega (arith, ints, a, end)) in
          let pays : paid ≤ entry.older * square_of (pos d.scale *ℤ s.b -ℤ entry.aim.b) = subst (λ (z : ℤ). paid ≤ entry.older * square_of (pos d.scale *ℤ z -ℤ entry.aim.b)) (is ∙ sym w) costs in
          under-more d targets twice head entry.place s (paid + entry.last * cost_of d s entry.aim.a) (pair_cost d entry s) less less (omega (arith, pays)) (omega arith) own)
    ]

-- what is counted once or more
times-more : (t x : ℕ) {less : ℕ} → 1 ≤ t → less ≤ x → less ≤ t * x
times-more t x some h = let k = mul-le-mul some h in omega (arith, k)

-- what is counted of a cost that is no more
pub times-costs : (t x y paid : ℕ) → paid ≤ t * x → x ≤ y → paid ≤ t * y
times-costs t x y paid h k = let m = mul-le-mul (let e : t ≤ t = omega arith in e) k in omega (arith, h, m)

-- an output that is not near, by the decoder's own scale
told-below : (scale aim first y : ℤ) (s : ℕ) → scale ≡ pos s → IsNear scale aim first → y <ℤ first → far_cost scale ≤ square_of (pos s *ℤ y -ℤ aim)
told-below scale aim first y s same near h = subst (λ (z : ℤ). far_cost scale ≤ square_of (z *ℤ y -ℤ aim)) same (near.below y h)

told-above : (scale aim first y : ℤ) (s : ℕ) → scale ≡ pos s → IsNear scale aim first → (first +ℤ pos tried) ≤ℤ y → far_cost scale ≤ square_of (pos s *ℤ y -ℤ aim)
told-above scale aim first y s same near h = subst (λ (z : ℤ). far_cost scale ≤ square_of (z *ℤ y -ℤ aim)) same (near.above y h)

-- the states near the targets, and those whose errors alone come to as much
pub states-all : (d : Decoder) (targets : List ℤ) (twice head : ℕ) (rests : List ℕ) (scale : ℤ) (corner : State) (entry : Entry) (top n bound : ℕ) → HoldsRests d targets twice head rests → entry.place ≤ d.samples → 1 ≤ entry.last → 1 ≤ entry.older → scale ≡ pos d.scale → n ≡ tried
    → IsUnderOlder d targets twice head corner entry n bound → bound ≤ top → top ≤ get_or rests entry.place 0 + far_cost scale → IsNear scale entry.aim.a corner.a → IsNear scale entry.aim.b corner.b
    → IsUnderEntry d entry targets twice head bound
unfolding IsUnderOlder IsUnderEntry
states-all d targets twice head rests scale corner entry top n bound holds within some once same all near low high last older = λ at fits.
    let far : far_cost scale ≤ pair_cost d entry at → IsUnderSymbols d targets twice head entry.place at (pair_cost d entry at) bound =
    λ h. rest-under d targets twice head rests entry.place at (pair_cost d entry at) bound holds within fits (omega (arith, low, high, h)) in
    elim (le-or-gt corner.b at.b) [
      | inr w ↦ far (let k = told-below scale entry.aim.b corner.b at.b d.scale same older w in let t = times-more entry.older _ once k in omega (arith, t))
      | inl b_low ↦ elim (le-or-gt (corner.b +ℤ pos tried) at.b) [
        | inl w ↦ far (let k = told-above scale entry.aim.b corner.b at.b d.scale same older w in let t = times-more entry.older _ once k in omega (arith, t))
        | inr b_high ↦ elim (le-or-gt corner.a at.a) [
          | inr w ↦ far (let k = told-below scale entry.aim.a corner.a at.a d.scale same last w in let t = times-more entry.last _ some k in omega (arith, t))
          | inl a_low ↦ elim (le-or-gt (corner.a +ℤ pos tried) at.a) [
            | inl w ↦ far (let k = told-above scale entry.aim.a corner.a at.a d.scale same last w in let t = times-more entry.last _ some k in omega (arith, t))
            | inr a_high ↦ near at fits b_low (subst (λ (k : ℕ). at.b <ℤ (corner.b +ℤ pos k)) (sym all) b_high) a_low a_high
          ]
        ]
      ]
    ]

-- where what was counted and the rest come to the least so far
pub entering-under : (d : Decoder) (targets : List ℤ) (twice head : ℕ) (rests : List ℕ) (p : ℕ) (at : State) (paid cost entering all top : ℕ) → HoldsRests d targets twice head rests → p ≤ d.samples → IsTrue (d.is_state at)
    → entering ≤ paid + cost → all ≤ entering + get_or rests p 0 → top ≤ all → IsUnderSymbols d targets twice head p at (paid + cost) top
entering-under d targets twice head rests p at paid cost entering all top holds within fits h k low = rest-under d targets twice head rests p at (paid + cost) top holds within fits (omega (arith, h, k, low))

-- the same for each last output
pub last-under : (d : Decoder) (targets : List ℤ) (twice head : ℕ) (rests : List ℕ) (first : State) (entry : Entry) (paid n all top : ℕ) → HoldsRests d targets twice head rests → entry.place ≤ d.samples → all ≤ paid + get_or rests entry.place 0 → top ≤ all
    → IsUnderLast d targets twice head first entry paid n top
unfolding IsUnderLast
last-under d targets twice head rests first entry paid n all top holds within h low =
    λ at fits same from to. rest-under d targets twice head rests entry.place at (paid + entry.last * cost_of d at entry.aim.a) top holds within fits (omega (arith, h, low))
