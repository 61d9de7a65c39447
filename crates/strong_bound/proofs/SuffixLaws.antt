-- Bounds under what is counted from a place on, from the states whose two outputs stand there and one place further.
use Rattle.std.proofs.Common.{◌≡◌, ◌≢◌, ℕ, ◌+◌, ◌*◌, ◌<◌, ◌≤◌, arith, ap, sym, subst, ◌∙◌, inl, inr, max, List, get_or, set, length}
use Rattle.std.specs.Prelude.{ℤ, pos, ◌*ℤ◌, ◌-ℤ◌}
use Rattle.std.proofs.lemmas.Bool.{cases_lt}
use Rattle.std.proofs.lemmas.List.{get_or-set_same, get_or-set_other}
use Rattle.adpcm_nums.specs.Nums.{square_of}
use Rattle.machine_core.specs.declared.state.State.{State}
use Rattle.machine_core.specs.Decoder.{Decoder, cost_of}
use Rattle.machine_core.specs.Rules.{Rules, IsMachine}
use Rattle.linear_machine.specs.Linear.{Linear, IsLinear}
use Rattle.strong_bound.specs.declared.states.Entry.{Entry}
use Rattle.strong_bound.specs.Quiet.{times_at, count_from, IsUnderSymbols, IsUnderRest, IsUnderEntry, HoldsRests, pair_cost}
use Rattle.strong_bound.proofs.SymbolCounts.{count-step}

-- a decoder whose step keeps the last output behind the new one
abbrev pub KeepsLast : Decoder → Type 0
KeepsLast d = (head p symbol : ℕ) (at : State) → (d.step head p symbol at).b ≡ at.a

pub keeps-last : (l : Linear) → IsLinear l → KeepsLast l.decoder
keeps-last l is = λ head p symbol at. ap (λ (s : State). s.b) (is.steps head p symbol at)

products : (a b x y : ℕ) → a ≡ b → x ≡ y → a * x ≡ b * y
products a b x y e g = ap (λ z. z * x) e ∙ ap (λ z. b * z) g

sums : (all first rest second behind older last : ℕ) → all ≡ first + rest → rest ≡ second + behind → older ≡ first → last ≡ second → all ≡ older + last + behind
sums all first rest second behind older last e g h k = omega (arith, e, g, h, k)

-- what two places count, and what comes behind them
two-places : (d : Decoder) → KeepsLast d → (targets : List ℤ) (twice head : ℕ) (symbol : ℕ → ℕ) (p : ℕ) (at : State) (entry : Entry) → p + 2 ≤ d.samples
    → entry.aim.a ≡ get_or targets (p + 1) (pos 0) → entry.aim.b ≡ get_or targets p (pos 0) → entry.last ≡ times_at twice (p + 1) → entry.older ≡ times_at twice p
    → count_from d targets twice head symbol p at ≡ pair_cost d entry (d.step head (p + 1) (symbol (p + 1)) (d.step head p (symbol p) at)) + count_from d targets twice head symbol (p + 1 + 1) (d.step head (p + 1) (symbol (p + 1)) (d.step head p (symbol p) at))
two-places d keeps targets twice head symbol p at entry h a b last older =
    let s = d.step head p (symbol p) at in
    let t = d.step head (p + 1) (symbol (p + 1)) s in
    let first = count-step d targets twice head symbol p at (omega (arith, h)) in
    let second = count-step d targets twice head symbol (p + 1) s (omega (arith, h)) in
    let kept : square_of (pos d.scale *ℤ t.b -ℤ entry.aim.b) ≡ cost_of d s (get_or targets p (pos 0)) =
    ap (λ (y : ℤ). square_of (pos d.scale *ℤ y -ℤ entry.aim.b)) (keeps head (p + 1) (symbol (p + 1)) s) ∙ ap (λ (y : ℤ). square_of (pos d.scale *ℤ s.a -ℤ y)) b in
    let new : cost_of d t entry.aim.a ≡ cost_of d t (get_or targets (p + 1) (pos 0)) = ap (λ (y : ℤ). cost_of d t y) a in
    sums _ _ _ _ _ _ _ first second (products _ _ _ _ older kept) (products _ _ _ _ last new)

-- a bound from the states behind two places is one from the first of them on
pub entry-rest : (r : Rules) → IsMachine r → KeepsLast r.decoder → (targets : List ℤ) (twice head p : ℕ) (entry : Entry) (bound : ℕ) → head < r.decoder.heads → p + 2 ≤ r.decoder.samples → entry.place ≡ p + 2
    → entry.aim.a ≡ get_or targets (p + 1) (pos 0) → entry.aim.b ≡ get_or targets p (pos 0) → entry.last ≡ times_at twice (p + 1) → entry.older ≡ times_at twice p
    → IsUnderEntry r.decoder entry targets twice head bound → IsUnderRest r.decoder targets twice head p bound
unfolding IsUnderRest IsUnderEntry IsUnderSymbols
entry-rest r laws keeps targets twice head p entry bound head_fits within place a b last older under = λ at fits symbol are.
    let d = r.decoder in
    let s = d.step head p (symbol p) at in
    let t = d.step head (p + 1) (symbol (p + 1)) s in
    let s_fits = laws.steps head p (symbol p) at head_fits (omega (arith, within)) (are p (omega (arith, within))) fits in
    let t_fits = laws.steps head (p + 1) (symbol (p + 1)) s head_fits (omega (arith, within)) (are (p + 1) (omega (arith, within))) s_fits in
    let behind : entry.place ≡ p + 1 + 1 = omega (arith, place) in
    let told = subst (λ (q : ℕ). bound ≤ pair_cost d entry t + count_from d targets twice head symbol q t) behind (under t t_fits symbol are) in
    let all = two-places d keeps targets twice head symbol p at entry within a b last older in
    omega (arith, told, all)

-- what is known from the next place on
pub next-rest : (r : Rules) → IsMachine r → (targets : List ℤ) (twice head p bound : ℕ) → head < r.decoder.heads → p < r.decoder.samples → IsUnderRest r.decoder targets twice head (p + 1) bound → IsUnderRest r.decoder targets twice head p bound
unfolding IsUnderRest IsUnderSymbols
next-rest r laws targets twice head p bound head_fits within under = λ at fits symbol are.
    let d = r.decoder in
    let s_fits = laws.steps head p (symbol p) at head_fits within (are p within) fits in
    let told = under (d.step head p (symbol p) at) s_fits symbol are in
    let all = count-step d targets twice head symbol p at within in
    omega (arith, told, all)

-- the greater of two bounds
pub greater-rest : (d : Decoder) (targets : List ℤ) (twice head p x y z : ℕ) → z ≡ max x y → IsUnderRest d targets twice head p x → IsUnderRest d targets twice head p y → IsUnderRest d targets twice head p z
unfolding IsUnderRest IsUnderSymbols
greater-rest d targets twice head p x y z e first second = λ at fits symbol are.
    let k = first at fits symbol are in
    let l = second at fits symbol are in
    omega (arith, e, k, l)

-- what a table says of a place and the next one
pub known-rest : (r : Rules) → IsMachine r → (targets : List ℤ) (twice head p low : ℕ) (rests : List ℕ) → head < r.decoder.heads → p < r.decoder.samples → HoldsRests r.decoder targets twice head rests
    → low ≡ max (get_or rests p 0) (get_or rests (p + 1) 0) → IsUnderRest r.decoder targets twice head p low
unfolding HoldsRests
known-rest r laws targets twice head p low rests head_fits within holds e =
    greater-rest r.decoder targets twice head p (get_or rests p 0) (get_or rests (p + 1) 0) low e (holds p (omega (arith, within))) (next-rest r laws targets twice head p (get_or rests (p + 1) 0) head_fits within (holds (p + 1) (omega (arith, within))))

-- a table with one more bound
pub rests-set : (d : Decoder) (targets : List ℤ) (twice head p bound : ℕ) (rests : List ℕ) → p < length rests → HoldsRests d targets twice head rests → IsUnderRest d targets twice head p bound → HoldsRests d targets twice head (set rests p bound)
unfolding HoldsRests
rests-set d targets twice head p bound rests within holds under = λ q h.
    let other : ◌≢◌ q p → IsUnderRest d targets twice head q (get_or (set rests p bound) q 0) = λ apart. subst (IsUnderRest d targets twice head q) (sym (get_or-set_other rests p q bound 0 apart)) (holds q h) in
    elim (cases_lt q p) [
      | inl w ↦ other (λ e. absurd (omega (arith, w, e)))
      | inr w ↦ elim (cases_lt p q) [
        | inl v ↦ other (λ e. absurd (omega (arith, v, e)))
        | inr v ↦ (
            let same : p ≡ q = omega (arith, v, w) in
            let read : get_or (set rests p bound) q 0 ≡ bound = ap (λ z. get_or (set rests p bound) z 0) (sym same) ∙ get_or-set_same rests p bound 0 within in
            subst (IsUnderRest d targets twice head q) (sym read) (subst (λ (z : ℕ). IsUnderRest d targets twice head z bound) same under))
      ]
    ]
