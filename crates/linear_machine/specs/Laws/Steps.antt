-- What a step keeps, and when it forgets.
use Rattle.std.proofs.Common.{◌≡◌, ℕ, suc, ◌-◌, ◌≤◌, arith, ap, sym, subst, ◌∙◌, true}
use Rattle.std.specs.Prelude.{ℤ}
use Rattle.machine_core.specs.declared.state.State.{State}
use Rattle.machine_core.specs.declared.state.HeadRule.TheVariants.{FilterZero}
use Rattle.machine_core.specs.Decoder.{Decoder, Forgets, run}

-- the state of an output and of the one before it
abbrev pub state_of : ℤ → ℤ → State
state_of a b = record { a = a; b = b }

-- a step's output comes of the code and of the last two outputs, and the last one becomes the one before it
abbrev pub StepsBy : Decoder → (ℕ → ℕ → ℤ → ℤ → ℤ) → Type 0
StepsBy d output = (head p code : ℕ) (at : State) → d.step head p code at ≡ state_of (output head code at.a at.b) at.a

-- so heads whose outputs are the same act alike
pub same-step : (d : Decoder) (output : ℕ → ℕ → ℤ → ℤ → ℤ) → StepsBy d output → (g h p code : ℕ) (at : State)
    → output g code at.a at.b ≡ output h code at.a at.b → d.step g p code at ≡ d.step h p code at
same-step d output steps g h p code at e = steps g p code at ∙ ap (λ (y : ℤ). state_of y at.a) e ∙ sym (steps h p code at)

-- the state after an output that a step gives
pub step-to : (d : Decoder) (output : ℕ → ℕ → ℤ → ℤ → ℤ) → StepsBy d output → (head p code : ℕ) (at : State) (y : ℤ)
    → y ≡ output head code at.a at.b → state_of y at.a ≡ d.step head p code at
step-to d output steps head p code at y is = ap (λ (z : ℤ). state_of z at.a) is ∙ sym (steps head p code at)

-- under a head the outputs before do not count
abbrev pub IsAlone : (ℕ → ℕ → ℤ → ℤ → ℤ) → ℕ → Type 0
IsAlone output head = (code : ℕ) (o r o' r' : ℤ) → output head code o r ≡ output head code o' r'

-- an output of a block, from the state before it
run-a : (d : Decoder) (output : ℕ → ℕ → ℤ → ℤ → ℤ) → StepsBy d output → (head : ℕ) (symbol : ℕ → ℕ) (s t : State) (p : ℕ) → IsAlone output head
    → (run d head symbol s (suc p)).a ≡ (run d head symbol t (suc p)).a
run-a d output steps head symbol s t p alone =
    let last : State → ℤ = λ at. at.a in
    let x = run d head symbol s p in
    let y = run d head symbol t p in
    ap last (steps head p (symbol p) x) ∙ alone (symbol p) x.a x.b y.a y.b ∙ sym (ap last (steps head p (symbol p) y))

-- and the one before it
run-b : (d : Decoder) (output : ℕ → ℕ → ℤ → ℤ → ℤ) → StepsBy d output → (head : ℕ) (symbol : ℕ → ℕ) (s t : State) (p : ℕ) → IsAlone output head
    → (run d head symbol s (suc (suc p))).b ≡ (run d head symbol t (suc (suc p))).b
run-b d output steps head symbol s t p alone =
    let older : State → ℤ = λ at. at.b in
    ap older (steps head (suc p) (symbol (suc p)) (run d head symbol s (suc p))) ∙ run-a d output steps head symbol s t p alone
    ∙ sym (ap older (steps head (suc p) (symbol (suc p)) (run d head symbol t (suc p))))

-- states with the same numbers are the same
states-are : (x y : State) → x.a ≡ y.a → x.b ≡ y.b → x ≡ y
states-are x y p q = ap (λ (a : ℤ). state_of a x.b) p ∙ ap (state_of y.a) q

-- so from the second sample on the whole state does not depend on the one before the block
run-both : (d : Decoder) (output : ℕ → ℕ → ℤ → ℤ → ℤ) → StepsBy d output → (head : ℕ) (symbol : ℕ → ℕ) (s t : State) (n : ℕ) → IsAlone output head → 2 ≤ n
    → run d head symbol s n ≡ run d head symbol t n
run-both d output steps head symbol s t n alone some =
    let n-is : n ≡ suc (suc (n - 2)) = omega arith in
    let both = states-are (run d head symbol s (suc (suc (n - 2)))) (run d head symbol t (suc (suc (n - 2))))
    (run-a d output steps head symbol s t (suc (n - 2)) alone) (run-b d output steps head symbol s t (n - 2) alone) in
    subst (λ (k : ℕ). run d head symbol s k ≡ run d head symbol t k) (sym n-is) both

-- a decoder forgets where under each head that may be the first the outputs before do not count
pub forgets-by : (d : Decoder) (output : ℕ → ℕ → ℤ → ℤ → ℤ) → StepsBy d output → 2 ≤ d.samples
    → ((head : ℕ) → d.allows head FilterZero ≡ true → IsAlone output head) → Forgets d
forgets-by d output steps some alone = record {
  some_samples = omega (arith, some);
  outputs = λ head symbol s t p zero' within. run-a d output steps head symbol s t p (alone head zero');
  after = λ head symbol s t zero'. run-both d output steps head symbol s t d.samples (alone head zero') some;
}
