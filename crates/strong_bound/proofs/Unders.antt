-- Bounds under what heads cost.
use Rattle.std.proofs.Common.{◌≡◌, ℕ, ◌+◌, ◌*◌, ◌<◌, ◌≤◌, arith, subst, sym, below_more, Bool, IsTrue, List, drop, get_or}
use Rattle.std.specs.Prelude.{ℤ, pos, ◌*ℤ◌, ◌-ℤ◌}
use Rattle.adpcm_nums.specs.Nums.{square_of}
use Rattle.machine_core.specs.declared.state.HeadRule.{HeadRule}
use Rattle.machine_core.specs.Decoder.{Decoder}
use Rattle.window_floor.specs.Windows.{Windows}
use Rattle.linear_machine.specs.Linear.{Linear}
use Rattle.block_bounds.specs.Outputs.{Outputs}
use Rattle.strong_bound.specs.Counted.{IsUnder}

-- a bound is under the windows that are the same
pub under-as : (b w : Windows) (leaving : Bool) (entering : ℕ) (xs : List ℤ) (bound : ℕ) → b ≡ w
    → ((r o : ℤ) (c : ℕ) → Outputs b leaving (drop 2 xs) (get_or xs 0 (pos 0)) (get_or xs 1 (pos 0)) r o c
    → bound ≤ entering * square_of (b.row.scale *ℤ r -ℤ get_or xs 0 (pos 0)) + entering * square_of (b.row.scale *ℤ o -ℤ get_or xs 1 (pos 0)) + c)
    → IsUnder w leaving entering xs bound
unfolding IsUnder
under-as b w leaving entering xs bound e owes = subst (λ (v : Windows). IsUnder v leaving entering xs bound) e owes

-- and so is a lower one
pub under-less : (b : Windows) (leaving : Bool) (entering : ℕ) (xs : List ℤ) (bound less : ℕ) → less ≤ bound → IsUnder b leaving entering xs bound → IsUnder b leaving entering xs less
unfolding IsUnder
under-less b leaving entering xs bound less h under = λ r o c outputs. (let k = under r o c outputs in omega (arith, h, k))

-- a bound is under each of the first n heads that the rule allows
abbrev pub IsUnderFirst : Linear → Decoder → HeadRule → Bool → ℕ → List ℤ → ℕ → ℕ → Type 0
IsUnderFirst l d rule leaving entering xs n bound = (head : ℕ) → head < n → IsTrue (d.allows head rule) → IsUnder (l.windows head) leaving entering xs bound

-- one more head, with a bound that is no more than those before it
pub first-more : (l : Linear) (d : Decoder) (rule : HeadRule) (leaving : Bool) (entering : ℕ) (xs : List ℤ) (n bound less : ℕ) → IsUnderFirst l d rule leaving entering xs n bound → less ≤ bound
    → (IsTrue (d.allows n rule) → IsUnder (l.windows n) leaving entering xs less) → IsUnderFirst l d rule leaving entering xs (n + 1) less
first-more l d rule leaving entering xs n bound less front h last =
    below_more (λ k. IsTrue (d.allows k rule) → IsUnder (l.windows k) leaving entering xs less) n
    (λ k within allowed. under-less (l.windows k) leaving entering xs bound less h (front k within allowed))
    last

-- a head that was tried before, by its number
pub tried-as : (l : Linear) (d : Decoder) (rule : HeadRule) (leaving : Bool) (entering : ℕ) (xs : List ℤ) (near head bound : ℕ)
    → (near < d.heads → IsTrue (d.allows near rule) → IsUnder (l.windows near) leaving entering xs bound) → head < d.heads
    → head ≡ near → IsTrue (d.allows head rule) → IsUnder (l.windows head) leaving entering xs bound
tried-as l d rule leaving entering xs near head bound tried within e =
    subst (λ (h : ℕ). h < d.heads → IsTrue (d.allows h rule) → IsUnder (l.windows h) leaving entering xs bound) (sym e) tried within

-- the same in other words
pub under-for : (b : Windows) (leaving left : Bool) (entering enter : ℕ) (xs : List ℤ) (bound : ℕ) → leaving ≡ left → entering ≡ enter → IsUnder b leaving entering xs bound → IsUnder b left enter xs bound
under-for b leaving left entering enter xs bound e g under = subst (λ (n : ℕ). IsUnder b left n xs bound) g (subst (λ (z : Bool). IsUnder b z entering xs bound) e under)
