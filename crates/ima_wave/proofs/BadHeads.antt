-- The first bad head, one block after another.
use Rattle.std.proofs.Common.{◌≡◌, ℕ, zero, suc, ◌+◌, ◌-◌, ◌*◌, ◌<◌, ◌≤◌, ◌⊎◌, inl, inr, List, arith, refl, sym, ap, ◌∙◌, subst}
use Rattle.std.specs.Prelude.{Option, Some, None, option_map}
use Rattle.std.specs.Option.{option_or}
use Rattle.ima_machine.specs.declared.fault.ImaFault.{ImaFault}
use Rattle.ima_machine.specs.Faults.{fault_in}
use Rattle.ima_wave.specs.declared.fault.ImaWaveFault.{ImaWaveFault}
use Rattle.ima_wave.specs.declared.fault.ImaWaveFault.TheVariants.{BadHead}
use Rattle.ima_wave.specs.Heads.{block_fault, first_bad_head}

-- a block with a head is passed over
pub goes_on : (align : ℕ) (bytes : List ℕ) (count block : ℕ) → block_fault align bytes block ≡ None → first_bad_head align bytes (suc count) block ≡ first_bad_head align bytes count (block + 1)
unfolding first_bad_head
goes_on align bytes count block none = ap (λ (f : Option ImaWaveFault). option_or f (first_bad_head align bytes count (block + 1))) none

-- one with a bad head is the first
pub stops : (align : ℕ) (bytes : List ℕ) (count block : ℕ) (e : ImaWaveFault) → block_fault align bytes block ≡ Some e → first_bad_head align bytes (suc count) block ≡ Some e
unfolding first_bad_head
stops align bytes count block e some = ap (λ (f : Option ImaWaveFault). option_or f (first_bad_head align bytes count (block + 1))) some

pub ends : (align : ℕ) (bytes : List ℕ) (block : ℕ) → first_bad_head align bytes 0 block ≡ None
unfolding first_bad_head
ends align bytes block = refl

-- what is left to look at, in a loop
pub one-more : (align : ℕ) (bytes : List ℕ) (left rest block : ℕ) → left ≡ suc rest → block_fault align bytes block ≡ None → first_bad_head align bytes left block ≡ first_bad_head align bytes rest (block + 1)
one-more align bytes left rest block e none = ap (λ n. first_bad_head align bytes n block) e ∙ goes_on align bytes rest block none

pub one-bad : (align : ℕ) (bytes : List ℕ) (left rest block : ℕ) (e : ImaWaveFault) → left ≡ suc rest → block_fault align bytes block ≡ Some e → first_bad_head align bytes left block ≡ Some e
one-bad align bytes left rest block e count some = ap (λ n. first_bad_head align bytes n block) count ∙ stops align bytes rest block e some

pub no-more : (align : ℕ) (bytes : List ℕ) (left block : ℕ) → left ≡ 0 → first_bad_head align bytes left block ≡ None
no-more align bytes left block e = ap (λ n. first_bad_head align bytes n block) e ∙ ends align bytes block

-- where no block has a bad head there is no first one
pub none-bad : (align : ℕ) (bytes : List ℕ) (count block : ℕ) → ((b : ℕ) → block ≤ b → b < block + count → fault_in bytes (b * align) ≡ None) → first_bad_head align bytes count block ≡ None
none-bad align bytes zero block good = ends align bytes block
none-bad align bytes (suc count) block good =
    goes_on align bytes count block (ap (option_map (BadHead block)) (good block (omega arith) (omega arith)))
    ∙ none-bad align bytes count (block + 1) (λ b above below. good b (omega arith) (omega arith))

mapped-none : (block : ℕ) (f : Option ImaFault) → option_map (BadHead block) f ≡ None → f ≡ None
mapped-none block None e = refl
mapped-none block (Some x) e = absurd (cc)

front-none : (x y : Option ImaWaveFault) → option_or x y ≡ None → x ≡ None
front-none None y e = refl
front-none (Some v) y e = absurd (cc)

same-or-above : (a b : ℕ) → a ≤ b → (a ≡ b) ⊎ (a + 1 ≤ b)
same-or-above a b h = grind arith

-- and where there is none, no block has one
pub all-good : (align : ℕ) (bytes : List ℕ) (count block : ℕ) → first_bad_head align bytes count block ≡ None → (b : ℕ) → block ≤ b → b < block + count → fault_in bytes (b * align) ≡ None
unfolding first_bad_head
all-good align bytes zero block none b above below = absurd (omega arith)
all-good align bytes (suc count) block none b above below =
    let here = front-none (block_fault align bytes block) (first_bad_head align bytes count (block + 1)) none in
    let good = mapped-none block (fault_in bytes (block * align)) here in
    elim (same-or-above block b above) [
      | inl e ↦ subst (λ (n : ℕ). fault_in bytes (n * align) ≡ None) e good
      | inr later ↦ all-good align bytes count (block + 1) (sym (ap (λ (f : Option ImaWaveFault). option_or f (first_bad_head align bytes count (block + 1))) here) ∙ none) b later (omega arith)
    ]
