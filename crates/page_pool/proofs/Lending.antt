-- A `&` to memory is made of a `&` to each of its items; the room behind them is not lent. Assumes `Logic`.
use Prim.Native.Nat.{ℕ, ◌+◌}
use Rattle.std.specs.Prelude.{List, [], ◌∷◌, length}
use Rattle.std.specs.Mem.{type_size}
use seplogic.Ra.Ura.{Ura}
use base.Fraction.{full_share}
use base.Fml.{Lft, Incl, ffalse}
use types.Logic.{Logic}
use denote.RattleType.{RattleType, RowLaws}
use denote.Memory.{part_at, shared_of}
use denote.Param.Laws.{Laws}
use denote.RawPtr.{Ptr, block_ptr, null_ptr}
use denote.Sharing.{ShrLaws, said}
use denote.SharingLaws.{beside_shr_laws, said_shr_laws}
use denote.Shares.{Shares-less}
use denote.Slice.{elements_shared, elements_shr_laws}
use denote.Struct.Lending.{Lends, Lends-both, Lends-nothing, Lends-said, Lends-false}
use Rattle.page_pool.specs.Ownership.{laid, fit, memory_owns, memory_lends}

-- what a `&` holds can be had twice, and for shorter
pub memory_lends_laws : (R : RattleType) → RowLaws R → (start : Ptr) (xs : List R.Denot) (left : ℕ) → ShrLaws (memory_lends R start xs left)
memory_lends_laws R L (block_ptr b at) xs left =
    beside_shr_laws (said (fit R (length xs + left))) (elements_shared R xs b at) (said_shr_laws (fit R (length xs + left)) tt) (elements_shr_laws R L xs b at)
memory_lends_laws R L null_ptr xs left = said_shr_laws ffalse tt

module _ {M : Type 1} {𝓤 : Ura M} (𝓛 : Logic 𝓤) (R : RattleType) (L : Laws R) (l : Lft) (within : Incl l R.lives) (b : ℕ) where
  Lends-laid : (at : ℕ) (xs : List R.Denot) (left : ℕ) → Lends 𝓛 (laid R b at xs left) (elements_shared R xs b at) l
  Lends-laid at [] left = Lends-nothing 𝓛 (laid R b at [] left) l
  Lends-laid at (x ∷ xs) left =
      let next = at + type_size R in
      Lends-both 𝓛 (part_at R full_share x b at) (laid R b next xs left) (shared_of R x b at) (elements_shared R xs b next) l
      (λ κ ts. Shares-less 𝓛 R R.lives l within (L.shares 𝓛) x κ ts b at) (Lends-laid next xs left)

-- a borrow of the memory becomes what a `&` holds
pub Lends-memory : {M : Type 1} {𝓤 : Ura M} (𝓛 : Logic 𝓤) (R : RattleType) (L : Laws R) (l : Lft) → Incl l R.lives → (start : Ptr) (xs : List R.Denot) (left : ℕ)
    → Lends 𝓛 (memory_owns R start xs left) (memory_lends R start xs left) l
Lends-memory 𝓛 R L l within (block_ptr b at) xs left =
    let small = fit R (length xs + left) in
    Lends-both 𝓛 small (laid R b at xs left) (said small) (elements_shared R xs b at) l (Lends-said 𝓛 small tt l) (Lends-laid 𝓛 R L l within b at xs left)
Lends-memory 𝓛 R L l within null_ptr xs left = Lends-false 𝓛 (said ffalse) l
