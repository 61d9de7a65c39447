-- What memory for items owns and lends, at items of the row R.
use Rattle.std.specs.Prelude.{ℕ, ◌+◌, ◌*◌, ◌^◌, List, [], ◌∷◌, length}
use Rattle.std.specs.Mem.{type_size}
use base.Fraction.{full_share}
use base.Fml.{Lft, Fml, ffalse, fsep, flt, froom}
use mir.Syntax.{Ty, ty_array}
use mir.Raw.{raw}
use denote.RattleType.{RattleType}
use denote.Memory.{lone, part_at}
use denote.Sharing.{said, beside}
use denote.Slice.{elements_shared}
use denote.RawPtr.{Ptr, block_ptr, null_ptr}

module _ (R : RattleType) where
  -- from the byte `at` of a block on: the items one behind another, then room for so many more
  abbrev pub laid : ℕ → ℕ → List R.Denot → ℕ → Fml
  laid block at [] left = froom (raw (ty_array (lone R.mir) left)) block at
  laid block at (x ∷ xs) left = fsep (part_at R full_share x block at) (laid block (at + type_size R) xs left)

  -- so many places take fewer than 2 ^ 63 bytes
  abbrev pub fit : ℕ → Fml
  fit places = flt (places * type_size R) (2 ^ 63)

  abbrev pub memory_owns : Ptr → List R.Denot → ℕ → Fml
  memory_owns (block_ptr block at) xs left = fsep (fit (length xs + left)) (laid block at xs left)
  memory_owns null_ptr xs left = ffalse

  -- a `&` reaches each item, and none of the room
  abbrev pub memory_lends : Ptr → List R.Denot → ℕ → Lft → Fml
  memory_lends (block_ptr block at) xs left = beside (said (fit (length xs + left))) (elements_shared R xs block at)
  memory_lends null_ptr xs left = said ffalse

  -- an allocator's token for a block of so many places
  abbrev pub claim_owns : (Ty → Ptr → Fml) → Ptr → ℕ → Fml
  claim_owns token start places = token (raw (ty_array (lone R.mir) places)) start
