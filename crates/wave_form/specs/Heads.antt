-- The heads of a file's chunks (RIFF): four bytes of id, four of size, then the body, and a pad byte after an odd size.
use Rattle.std.specs.Prelude.{ℕ, zero, suc, ◌+◌, ◌%◌, List, [], ◌∷◌, length, take, drop, nat_lt, if◌then◌else◌}
use Rattle.byteorder.specs.Endian.{little_number}

-- what stands before a chunk's body
pub record Head : Type 0 where
  pub id : List ℕ
  -- the place of the id in the file
  pub at : ℕ
  -- the size of the body
  pub size : ℕ

-- the head that stands at a place
abbrev pub head_at : List ℕ → ℕ → Head
head_at file at = record { id = take 4 (drop at file); at = at; size = little_number 4 (drop 4 (drop at file)) }

-- where the next head stands
abbrev pub place_after : Head → ℕ
place_after head = head.at + 8 + head.size + head.size % 2

-- the heads from a place on, at most so many; a rest of fewer than eight bytes has none
unfoldable pub heads_from : ℕ → List ℕ → ℕ → List Head
heads_from zero file at = []
heads_from (suc most) file at =
    if nat_lt (length file) (at + 8) then []
    else head_at file at ∷ heads_from most file (place_after (head_at file at))

-- the heads of a file, which are fewer than its bytes, from behind `RIFF`, the file's size and `WAVE` on
abbrev pub heads_of : List ℕ → List Head
heads_of file = heads_from (length file) file 12
