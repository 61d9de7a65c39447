-- What a certificate of a bound is, and when one is accepted.
use Rattle.std.specs.Prelude.{◌≡◌, ℕ, suc, ◌+◌, ◌*◌, ◌%◌, ◌<◌, ◌≤◌, ℤ, pos, ◌==◌, if◌then◌else◌, List, [], ◌∷◌, get_or, min, max, Option, Some}
use Rattle.adpcm_nums.specs.LeastValue.{least}
use Rattle.machine_core.specs.declared.boxes.Bx.{Bx}
use Rattle.machine_core.specs.declared.boxes.Cell.{Cell}
use Rattle.machine_core.specs.declared.pieces.Piece.{Piece}
use Rattle.machine_core.specs.Blocks.{first_only}
use Rattle.machine_core.specs.Cells.{cell_of, cell_box}
use Rattle.machine_core.specs.Decoder.{start}
use Rattle.machine_core.specs.Floors.{top, may_take, rest, floor_of_blocks}
use Rattle.machine_core.specs.Rules.{Rules, grid}
use Rattle.box_layers.specs.Looking.{or_else, look_over}

-- claims on a segment of so many blocks: a listed value says that from every state of the cell, before the sample and in the lane,
-- the rest of the segment costs at least so much
pub record Certificate : Type 0 where
  pub level : ℕ
  pub blocks : ℕ
  -- sample, lane, cell
  pub listed : ℕ → ℕ → Cell → Option ℕ

-- the lane before sample i of a block with this head; at a block's first sample its head is not chosen yet
abbrev pub lane_at : Rules → ℕ → ℕ → ℕ
lane_at r head i = if i % r.decoder.samples == 0 then 65535 else r.lane head (i % r.decoder.samples)

-- the least that the cells which a box meets are worth, where one that is not listed is worth the floor under what is left
abbrev pub look : Rules → List ℤ → Certificate → ℕ → ℕ → Bx → ℕ
look r targets c i lane bx = look_over r c.level (c.listed i lane) (rest r first_only targets c.blocks i lane bx) bx

-- the same, and 0 at the end of the segment
abbrev pub look_ahead : Rules → List ℤ → Certificate → ℕ → ℕ → Bx → ℕ
look_ahead r targets c i lane bx = if i == c.blocks * r.decoder.samples then 0 else look r targets c i lane bx

abbrev pub least_piece : List Piece → (Piece → ℕ) → ℕ → ℕ
least_piece [] f above = above
least_piece (q ∷ qs) f above = least_piece qs f (min above (f q))

-- a piece's cost, and the look that follows it under a head
abbrev pub way : Rules → List ℤ → Certificate → ℕ → ℕ → Piece → ℕ
way r targets c i head q = q.cost + look_ahead r targets c (suc i) (lane_at r head (suc i)) q.bx

-- the least way on from a cell before sample i, under a head by a symbol
abbrev pub by_symbol : Rules → List ℤ → Certificate → ℕ → Cell → ℕ → ℕ → ℕ
by_symbol r targets c i cell head symbol =
    least_piece (r.image head (i % r.decoder.samples) symbol (cell_box (grid r) c.level cell) (get_or targets i (pos 0))) (way r targets c i head) top

-- by any symbol
abbrev pub by_head : Rules → List ℤ → Certificate → ℕ → Cell → ℕ → ℕ
by_head r targets c i cell head = least (r.decoder.symbols (i % r.decoder.samples)) (by_symbol r targets c i cell head) top

-- where the head may be taken
abbrev pub head_found : Rules → List ℤ → Certificate → ℕ → ℕ → Cell → ℕ → ℕ
head_found r targets c i lane cell head = if may_take r first_only i lane head then by_head r targets c i cell head else top

-- under any head
abbrev pub found : Rules → List ℤ → Certificate → ℕ → ℕ → Cell → ℕ
found r targets c i lane cell = least r.decoder.heads (head_found r targets c i lane cell) top

-- no listed value is above what is found
abbrev pub IsAccepted : Rules → List ℤ → Certificate → Type 0
IsAccepted r targets c =
    (i lane : ℕ) (cell : Cell) (v : ℕ) → c.listed i lane cell ≡ Some v → (i < c.blocks * r.decoder.samples) × (v ≤ found r targets c i lane cell)

-- the bound that it shows: the floor under the segment, or what the first state's cell is worth
abbrev pub value : Rules → List ℤ → Certificate → ℕ
value r targets c = max (floor_of_blocks r first_only targets c.blocks) (or_else (c.listed 0 65535 (cell_of (grid r) c.level start)) 0)
