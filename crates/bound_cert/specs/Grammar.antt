-- What a certificate says, or the first fault.
use Rattle.std.specs.Prelude.{ℕ, zero, suc, ◌+◌, not, nat_lt, ◌==◌, ◌&&◌, ◌||◌, if◌then◌else◌, List, [], ◌∷◌, length, take, slice_index, Option, Some, None, Result, Ok, Err, codes}
use Rattle.std.specs.Str.{bytes_eq}
use Rattle.machine_core.specs.declared.boxes.Cell.{Cell}
use Rattle.box_layers.specs.declared.cell_value.CellValue.{CellValue}
use Rattle.box_layers.specs.declared.key.Key.{Key}
use Rattle.machine_core.specs.declared.state.Kind.{Kind}
use Rattle.bound_cert.specs.declared.shape.Limits.{Limits}
use Rattle.bound_cert.specs.declared.fault.CertFault.{CertFault}
use Rattle.bound_cert.specs.declared.fault.CertFault.TheVariants.{BadMagic, BadVersion, ShapeDiffers, BadLevel, BadZero, LayerRange, LayerOrder, CellRange, CellOrder, Short, Trailing}
use Rattle.bound_cert.specs.Content.{Layer, Segment}
use Rattle.bound_cert.specs.Places.{u16_at, u32_at, u64_at, cell_at, key_at, count_at, layer_end, segment_end}
use Rattle.bound_cert.specs.Ranges.{kind_number, is_level_byte, cell_fits, key_fits, cell_follows, key_follows}

infixl 10 ◌>>=◌
abbrev pub ◌>>=◌ : {A B : Type 0} → Result A CertFault → (A → Result B CertFault) → Result B CertFault
(Ok x) >>= f = f x
(Err e) >>= f = Err e

-- a cell, below 2^60 and after the last
unfoldable pub cell_of : Limits → List ℕ → ℕ → Option Cell → Result Cell CertFault
cell_of limits bytes at last =
    if nat_lt (length bytes) (at + 2) then Err (Short at)
    else (if nat_lt (length bytes) (at + 4) then Err (Short (at + 2))
    else (if nat_lt (length bytes) (at + 12) then Err (Short (at + 4))
    else (if not (cell_fits limits.kind limits.level (cell_at bytes at) && nat_lt (u64_at bytes (at + 4)) 1152921504606846976) then Err (CellRange at)
    else (if not (cell_follows last (cell_at bytes at)) then Err (CellOrder at)
    else Ok (cell_at bytes at)))))

unfoldable pub cells_of : Limits → List ℕ → ℕ → ℕ → Option Cell → Result (List CellValue) CertFault
cells_of limits bytes at zero last = Ok []
cells_of limits bytes at (suc n) last = do
  cell ← cell_of limits bytes at last
  more ← cells_of limits bytes (at + 12) n (Some cell)
  Ok (record { cell = cell; value = u64_at bytes (at + 4) } ∷ more)

-- a layer's ten bytes: its key, in range, with some cells, and after the last
unfoldable pub head_of : Limits → List ℕ → ℕ → Option Key → Result Key CertFault
head_of limits bytes at last =
    if nat_lt (length bytes) (at + 2) then Err (Short at)
    else (if nat_lt (length bytes) (at + 4) then Err (Short (at + 2))
    else (if nat_lt (length bytes) (at + 6) then Err (Short (at + 4))
    else (if nat_lt (length bytes) (at + 10) then Err (Short (at + 6))
    else (if not (key_fits limits (key_at bytes at)) || (count_at bytes at == 0) then Err (LayerRange at)
    else (if not (key_follows last (key_at bytes at)) then Err (LayerOrder at)
    else Ok (key_at bytes at))))))

unfoldable pub layers_of : Limits → List ℕ → ℕ → ℕ → Option Key → Result (List Layer) CertFault
layers_of limits bytes at zero last = Ok []
layers_of limits bytes at (suc n) last = do
  key ← head_of limits bytes at last
  cells ← cells_of limits bytes (at + 10) (count_at bytes at) None
  more ← layers_of limits bytes (layer_end bytes at) n (Some key)
  Ok (record { key = key; cells = cells } ∷ more)

-- a segment's sixteen bytes: the level
unfoldable pub front_of : ℕ → List ℕ → ℕ → Result ℕ CertFault
front_of blocks bytes at =
    if nat_lt (length bytes) (at + 2) then Err (Short at)
    else (if not (u16_at bytes at == blocks) then Err (ShapeDiffers (u16_at bytes at) blocks)
    else (if nat_lt (length bytes) (at + 3) then Err (Short (at + 2))
    else (if not (is_level_byte (slice_index bytes (at + 2))) then Err (BadLevel (slice_index bytes (at + 2)))
    else (if nat_lt (length bytes) (at + 4) then Err (Short (at + 3))
    else (if not (slice_index bytes (at + 3) == 0) then Err (BadZero (at + 3))
    else (if nat_lt (length bytes) (at + 12) then Err (Short (at + 4))
    else (if nat_lt (length bytes) (at + 16) then Err (Short (at + 12))
    else (if (slice_index bytes (at + 2) == 255) && not (u32_at bytes (at + 12) == 0) then Err (LayerRange (at + 12))
    else Ok (slice_index bytes (at + 2))))))))))

abbrev pub limits_of : Kind → ℕ → ℕ → ℕ → Limits
limits_of kind samples blocks level = record { kind = kind; samples = samples; blocks = blocks; level = level }

unfoldable pub segment_of : Kind → ℕ → ℕ → List ℕ → ℕ → Result Segment CertFault
segment_of kind samples blocks bytes at = do
  level ← front_of blocks bytes at
  layers ← layers_of (limits_of kind samples blocks level) bytes (at + 16) (u32_at bytes (at + 12)) None
  Ok (record { at = at + 16; blocks = blocks; level = level; bound = u64_at bytes (at + 4); layers = layers })

-- a segment for each number of blocks, and nothing after the last
unfoldable pub segments_of : Kind → ℕ → List ℕ → List ℕ → ℕ → Result (List Segment) CertFault
segments_of kind samples [] bytes at = if nat_lt at (length bytes) then Err (Trailing at) else Ok []
segments_of kind samples (blocks ∷ later) bytes at = do
  segment ← segment_of kind samples blocks bytes at
  more ← segments_of kind samples later bytes (segment_end bytes at)
  Ok (segment ∷ more)

-- the first eight bytes: how many segments
unfoldable pub file_of : Kind → ℕ → List ℕ → Result ℕ CertFault
file_of kind count bytes =
    if nat_lt (length bytes) 4 || not (bytes_eq (take 4 bytes) (codes "ADBC")) then Err BadMagic
    else (if nat_lt (length bytes) 5 then Err (Short 4)
    else (if not (slice_index bytes 4 == 1) then Err (BadVersion (slice_index bytes 4))
    else (if nat_lt (length bytes) 6 then Err (Short 5)
    else (if not (slice_index bytes 5 == kind_number kind) then Err (ShapeDiffers (slice_index bytes 5) (kind_number kind))
    else (if nat_lt (length bytes) 8 then Err (Short 6)
    else (if not (u16_at bytes 6 == count) then Err (ShapeDiffers (u16_at bytes 6) count)
    else Ok count))))))

-- the whole of a certificate
unfoldable pub read_of : Kind → ℕ → List ℕ → List ℕ → Result (List Segment) CertFault
read_of kind samples blocks bytes = do
  count ← file_of kind (length blocks) bytes
  segments_of kind samples blocks bytes 8
