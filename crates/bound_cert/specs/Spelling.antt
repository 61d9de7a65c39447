-- The bytes of a certificate.
use Rattle.std.specs.Prelude.{◌≡◌, ℕ, ◌+◌, ◌^◌, ◌<◌, true, List, [], ◌∷◌, ◌++◌, length, codes}
use Rattle.std.specs.Bool.{⊤}
use Rattle.std.specs.Int.{w16, cast_unsigned}
use Rattle.std.specs.List.{flat_map}
use Rattle.byteorder.specs.Endian.{little_bytes}
use Rattle.box_layers.specs.declared.cell_value.CellValue.{CellValue}
use Rattle.box_layers.specs.declared.key.Key.{Key}
use Rattle.machine_core.specs.declared.state.Kind.{Kind}
use Rattle.bound_cert.specs.Content.{Layer, Plain, Segment, AreSorted}
use Rattle.bound_cert.specs.Ranges.{kind_number, is_level_byte}
use Rattle.bound_cert.specs.Grammar.{limits_of}
use Rattle.bound_cert.specs.Good.{LayersFit}

unfoldable pub cell_bytes : CellValue → List ℕ
cell_bytes x = little_bytes 2 (cast_unsigned w16 x.cell.a) ++ (little_bytes 2 (cast_unsigned w16 x.cell.b) ++ little_bytes 8 x.value)

unfoldable pub key_bytes : Key → List ℕ
key_bytes k = little_bytes 2 k.block ++ (little_bytes 2 k.place ++ little_bytes 2 k.lane)

unfoldable pub layer_bytes : Layer → List ℕ
layer_bytes x = key_bytes x.key ++ (little_bytes 4 (length x.cells) ++ flat_map cell_bytes x.cells)

-- the sixteen bytes before a segment's layers
unfoldable pub front_bytes : ℕ → ℕ → ℕ → ℕ → List ℕ
front_bytes blocks level bound count = little_bytes 2 blocks ++ ((level ∷ 0 ∷ []) ++ (little_bytes 8 bound ++ little_bytes 4 count))

unfoldable pub segment_bytes : Plain → List ℕ
segment_bytes s = front_bytes s.blocks s.level s.bound (length s.layers) ++ flat_map layer_bytes s.layers

unfoldable pub cert_bytes : Kind → List Plain → List ℕ
cert_bytes kind segments = codes "ADBC" ++ ((1 ∷ kind_number kind ∷ []) ++ (little_bytes 2 (length segments) ++ flat_map segment_bytes segments))

-- a segment that can stand in a certificate
pub record IsWritable (kind : Kind) (samples : ℕ) (s : Plain) : Type 0 where
  pub blocks : s.blocks < 65536
  pub level : is_level_byte s.level ≡ true
  pub bound : s.bound < 2 ^ 64
  pub count : length s.layers < 2 ^ 32
  pub floor_only : s.level ≡ 255 → length s.layers ≡ 0
  pub fit : LayersFit (limits_of kind samples s.blocks s.level) s.layers
  pub sorted : AreSorted s.layers

abbrev pub AreWritable : Kind → ℕ → List Plain → Type 0
AreWritable kind samples [] = ⊤
AreWritable kind samples (s ∷ ss) = IsWritable kind samples s × AreWritable kind samples ss

-- the same segments, each with the place of its first layer
abbrev pub placed : ℕ → List Plain → List Segment
placed at [] = []
placed at (s ∷ ss) = record { at = at + 16; blocks = s.blocks; level = s.level; bound = s.bound; layers = s.layers } ∷ placed (at + length (segment_bytes s)) ss

abbrev pub blocks_of : Plain → ℕ
blocks_of s = s.blocks
