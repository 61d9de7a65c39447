-- The same reading without its content: the place after what was read, or the first fault.
use Rattle.std.specs.Prelude.{ℕ, zero, suc, ◌+◌, nat_lt, if◌then◌else◌, List, [], ◌∷◌, length, Option, Some, None, Result, Ok, Err}
use Rattle.machine_core.specs.declared.boxes.Cell.{Cell}
use Rattle.box_layers.specs.declared.key.Key.{Key}
use Rattle.machine_core.specs.declared.state.Kind.{Kind}
use Rattle.bound_cert.specs.declared.shape.Limits.{Limits}
use Rattle.bound_cert.specs.declared.fault.CertFault.{CertFault}
use Rattle.bound_cert.specs.declared.fault.CertFault.TheVariants.{Trailing}
use Rattle.bound_cert.specs.Places.{u32_at, count_at}
use Rattle.bound_cert.specs.Grammar.{◌>>=◌, cell_of, head_of, front_of, file_of, limits_of}

unfoldable pub cells_scan : Limits → List ℕ → ℕ → ℕ → Option Cell → Result ℕ CertFault
cells_scan limits bytes at zero last = Ok at
cells_scan limits bytes at (suc n) last = do
  cell ← cell_of limits bytes at last
  cells_scan limits bytes (at + 12) n (Some cell)

unfoldable pub layer_scan : Limits → List ℕ → ℕ → Option Key → Result (Key × ℕ) CertFault
layer_scan limits bytes at last = do
  key ← head_of limits bytes at last
  end ← cells_scan limits bytes (at + 10) (count_at bytes at) None
  Ok (key, end)

unfoldable pub layers_scan : Limits → List ℕ → ℕ → ℕ → Option Key → Result ℕ CertFault
layers_scan limits bytes at zero last = Ok at
layers_scan limits bytes at (suc n) last = do
  layer ← layer_scan limits bytes at last
  layers_scan limits bytes layer.1 n (Some layer.0)

unfoldable pub segment_scan : Kind → ℕ → ℕ → List ℕ → ℕ → Result ℕ CertFault
segment_scan kind samples blocks bytes at = do
  level ← front_of blocks bytes at
  layers_scan (limits_of kind samples blocks level) bytes (at + 16) (u32_at bytes (at + 12)) None

unfoldable pub segments_scan : Kind → ℕ → List ℕ → List ℕ → ℕ → Result ℕ CertFault
segments_scan kind samples [] bytes at = if nat_lt at (length bytes) then Err (Trailing at) else Ok at
segments_scan kind samples (blocks ∷ later) bytes at = do
  end ← segment_scan kind samples blocks bytes at
  segments_scan kind samples later bytes end

unfoldable pub read_scan : Kind → ℕ → List ℕ → List ℕ → Result ℕ CertFault
read_scan kind samples blocks bytes = do
  count ← file_of kind (length blocks) bytes
  segments_scan kind samples blocks bytes 8
