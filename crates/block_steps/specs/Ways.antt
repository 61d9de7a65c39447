-- The sample after a sample, and the cells that are looked up there.
use Rattle.std.specs.Prelude.{◌≡◌, ℕ, suc, ◌/◌, ◌%◌, ◌<◌, List, length, nat_eq, IsTrue, Option, slice_index_or}
use Rattle.box_layers.specs.Certificates.{lane_at, Certificate}
use Rattle.box_layers.specs.declared.key.Key.{Key}
use Rattle.machine_core.specs.Rules.{Rules}
use Rattle.machine_core.specs.declared.boxes.Cell.{Cell}
use Rattle.machine_core.specs.declared.pieces.Piece.{Piece}
use Rattle.block_steps.specs.declared.spots.Spot.{Spot}
use Rattle.block_steps.specs.declared.ahead.After.{After}
use Rattle.block_steps.specs.Tables.{IsSpot}

pub record IsAfter (m : Rules) (end : ℕ) (at : Spot) (head : ℕ) (x : After) : Type 0 where
  pub index : x.spot.index ≡ suc at.index
  pub spot : IsSpot m x.spot
  pub same_block : 0 < x.spot.place → x.spot.block ≡ at.block
  pub lane : x.lane ≡ lane_at m head (suc at.index)
  pub ended : x.ended ≡ nat_eq (suc at.index) end

-- where the layer before sample i stands in a lane
abbrev pub key_for : Rules → ℕ → ℕ → Key
key_for m i lane = record { block = i / m.decoder.samples; place = i % m.decoder.samples; lane = lane }

-- and where that before a sample after one stands
abbrev pub key_of : After → Key
key_of x = record { block = x.spot.block; place = x.spot.place; lane = x.lane }

-- a certificate that lists these cells at every sample and lane
abbrev pub lane_certificate : ℕ → ℕ → (Cell → Option ℕ) → Certificate
lane_certificate level blocks listed = record { level = level; blocks = blocks; listed = λ i lane. listed }

-- a certificate of what layers list
abbrev pub layers_certificate : Rules → ℕ → ℕ → (Key → Cell → Option ℕ) → Certificate
layers_certificate m level blocks listed = record { level = level; blocks = blocks; listed = λ i lane. listed (key_for m i lane) }

-- each piece is a box at a place
abbrev pub AllBoxes : Rules → ℕ → List Piece → Type 0
AllBoxes m place pieces = (k : ℕ) → k < length pieces → (q : Piece) → slice_index_or pieces k q ≡ q → IsTrue (m.is_box place q.bx)
