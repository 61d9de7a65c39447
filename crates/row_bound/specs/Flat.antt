-- Layers whose rows do not ask for an error before them.
use Rattle.std.specs.Prelude.{◌≡◌, ℕ, ◌<◌, pos}
use Rattle.row_bound.specs.declared.layer.Layer.{Layer}

-- not for the one two places before
pub record IsOlderFree (layer : Layer) : Type 0 where
  pub base : layer.base.b ≡ pos 0
  pub first : layer.first.b ≡ pos 0
  pub second : layer.second.b ≡ pos 0

-- not for the last one
pub record IsLastFree (layer : Layer) : Type 0 where
  pub base : layer.base.a ≡ pos 0
  pub first : layer.first.a ≡ pos 0
  pub second : layer.second.a ≡ pos 0

-- here and at the layer after it no row asks for an error that is more than so many places before the first of the two
pub record IsAlone (here following : Layer) (taps : ℕ) : Type 0 where
  pub older : taps < 2 → IsOlderFree here
  pub last : taps < 1 → IsLastFree here
  pub next : taps < 1 → IsOlderFree following
