-- The floor of a window.
use Rattle.std.specs.Prelude.{ℕ, ◌*◌, ℤ, pos, ◌-ℤ◌, ◌*ℤ◌, min, List, get_or}
use Rattle.std.specs.Int.{div_ceil}
use Rattle.adpcm_nums.specs.Nums.{square_of}
use Rattle.window_floor.specs.Row.{Row}
use Rattle.window_floor.specs.Miss.{rho_of, least_miss}

-- how far an output is from a target, squared
abbrev pub output_cost : Row → ℤ → ℤ → ℕ
output_cost w y target = square_of (w.scale *ℤ y -ℤ target)

-- what a miss costs when three places share it as well as they can
abbrev pub shared_cost : Row → ℕ → ℕ
shared_cost w miss = div_ceil (miss * miss) w.norm

-- the floor that a miss gives, where clamping gives one of two outputs
abbrev pub clamped_floor : Row → ℕ → ℤ → ℤ → ℤ → ℕ
clamped_floor w miss first second x = min (shared_cost w miss) (min (output_cost w first x) (output_cost w second x))

-- the floor of the least miss
unfoldable pub window_floor : Row → List ℤ → ℤ → ℤ → ℤ → ℤ → ℤ → ℕ
window_floor w samples first second r o x = clamped_floor w (least_miss w (rho_of w r o x) samples) first second x

-- the same for lists of the outputs of clamping, and of the targets r, o and x
abbrev pub floor_of_window : Row → List ℤ → List ℤ → List ℤ → ℕ
floor_of_window w samples ends targets =
    window_floor w samples (get_or ends 0 (pos 0)) (get_or ends 1 (pos 0)) (get_or targets 0 (pos 0)) (get_or targets 1 (pos 0)) (get_or targets 2 (pos 0))
