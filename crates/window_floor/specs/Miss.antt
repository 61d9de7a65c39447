-- How far the outputs that a filter can give are from the targets of a window.
use Rattle.std.specs.Prelude.{ℕ, ℤ, pos, ◌+ℤ◌, ◌-ℤ◌, ◌*ℤ◌, unsigned_abs, min, if◌then◌else◌, List, get_or}
use Rattle.adpcm_nums.specs.LeastValue.{least_of}
use Rattle.window_floor.specs.Row.{Row}

-- what the targets make of the filter's equation, where r, o and x are those of three places in order
abbrev pub rho_of : Row → ℤ → ℤ → ℤ → ℤ
rho_of w r o x = w.d *ℤ x -ℤ w.ca *ℤ o -ℤ w.cb *ℤ r

-- how far from it a sample a and a rounding e lead
unfoldable pub miss_of : Row → ℤ → ℤ → ℕ → ℕ
miss_of w rho a e = unsigned_abs (rho -ℤ w.scale *ℤ (w.d *ℤ a +ℤ w.bias -ℤ pos e))

-- at least, over the roundings
unfoldable pub rounded_miss : Row → ℤ → ℤ → ℕ
rounded_miss w rho a = least_of (miss_of w rho a) w.errs

-- and over the wraps: an output that wraps is that of a sample 32768 higher or lower
unfoldable pub wrapped_miss : Row → ℤ → ℤ → ℕ
wrapped_miss w rho a =
    if w.wraps then min (rounded_miss w rho (a -ℤ pos 32768)) (min (rounded_miss w rho a) (rounded_miss w rho (a +ℤ pos 32768))) else rounded_miss w rho a

-- and over sixteen samples
unfoldable pub least_miss : Row → ℤ → List ℤ → ℕ
least_miss w rho samples = least_of (λ i. wrapped_miss w rho (get_or samples i (pos 0))) 15
