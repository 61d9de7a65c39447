-- What a decoder may give at the last place of a window.
use Rattle.std.specs.Prelude.{◌≡◌, ℕ, ◌<◌, ◌≤◌, ℤ, pos, negsuc, ◌+ℤ◌, ◌-ℤ◌, ◌*ℤ◌, Bool, true, List, get_or}
use Rattle.window_floor.specs.Row.{Row}

-- the wraps: none, or also one up and one down
pub data IsWrap : Bool → ℤ → Type 0 where
  none : (wraps : Bool) → IsWrap wraps (pos 0)
  up : IsWrap true (pos 1)
  down : IsWrap true (negsuc 0)

-- y may follow the outputs r and o: it is one of the two outputs of clamping, or what the filter gives, less a wrap
pub data IsOutcome (w : Row) (samples : List ℤ) (first second r o y : ℤ) : Type 0 where
  clamped_first : y ≡ first → IsOutcome w samples first second r o y
  clamped_second : y ≡ second → IsOutcome w samples first second r o y
  filtered : (i e : ℕ) (k raw : ℤ) → i < 16 → e ≤ w.errs → IsWrap w.wraps k
      → (w.d *ℤ raw) ≡ (w.d *ℤ get_or samples i (pos 0) +ℤ w.ca *ℤ o +ℤ w.cb *ℤ r +ℤ w.bias -ℤ pos e)
      → y ≡ raw -ℤ pos 32768 *ℤ k
      → IsOutcome w samples first second r o y
