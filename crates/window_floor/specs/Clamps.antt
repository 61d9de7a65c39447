-- What a decoder may give, with the filter's own result where that is clamped to 16 bits.
use Rattle.std.specs.Prelude.{◌≡◌, ℕ, ◌<◌, ◌≤◌, ℤ, pos, negsuc, ◌+ℤ◌, ◌-ℤ◌, ◌*ℤ◌, ◌≤ℤ◌, List, get_or}
use Rattle.window_floor.specs.Outcome.{IsWrap}
use Rattle.window_floor.specs.Row.{Row}
use Rattle.window_floor.specs.Windows.{Windows}

-- raw is what the filter gives after the outputs r and o, on top of a code's sample and less a rounding
pub record IsResult (w : Row) (samples : List ℤ) (r o raw : ℤ) : Type 0 where
  pub code : ℕ
  pub rounding : ℕ
  pub within : code < 16
  pub rounds : rounding ≤ w.errs
  pub is : (w.d *ℤ raw) ≡ (w.d *ℤ get_or samples code (pos 0) +ℤ w.ca *ℤ o +ℤ w.cb *ℤ r +ℤ w.bias -ℤ pos rounding)

-- y may come after the outputs r and o: a result above 16 bits leaves the first output of clamping, one below them the second,
-- and any other result may wrap
pub data MayCome (b : Windows) (r o y : ℤ) : Type 0 where
  over : (raw : ℤ) → IsResult b.row b.samples r o raw → pos 32768 ≤ℤ raw → y ≡ b.first → MayCome b r o y
  under : (raw : ℤ) → IsResult b.row b.samples r o raw → raw ≤ℤ negsuc 32768 → y ≡ b.second → MayCome b r o y
  inside : (raw k : ℤ) → IsResult b.row b.samples r o raw → IsWrap b.row.wraps k → y ≡ raw -ℤ pos 32768 *ℤ k → MayCome b r o y
