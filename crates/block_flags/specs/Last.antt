-- The last number below a bound that passes a test.
use Rattle.std.specs.Prelude.{ℕ, zero, suc, if◌then◌else◌, Bool, Option, Some, None}

-- the last number below `count` that passes, where one does
unfoldable pub last_where : (ℕ → Bool) → ℕ → Option ℕ
last_where test zero = None
last_where test (suc n) = if test n then Some n else last_where test n
