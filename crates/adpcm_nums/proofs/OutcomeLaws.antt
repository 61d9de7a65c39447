-- What is known where reading did not stop at a fault.
use Rattle.std.proofs.Common.{◌≡◌, refl, Result, Ok, Err}
use Rattle.adpcm_nums.specs.Outcome.{◌>>=◌}

-- what came of two readings came of the second, after the first had gone well
pub went_on : {A B E : Type 0} (r : Result A E) (f : A → Result B E) (y : B) → (r >>= f) ≡ Ok y → (x : A) × (r ≡ Ok x) × (f x ≡ Ok y)
went_on (Ok x) f y h = (x, refl, h)
went_on (Err e) f y h = absurd (cc)
