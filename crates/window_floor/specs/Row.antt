-- The numbers of a filter that ties up to three places of a block together, and how many that are.
use Rattle.std.specs.Prelude.{ℕ, ◌+◌, ◌<◌, ◌≡◌, ◌==◌, if◌then◌else◌, ℤ, unsigned_abs, Bool}
use Rattle.adpcm_nums.specs.Nums.{square_of}

-- d * prediction = ca * o + cb * r + bias - e for some e in 0..errs, from the last output o and the one before it, r
pub record Row : Type 0 where
  pub d : ℤ
  pub ca : ℤ
  pub cb : ℤ
  pub bias : ℤ
  pub errs : ℕ
  -- what an output is multiplied by when it is compared with a target
  pub scale : ℤ
  -- the sum of the squares of d, ca and cb
  pub norm : ℕ
  -- whether an output may be 32768 above or below what the filter gives
  pub wraps : Bool

abbrev pub row : ℤ → ℤ → ℤ → ℤ → ℕ → ℤ → ℕ → Bool → Row
row d ca cb bias errs scale norm wraps = record { d = d; ca = ca; cb = cb; bias = bias; errs = errs; scale = scale; norm = norm; wraps = wraps }

-- how many places in a row it ties together
unfoldable pub size_of : Row → ℕ
size_of w = if unsigned_abs w.cb == 0 then (if unsigned_abs w.ca == 0 then 1 else 2) else 3

-- the norm is what its name says
pub record IsNormed (w : Row) : Type 0 where
  pub above : 0 < w.norm
  pub sum : w.norm ≡ square_of w.d + square_of w.ca + square_of w.cb
