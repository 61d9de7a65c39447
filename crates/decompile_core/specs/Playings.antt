-- A loop that a player gives again and again: from which playing on it stays the same.
use Rattle.std.specs.Prelude.{ℕ, ◌+◌, ◌-◌, ◌*◌, ℤ, pos, ◌*ℤ◌, Bool, not, List, map, Option, Some, None, is_none}
use Rattle.std.specs.List.{range_with_len}
use Rattle.std.specs.Ordering.{int_eq}
use Rattle.adpcm_nums.specs.First.{first_where}
use Rattle.adpcm_nums.specs.declared.loop_at.LoopAt.{LoopAt}

-- the first so many outputs, each times a scale
abbrev pub samples_of : ℕ → (ℕ → ℤ) → ℕ → List ℤ
samples_of scale output n = map (λ i. pos scale *ℤ output i) (range_with_len 0 n)

-- whether output k of a playing that begins at a place is another than that of the next playing
abbrev pub differs : (ℕ → ℤ) → ℕ → ℕ → ℕ → Bool
differs output at len k = not (int_eq (output (at + k)) (output (at + len + k)))

-- whether no output is: the playing is given again right behind it
unfoldable pub is_again : (ℕ → ℤ) → ℕ → ℕ → Bool
is_again output at len = is_none (first_where (differs output at len) len)

-- the samples of a loop
abbrev pub length_of : LoopAt → ℕ
length_of points = points.end - points.start + 1

-- whether playing m is given again by playing m + 1; playing 0 is the one in the first pass
abbrev pub settles_at : (ℕ → ℤ) → LoopAt → ℕ → Bool
settles_at output points m = is_again output (points.start + m * length_of points) (length_of points)

-- the first of the playings 0 to 63 that is
unfoldable pub settled : (ℕ → ℤ) → LoopAt → Option ℕ
settled output points = first_where (settles_at output points) 64

-- the samples up to the end of playing m
abbrev pub end_of : LoopAt → ℕ → ℕ
end_of points m = points.end + 1 + m * length_of points

-- the samples up to the end of the playing that is kept; where there is none, the first pass
abbrev pub kept_samples : LoopAt → Option ℕ → ℕ
kept_samples points None = end_of points 0
kept_samples points (Some m) = end_of points m
