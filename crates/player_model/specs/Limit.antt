-- What is too much to be played (this project's own choice).
use Rattle.std.specs.Prelude.{ℕ, ◌*◌, ◌||◌, nat_lt, Bool}

-- more than 4,096 blocks, or more than 262,144 samples in them
abbrev pub is_much : ℕ → ℕ → Bool
is_much blocks samples = nat_lt 4096 blocks || nat_lt 262144 (blocks * samples)
