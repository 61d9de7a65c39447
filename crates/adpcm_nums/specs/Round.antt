-- A sound that goes round its loop for ever.
use Rattle.std.specs.Prelude.{ℕ, ◌+◌, ◌-◌, ◌%◌, nat_le, if◌then◌else◌, ℤ, pos, List, get_or, Option, Some, None}
use Rattle.adpcm_nums.specs.declared.loop_at.LoopAt.{LoopAt}

-- the frame that stands at place i of a sound with this loop, whose end is played
abbrev pub round_place : LoopAt → ℕ → ℕ
round_place at i = if nat_le i at.end then i else at.start + (i - at.start) % (at.end - at.start + 1)

-- frame i of the sound: the list and then its loop for ever, or zeros where there is no loop
abbrev pub round_of : List ℤ → Option LoopAt → ℕ → ℤ
round_of sound None i = get_or sound i (pos 0)
round_of sound (Some at) i = get_or sound (round_place at i) (pos 0)
