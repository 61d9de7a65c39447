-- The first loop of a sampler, or the first fault (RIFF WAVE, sampler chunk).
use Rattle.std.specs.Prelude.{ℕ, List, length, drop, Option, Some, None, Result, Ok, Err, nat_lt, ◌==◌, not, if◌then◌else◌}
use Rattle.byteorder.specs.Endian.{little_number}
use Rattle.adpcm_nums.specs.declared.loop_at.LoopAt.{LoopAt}
use Rattle.smpl_loops.specs.declared.fault.LoopFault.{LoopFault}
use Rattle.smpl_loops.specs.declared.fault.LoopFault.TheVariants.{SmplShort, LoopKind, LoopBackwards, LoopOutside}

-- the 32-bit field of a body at a place
abbrev pub field_at : List ℕ → ℕ → ℕ
field_at body place = little_number 4 (drop place body)

-- the eighth of nine fields counts the loops
abbrev pub loop_count : List ℕ → ℕ
loop_count body = field_at body 28

-- then come the loops, of six fields each: id, type, start, end, fraction, play count
abbrev pub loop_kind : List ℕ → ℕ
loop_kind body = field_at body 40

-- the first frame of the first loop
abbrev pub loop_start : List ℕ → ℕ
loop_start body = field_at body 44

-- its last frame, which is played
abbrev pub loop_end : List ℕ → ℕ
loop_end body = field_at body 48

-- the first loop of a body, or its first fault
unfoldable pub loop_in : List ℕ → ℕ → Result (Option LoopAt) LoopFault
loop_in body frames =
    if nat_lt (length body) 36 then Err (SmplShort (length body))
    else (if loop_count body == 0 then Ok None
    else (if nat_lt (length body) 60 then Err (SmplShort (length body))
    else (if not (loop_kind body == 0) then Err (LoopKind (loop_kind body))
    else (if nat_lt (loop_end body) (loop_start body) then Err (LoopBackwards (loop_start body) (loop_end body))
    else (if not (nat_lt (loop_end body) frames) then Err (LoopOutside (loop_end body) frames)
    else Ok (Some (record { start = loop_start body; end = loop_end body })))))))

-- the first loop of a sound of so many frames, with this sampler or without one
abbrev pub first_loop_of : Option (List ℕ) → ℕ → Result (Option LoopAt) LoopFault
first_loop_of None frames = Ok None
first_loop_of (Some body) frames = loop_in body frames
