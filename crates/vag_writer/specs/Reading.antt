-- What a VAG file says, or its first fault (PSX-SPX, VAG files).
use Rattle.std.specs.Prelude.{ℕ, ◌-◌, ◌==◌, ◌||◌, nat_lt, min, not, if◌then◌else◌, List, length, take, drop, codes, Result, Ok, Err}
use Rattle.std.specs.Str.{bytes_eq}
use Rattle.byteorder.specs.Endian.{big_number}
use Rattle.adpcm_nums.specs.Outcome.{◌>>=◌}
use Rattle.vag_writer.specs.declared.fault.VagFault.{VagFault}
use Rattle.vag_writer.specs.declared.fault.VagFault.TheVariants.{NotVag, VagShort, BadRate}
use Rattle.vag_writer.specs.declared.vag.Vag.{Vag}

-- the number of four bytes at a place
abbrev pub number_at : List ℕ → ℕ → ℕ
number_at bytes place = big_number 4 (drop place bytes)

-- the rate, behind the mark and in a whole header
unfoldable pub rate_in : List ℕ → Result ℕ VagFault
rate_in bytes =
    if nat_lt (length bytes) 4 || not (bytes_eq (take 4 bytes) (codes "VAGp")) then Err NotVag
    else (if nat_lt (length bytes) 48 then Err (VagShort (length bytes))
    else (if number_at bytes 16 == 0 || nat_lt 1000000 (number_at bytes 16) then Err (BadRate (number_at bytes 16))
    else Ok (number_at bytes 16)))

-- the name, with the zeros behind it
abbrev pub name_in : List ℕ → List ℕ
name_in bytes = take 16 (drop 32 bytes)

-- the blocks: as many bytes as the size field says, or all that stand behind the header
abbrev pub blocks_in : List ℕ → List ℕ
blocks_in bytes = take (min (number_at bytes 12) (length bytes - 48)) (drop 48 bytes)

-- what a file says, or its first fault
unfoldable pub vag_of : List ℕ → Result Vag VagFault
vag_of bytes = do
  rate ← rate_in bytes
  Ok (record { rate = rate; name = name_in bytes; blocks = blocks_in bytes })
