-- Where the samples of an image lie in the console's memory of 65,536 bytes.
use Rattle.std.specs.Prelude.{ℕ, ◌+◌, ◌*◌, ◌%◌, ◌==◌, ◌&&◌, nat_le, nat_lt, not, if◌then◌else◌, Bool, List, length, take, map, sum, Result, Ok, Err}
use Rattle.std.specs.List.{range_with_len}
use Rattle.adpcm_nums.specs.Outcome.{◌>>=◌}
use Rattle.snes_directory.specs.declared.fault.LayFault.{LayFault}
use Rattle.snes_directory.specs.declared.fault.LayFault.TheVariants.{BadBase, ImageFull}
use Rattle.snes_directory.specs.declared.layout.Layout.{Layout}

-- a directory begins on a page of 256 bytes (fullsnes, DSP register DIR)
abbrev pub is_base : ℕ → Bool
is_base base = base % 256 == 0 && nat_le base 65280

-- the address behind so many entries of four bytes and blocks of nine
abbrev pub end_address : ℕ → ℕ → ℕ → ℕ
end_address base entries blocks = base + 4 * entries + 9 * blocks

-- whether the memory ends before an address
abbrev pub is_past_end : ℕ → Bool
is_past_end address = nat_lt 65536 address

-- the address behind so many entries and blocks, unless it is too high
unfoldable pub end_of : ℕ → ℕ → ℕ → Result ℕ LayFault
end_of base entries blocks =
    if not (is_base base) then Err (BadBase base)
    else (if is_past_end (end_address base entries blocks) then Err (ImageFull (end_address base entries blocks))
    else Ok (end_address base entries blocks))

-- the address of sample i: behind the directory and the samples before it
abbrev pub start_of : ℕ → List ℕ → ℕ → ℕ
start_of base blocks i = base + 4 * length blocks + 9 * sum (take i blocks)

-- the layout of samples of so many blocks each, or why there is none
unfoldable pub layout_of : ℕ → List ℕ → Result Layout LayFault
layout_of base blocks = do
  total ← end_of base (length blocks) (sum blocks)
  Ok (record { base = base; starts = map (start_of base blocks) (range_with_len 0 (length blocks)); total = total })
