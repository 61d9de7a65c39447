-- What stands in front of an image file, or its first fault.
use Rattle.std.specs.Prelude.{ℕ, ◌+◌, ◌*◌, ◌==◌, ◌||◌, nat_lt, not, if◌then◌else◌, List, length, take, drop, codes, Result, Ok, Err}
use Rattle.std.specs.Str.{bytes_eq}
use Rattle.byteorder.specs.Endian.{little_number}
use Rattle.snes_directory.specs.declared.fault.ImageFault.{ImageFault}
use Rattle.snes_directory.specs.declared.fault.ImageFault.TheVariants.{NotImage, BadVersion, BadEntries, BadBase, ImageFull, ImageLength}
use Rattle.snes_directory.specs.declared.header.Header.{Header}
use Rattle.snes_directory.specs.Layout.{is_base, is_past_end}

-- the numbers of two and four bytes at a place
abbrev pub number2_at : List ℕ → ℕ → ℕ
number2_at bytes place = little_number 2 (drop place bytes)

abbrev pub number4_at : List ℕ → ℕ → ℕ
number4_at bytes place = little_number 4 (drop place bytes)

-- the first byte of the memory, behind the header and the rates
abbrev pub memory_place : ℕ → ℕ
memory_place entries = 16 + 4 * entries

-- the file has exactly the memory that it tells of, and that does not pass the console's end
unfoldable pub sized_header : List ℕ → ℕ → ℕ → ℕ → Result Header ImageFault
sized_header bytes entries base len =
    if is_past_end (base + len) then Err (ImageFull (base + len))
    else (if not (length bytes == memory_place entries + len) then Err (ImageLength (length bytes) (memory_place entries + len))
    else Ok (record { entries = entries; base = base }))

-- the header that its numbers say, or the first of them that is refused
unfoldable pub numbered_header : List ℕ → Result Header ImageFault
numbered_header bytes =
    if not (number2_at bytes 4 == 1) then Err (BadVersion (number2_at bytes 4))
    else (if number2_at bytes 6 == 0 || nat_lt 64 (number2_at bytes 6) then Err (BadEntries (number2_at bytes 6))
    else (if not (is_base (number4_at bytes 8)) then Err (BadBase (number4_at bytes 8))
    else sized_header bytes (number2_at bytes 6) (number4_at bytes 8) (number4_at bytes 12)))

-- the header of a file, or its first fault
unfoldable pub header_of : List ℕ → Result Header ImageFault
header_of bytes =
    if nat_lt (length bytes) 16 || not (bytes_eq (take 4 bytes) (codes "SNBI")) then Err NotImage
    else numbered_header bytes
