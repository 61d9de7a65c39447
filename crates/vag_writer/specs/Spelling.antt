-- The bytes of a VAG file (PSX-SPX, VAG files; what is not known is written as 0, this project's own choice).
use Rattle.std.specs.Prelude.{ℕ, ◌-◌, nat_lt, if◌then◌else◌, List, [], ◌∷◌, ◌++◌, length, replicate, flat_map, codes, Result, Ok, Err}
use Rattle.byteorder.specs.Endian.{big_bytes}
use Rattle.vag_writer.specs.declared.fault.VagFault.{VagFault}
use Rattle.vag_writer.specs.declared.fault.VagFault.TheVariants.{NameLong}

-- a name with zeros behind it, sixteen bytes in all
unfoldable pub filled : List ℕ → List ℕ
filled name = name ++ replicate (16 - length name) 0

-- seven numbers of four bytes each: version 32, one of no use, the size of the blocks, the rate, three of no use
unfoldable pub number_bytes : ℕ → ℕ → List ℕ
number_bytes rate size = flat_map (big_bytes 4) (32 ∷ 0 ∷ size ∷ rate ∷ 0 ∷ 0 ∷ 0 ∷ [])

-- the 48 bytes in front: the mark, the numbers, the name
unfoldable pub vag_header : List ℕ → ℕ → ℕ → List ℕ
vag_header name rate size = codes "VAGp" ++ (number_bytes rate size ++ filled name)

-- the file of these blocks
unfoldable pub vag_file : List ℕ → ℕ → List ℕ → List ℕ
vag_file name rate blocks = vag_header name rate (length blocks) ++ blocks

-- the file, or why there is none
unfoldable pub written_vag : List ℕ → ℕ → List ℕ → Result (List ℕ) VagFault
written_vag name rate blocks = if nat_lt 16 (length name) then Err (NameLong (length name)) else Ok (vag_file name rate blocks)
