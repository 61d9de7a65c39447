-- The bytes of an image file (this project's own format round the console's directory and blocks).
use Rattle.std.specs.Prelude.{ℕ, ◌+◌, ◌*◌, List, [], ◌∷◌, ◌++◌, length, codes, Result, Ok}
use Rattle.std.specs.List.{flat_map, sum_by}
use Rattle.byteorder.specs.Endian.{little_bytes}
use Rattle.adpcm_nums.specs.Outcome.{◌>>=◌}
use Rattle.snes_directory.specs.declared.fault.LayFault.{LayFault}
use Rattle.snes_directory.specs.declared.part.ImagePart.{ImagePart}
use Rattle.snes_directory.specs.Layout.{end_of}
use Rattle.snes_directory.specs.Part.{blocks_of, loop_address}

-- the sixteen bytes in front: the mark, the version, the entries, the base, and the length of the memory
unfoldable pub header_bytes : ℕ → ℕ → ℕ → List ℕ
header_bytes base entries len = codes "SNBI" ++ (little_bytes 2 1 ++ (little_bytes 2 entries ++ (little_bytes 4 base ++ little_bytes 4 len)))

-- the four bytes of a sample's rate
abbrev pub rate_bytes : ImagePart → List ℕ
rate_bytes part = little_bytes 4 part.rate

-- an entry of the directory: the address of the first block, and of the one after the last (fullsnes, BRR sample directory)
unfoldable pub entry_bytes : ℕ → ImagePart → List ℕ
entry_bytes start part = little_bytes 2 start ++ little_bytes 2 (loop_address start part.loop_block)

-- the directory of samples that lie one behind the other
unfoldable pub directory_bytes : ℕ → List ImagePart → List ℕ
directory_bytes start [] = []
directory_bytes start (part ∷ parts) = entry_bytes start part ++ directory_bytes (start + length part.blocks) parts

-- the blocks of all samples
abbrev pub block_bytes : List ImagePart → List ℕ
block_bytes parts = flat_map (λ part. part.blocks) parts

-- the memory from the base on
abbrev pub memory_bytes : ℕ → List ImagePart → List ℕ
memory_bytes base parts = directory_bytes (base + 4 * length parts) parts ++ block_bytes parts

-- the file of these samples, whether or not they fit
unfoldable pub image_file : ℕ → List ImagePart → List ℕ
image_file base parts = header_bytes base (length parts) (length (memory_bytes base parts)) ++ (flat_map rate_bytes parts ++ memory_bytes base parts)

-- the file of these samples, or why there is none
unfoldable pub written_image : ℕ → List ImagePart → Result (List ℕ) LayFault
written_image base parts = do
  total ← end_of base (length parts) (sum_by blocks_of parts)
  Ok (image_file base parts)
