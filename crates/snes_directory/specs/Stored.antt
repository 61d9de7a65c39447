-- What an image file of these samples says.
use Rattle.std.specs.Prelude.{ℕ, ◌+◌, ◌*◌, List, [], ◌∷◌, length, map}
use Rattle.snes_directory.specs.declared.part.ImagePart.{ImagePart}
use Rattle.snes_directory.specs.declared.entry_lists.EntryLists.{EntryLists}
use Rattle.snes_directory.specs.declared.image.Image.{Image}
use Rattle.snes_directory.specs.Part.{loop_address}
use Rattle.snes_directory.specs.Spelling.{memory_bytes}
use Rattle.snes_directory.specs.Reading.{image_with}

-- where samples begin that lie one behind the other from a place on
abbrev pub starts_in : ℕ → List ImagePart → List ℕ
starts_in start [] = []
starts_in start (part ∷ parts) = start ∷ starts_in (start + length part.blocks) parts

-- and where their players go on
abbrev pub agains_in : ℕ → List ImagePart → List ℕ
agains_in start [] = []
agains_in start (part ∷ parts) = loop_address start part.loop_block ∷ agains_in (start + length part.blocks) parts

-- the entries of these samples
abbrev pub entries_in : ℕ → List ImagePart → EntryLists
entries_in start parts = record { rates = map (λ part. part.rate) parts; starts = starts_in start parts; agains = agains_in start parts }

-- the image of these samples, which begin behind their directory
abbrev pub image_from : ℕ → List ImagePart → Image
image_from base parts = image_with base (memory_bytes base parts) (entries_in (4 * length parts) parts)
