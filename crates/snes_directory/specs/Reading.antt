-- What an image file says, or its first fault.
use Rattle.std.specs.Prelude.{◌≡◌, ◌≤◌, ◌<◌, ◌+◌, ◌%◌, ℕ, zero, suc, List, [], ◌∷◌, ◌++◌, length, drop, get_or, All, Result, Ok}
use Rattle.adpcm_nums.specs.Outcome.{◌>>=◌}
use Rattle.player_model.specs.BrrTrack.{track_of}
use Rattle.snes_directory.specs.declared.fault.ImageFault.{ImageFault}
use Rattle.snes_directory.specs.declared.entry.Entry.{Entry}
use Rattle.snes_directory.specs.declared.entry_lists.EntryLists.{EntryLists}
use Rattle.snes_directory.specs.declared.image.Image.{Image}
use Rattle.snes_directory.specs.Header.{header_of, memory_place}
use Rattle.snes_directory.specs.Entry.{entry_of}

-- no entry so far
abbrev pub no_entries : EntryLists
no_entries = record { rates = []; starts = []; agains = [] }

-- one entry more
abbrev pub with_entry : EntryLists → Entry → EntryLists
with_entry lists entry = record {
  rates = lists.rates ++ entry.rate ∷ [];
  starts = lists.starts ++ entry.start ∷ [];
  agains = lists.agains ++ entry.again ∷ [];
}

-- the first n entries of a file with this base and memory
unfoldable pub entries_of : List ℕ → ℕ → List ℕ → ℕ → Result EntryLists ImageFault
entries_of bytes base memory zero = Ok no_entries
entries_of bytes base memory (suc n) = do
  before ← entries_of bytes base memory n
  entry ← entry_of bytes base memory n
  Ok (with_entry before entry)

-- the image of this base, memory and entries
abbrev pub image_with : ℕ → List ℕ → EntryLists → Image
image_with base memory entries = record { base = base; rates = entries.rates; memory = memory; starts = entries.starts; agains = entries.agains }

-- the memory is all that stands behind the header and the rates
unfoldable pub image_of : List ℕ → Result Image ImageFault
image_of bytes = do
  header ← header_of bytes
  entries ← entries_of bytes header.base (drop (memory_place header.entries) bytes) header.entries
  Ok (image_with header.base (drop (memory_place header.entries) bytes) entries)

-- a player that begins at one place of a memory and goes on at another has a track, and both places lie in the memory
pub record HasTrack (memory : List ℕ) (start again : ℕ) : Type 0 where
  pub start_within : start < length memory
  pub again_within : again < length memory
  pub blocks : ℕ
  pub track : track_of memory start again ≡ Ok (record { memory = memory; start = start; again = again; blocks = blocks })

-- samples a second that an entry may have
pub record IsRate (rate : ℕ) : Type 0 where
  pub some : 1 ≤ rate
  pub high : rate ≤ 1000000

-- what holds of each image that is read
pub record IsImage (image : Image) : Type 0 where
  -- the directory begins on a page, and the memory does not pass the console's end
  pub page : image.base % 256 ≡ 0
  pub low : image.base ≤ 65280
  pub room : image.base + length image.memory ≤ 65536
  pub some : 1 ≤ length image.rates
  pub few : length image.rates ≤ 64
  pub starts : length image.starts ≡ length image.rates
  pub agains : length image.agains ≡ length image.rates
  pub rates : All IsRate image.rates
  pub tracks : (i : ℕ) → i < length image.rates → HasTrack image.memory (get_or image.starts i 0) (get_or image.agains i 0)
