-- An entry that was written is read again.
use Rattle.std.proofs.Common.{◌≡◌, ℕ, ◌+◌, ◌-◌, ◌*◌, ◌<◌, ◌≤◌, false, List, ◌∷◌, ◌++◌, length, length-append, append_assoc, get_or, take, drop, Option, Some, None, Ok, refl, sym, ap, ◌∙◌, arith}
use Rattle.std.specs.Prelude.{nat_lt, nat_eq}
use Rattle.std.specs.List.{flat_map}
use Rattle.std.proofs.lemmas.Bool.{le-ltb}
use Rattle.std.proofs.lemmas.Bool.Decides.{nat_tests}
use Rattle.std.proofs.lemmas.List.{drop_at, take_at, get_or_at, length-take-le}
use Rattle.byteorder.specs.Endian.{little_number, little_bytes}
use Rattle.byteorder.specs.Numbers.{little_number-reads_back}
use Rattle.player_model.specs.Track.{Track, loop_block_of}
use Rattle.player_model.specs.BrrTrack.{track_of}
use Rattle.player_model.specs.BrrFormat.{brr_format}
use Rattle.snes_directory.specs.declared.part.ImagePart.{ImagePart}
use Rattle.snes_directory.specs.Part.{loop_address, IsPart}
use Rattle.snes_directory.specs.Spelling.{header_bytes, rate_bytes, entry_bytes, directory_bytes, block_bytes, memory_bytes, image_file}
use Rattle.snes_directory.specs.Stored.{starts_in}
use Rattle.snes_directory.specs.Header.{number2_at, number4_at}
use Rattle.snes_directory.specs.Entry.{rate_of, start_in, again_place, again_of, again_in, entry_of}
use Rattle.snes_directory.proofs.Parts.{start_fits, again_fits}
use Rattle.snes_directory.proofs.Directories.{directory_bytes-length}
use Rattle.snes_directory.proofs.Splits.{bytes_of, split-at, rates-split, blocks-split, directory-split, rates-length, starts_in-at}
use Rattle.snes_directory.proofs.TrackAgain.{LieAt, track_at, track_again, loop_block_again}

rate_again : (bytes : List ℕ) (n rate : ℕ) → number4_at bytes (16 + 4 * n) ≡ rate → 1 ≤ rate → rate ≤ 1000000 → rate_of bytes n ≡ Ok rate
unfolding rate_of
rate_again bytes n rate is some few =
    let none : nat_eq rate 0 ≡ false = grind (arith, nat_tests) in
    let high : nat_lt 1000000 rate ≡ false = le-ltb _ _ few in
    rw is rw (none, high) refl

start_again : (base : ℕ) (memory : List ℕ) (n start : ℕ) → 4 * n + 4 ≤ length memory → number2_at memory (4 * n) ≡ base + start → start_in base memory n ≡ Ok start
unfolding start_in
start_again base memory n start within is =
    let room : nat_lt (length memory) (4 * n + 4) ≡ false = le-ltb _ _ within in
    let above : nat_lt (base + start) base ≡ false = le-ltb _ _ (omega arith) in
    let gap : base + start - base ≡ start = omega arith in
    rw is rw (room, above, gap) refl

place_again : (base start again : ℕ) → again_place base start (base + again) ≡ again
place_again base start again =
    let above : nat_lt (base + again) base ≡ false = le-ltb _ _ (omega arith) in
    let gap : base + again - base ≡ again = omega arith in
    rw above gap

again_of-again : (n base start again : ℕ) (o : Option ℕ) → again ≡ loop_address start o → again_of n base start (base + again) o ≡ Ok again
again_of-again n base start again None is = rw is refl
again_of-again n base start again (Some l) is =
    let above : nat_lt (base + again) base ≡ false = le-ltb _ _ (omega arith) in
    let gap : base + again - base ≡ again = omega arith in
    rw (above, gap) refl

again_again : (base : ℕ) (memory : List ℕ) (n start again : ℕ) (track : Track) (o : Option ℕ) → number2_at memory (4 * n + 2) ≡ base + again → track_of memory start again ≡ Ok track
    → loop_block_of brr_format track ≡ o → again ≡ loop_address start o → again_in base memory n start ≡ Ok again
unfolding again_in
again_again base memory n start again track o is tracks loops address =
    rw is rw (place_again base start again) rw tracks rw loops (again_of-again n base start again o address)

entry_from : (bytes : List ℕ) (base : ℕ) (memory : List ℕ) (n rate start again : ℕ) → rate_of bytes n ≡ Ok rate → start_in base memory n ≡ Ok start → again_in base memory n start ≡ Ok again
    → entry_of bytes base memory n ≡ Ok (record { rate = rate; start = start; again = again })
unfolding entry_of
entry_from bytes base memory n rate start again r s a = rw (r, s, a) refl

-- the rate of a sample stands behind those before it
rate-at : (base : ℕ) (parts before : List ImagePart) (part : ImagePart) (after : List ImagePart) (n : ℕ) → parts ≡ before ++ (part ∷ after) → length before ≡ n → part.rate ≤ 1000000
    → number4_at (image_file base parts) (16 + 4 * n) ≡ part.rate
unfolding image_file header_bytes
rate-at base parts before part after n is count few =
    let memory = memory_bytes base parts in
    let header = header_bytes base (length parts) (length memory) in
    let front = flat_map rate_bytes before in
    let rest : List ℕ = flat_map rate_bytes after ++ memory in
    let rates : flat_map rate_bytes parts ≡ front ++ (rate_bytes part ++ flat_map rate_bytes after) = ap (flat_map rate_bytes) is ∙ rates-split before part after in
    let split : header ++ (flat_map rate_bytes parts ++ memory) ≡ (header ++ front) ++ (rate_bytes part ++ rest) = ap (λ (xs : List ℕ). header ++ (xs ++ memory)) rates ∙ simp append_assoc in
    let long : length (header ++ front) ≡ 16 + 4 * n = length-append header front ∙ omega (arith, rates-length before, count) in
    ap (little_number 4) (ap (drop (16 + 4 * n)) split ∙ drop_at (header ++ front) (rate_bytes part ++ rest) (16 + 4 * n) long)
    ∙ little_number-reads_back 4 part.rate rest (omega arith)

-- its addresses stand in the directory
pub record StandsAt (memory : List ℕ) (n start again : ℕ) : Type 0 where
  pub within : 4 * n + 4 ≤ length memory
  pub start_is : number2_at memory (4 * n) ≡ start
  pub again_is : number2_at memory (4 * n + 2) ≡ again

stands_at : (memory front rest : List ℕ) (n start again : ℕ) → memory ≡ front ++ ((little_bytes 2 start ++ little_bytes 2 again) ++ rest) → length front ≡ 4 * n → start < 65536 → again < 65536
    → StandsAt memory n start again
stands_at memory front rest n start again is count low high =
    let first : memory ≡ front ++ (little_bytes 2 start ++ (little_bytes 2 again ++ rest)) = is in
    let second : memory ≡ (front ++ little_bytes 2 start) ++ (little_bytes 2 again ++ rest) = is ∙ sym (append_assoc front (little_bytes 2 start) (little_bytes 2 again ++ rest)) in
    let long : length (front ++ little_bytes 2 start) ≡ 4 * n + 2 = length-append front (little_bytes 2 start) ∙ omega (arith, count) in
    record {
      within = omega (arith, ap length is, length-append front ((little_bytes 2 start ++ little_bytes 2 again) ++ rest), count);
      start_is = ap (little_number 2) (ap (drop (4 * n)) first ∙ drop_at front (little_bytes 2 start ++ (little_bytes 2 again ++ rest)) (4 * n) count) ∙ little_number-reads_back 2 start (little_bytes 2 again ++ rest) low;
      again_is = ap (little_number 2) (ap (drop (4 * n + 2)) second ∙ drop_at (front ++ little_bytes 2 start) (little_bytes 2 again ++ rest) (4 * n + 2) long) ∙ little_number-reads_back 2 again rest high;
    }

part-stands : (base : ℕ) (parts before : List ImagePart) (part : ImagePart) (after : List ImagePart) (n : ℕ) → parts ≡ before ++ (part ∷ after) → length before ≡ n
    → base + 4 * length parts + bytes_of before < 65536 → loop_address (base + 4 * length parts + bytes_of before) part.loop_block < 65536
    → StandsAt (memory_bytes base parts) n (base + 4 * length parts + bytes_of before) (loop_address (base + 4 * length parts + bytes_of before) part.loop_block)
unfolding entry_bytes
part-stands base parts before part after n is count low high =
    let first = base + 4 * length parts in
    let start = first + bytes_of before in
    let front = directory_bytes first before in
    let behind = directory_bytes (start + length part.blocks) after in
    let directory : directory_bytes first parts ≡ front ++ (entry_bytes start part ++ behind) = ap (directory_bytes first) is ∙ directory-split first before part after in
    let split : memory_bytes base parts ≡ front ++ (entry_bytes start part ++ (behind ++ block_bytes parts)) = ap (λ (xs : List ℕ). xs ++ block_bytes parts) directory ∙ simp append_assoc in
    stands_at (memory_bytes base parts) front (behind ++ block_bytes parts) n start (loop_address start part.loop_block) split (omega (arith, directory_bytes-length first before, count)) low high

-- its blocks lie behind the directory and the blocks before them
pub part-lies : (base : ℕ) (parts before : List ImagePart) (part : ImagePart) (after : List ImagePart) → parts ≡ before ++ (part ∷ after)
    → LieAt (memory_bytes base parts) (4 * length parts + bytes_of before) part.blocks
part-lies base parts before part after is =
    let directory = directory_bytes (base + 4 * length parts) parts in
    let blocks : block_bytes parts ≡ block_bytes before ++ (part.blocks ++ block_bytes after) = ap block_bytes is ∙ blocks-split before part after in
    record {
      front = directory ++ block_bytes before;
      rest = block_bytes after;
      memory_is = ap (λ (xs : List ℕ). directory ++ xs) blocks ∙ sym (append_assoc directory (block_bytes before) (part.blocks ++ block_bytes after));
      start_is = length-append directory (block_bytes before) ∙ omega (arith, directory_bytes-length (base + 4 * length parts) parts);
    }

address-split : (base start : ℕ) (o : Option ℕ) → loop_address (base + start) o ≡ base + loop_address start o
address-split base start None = refl
address-split base start (Some l) = omega arith

-- so the entry is read as it was written
pub entry_again : (base : ℕ) (parts before : List ImagePart) (part : ImagePart) (after : List ImagePart) (n : ℕ) → parts ≡ before ++ (part ∷ after) → length before ≡ n → IsPart part
    → base + 4 * length parts + bytes_of parts ≤ 65536
    → entry_of (image_file base parts) base (memory_bytes base parts) n
    ≡ Ok (record { rate = part.rate; start = 4 * length parts + bytes_of before; again = loop_address (4 * length parts + bytes_of before) part.loop_block })
entry_again base parts before part after n is count p room =
    let file = image_file base parts in
    let memory = memory_bytes base parts in
    let place = 4 * length parts + bytes_of before in
    let again = loop_address place part.loop_block in
    let start = base + 4 * length parts + bytes_of before in
    let all : bytes_of parts ≡ bytes_of before + (length part.blocks + bytes_of after) =
    ap length (ap block_bytes is ∙ blocks-split before part after) ∙ (length-append (block_bytes before) (part.blocks ++ block_bytes after) ∙ omega (arith, length-append part.blocks (block_bytes after))) in
    let fits : start + length part.blocks ≤ 65536 = omega (arith, all, room) in
    let stands = part-stands base parts before part after n is count (start_fits part start p fits) (again_fits part start p fits) in
    let lies = part-lies base parts before part after is in
    let here : start ≡ base + place = omega arith in
    let there : loop_address start part.loop_block ≡ base + again = ap (λ m. loop_address m part.loop_block) here ∙ address-split base place part.loop_block in
    entry_from file base memory n part.rate place again
    (rate_again file n part.rate (rate-at base parts before part after n is count p.high_rate) p.some_rate p.high_rate)
    (start_again base memory n place stands.within (stands.start_is ∙ here))
    (again_again base memory n place again (track_at memory place part) part.loop_block (stands.again_is ∙ there) (track_again memory place part p lies) (loop_block_again memory place part p lies) refl)

-- the blocks of a sample, by its place
pub blocks-lie : (base : ℕ) (parts : List ImagePart) (i : ℕ) (part : ImagePart) → i < length parts → part ≡ get_or parts i part
    → take (length part.blocks) (drop (get_or (starts_in (4 * length parts) parts) i 0) (memory_bytes base parts)) ≡ part.blocks
blocks-lie base parts i part less is =
    let split = split-at parts i less in
    let before = take i parts in
    let count : length before ≡ i = length-take-le i parts (omega arith) in
    let same : split.part ≡ part = sym (is ∙ (ap (λ (ps : List ImagePart). get_or ps i part) split.is ∙ get_or_at before split.part split.after part i count)) in
    let lies = part-lies base parts before split.part split.after split.is in
    let place = starts_in-at (4 * length parts) parts i less in
    let behind : drop (get_or (starts_in (4 * length parts) parts) i 0) (memory_bytes base parts) ≡ split.part.blocks ++ lies.rest =
    ap (λ n. drop n (memory_bytes base parts)) place ∙ (ap (drop (4 * length parts + bytes_of before)) lies.memory_is ∙ drop_at lies.front (split.part.blocks ++ lies.rest) (4 * length parts + bytes_of before) lies.start_is) in
    ap (take (length part.blocks)) (behind ∙ ap (λ (p : ImagePart). p.blocks ++ lies.rest) same) ∙ take_at part.blocks lies.rest (length part.blocks) refl
