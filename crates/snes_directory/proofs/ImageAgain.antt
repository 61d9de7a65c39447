-- An image that was written is read again.
use Rattle.std.proofs.Common.{◌≡◌, ℕ, zero, suc, ◌+◌, ◌*◌, ◌≤◌, true, false, Bool, cond, not, List, ◌++◌, length, length-append, append_assoc, take, drop, Result, Ok, Err, refl, sym, ap, ◌∙◌, arith}
use Rattle.std.specs.Prelude.{All, nat_lt}
use Rattle.std.specs.List.{flat_map, sum_by}
use Rattle.std.proofs.lemmas.Bool.{ltb-false}
use Rattle.std.proofs.lemmas.List.{length-take-le, take_all, drop_at}
use Rattle.adpcm_nums.proofs.OutcomeLaws.{went_on}
use Rattle.snes_directory.specs.declared.part.ImagePart.{ImagePart}
use Rattle.snes_directory.specs.declared.fault.LayFault.{LayFault}
use Rattle.snes_directory.specs.declared.fault.LayFault.TheVariants.{BadBase, ImageFull}
use Rattle.snes_directory.specs.declared.entry_lists.EntryLists.{EntryLists}
use Rattle.snes_directory.specs.Layout.{is_base, end_of}
use Rattle.snes_directory.specs.Part.{blocks_of, IsPart}
use Rattle.snes_directory.specs.Spelling.{header_bytes, rate_bytes, block_bytes, memory_bytes, image_file, written_image}
use Rattle.snes_directory.specs.Header.{memory_place, header_of}
use Rattle.snes_directory.specs.Reading.{entries_of, image_with, image_of}
use Rattle.snes_directory.specs.Stored.{entries_in, image_from}
use Rattle.snes_directory.proofs.Directories.{memory_bytes-length, directory_bytes-length}
use Rattle.snes_directory.proofs.Entries.{entries_of-suc, entries_of-zero}
use Rattle.snes_directory.proofs.Splits.{bytes_of, split-at, split-part, rates-length, entries-more}
use Rattle.snes_directory.proofs.HeaderAgain.{header_again}
use Rattle.snes_directory.proofs.EntryAgain.{entry_again}

-- the first n entries
entries_again : (base : ℕ) (parts : List ImagePart) (n : ℕ) → n ≤ length parts → All IsPart parts → base + 4 * length parts + bytes_of parts ≤ 65536
    → entries_of (image_file base parts) base (memory_bytes base parts) n ≡ Ok (entries_in (4 * length parts) (take n parts))
entries_again base parts zero within all room = entries_of-zero (image_file base parts) base (memory_bytes base parts)
entries_again base parts (suc n) within all room =
    let split = split-at parts n within in
    let before = take n parts in
    let start = 4 * length parts in
    let count : length before ≡ n = length-take-le n parts (omega arith) in
    let p : IsPart split.part = split-part parts before split.part split.after split.is all in
    let entry = entry_again base parts before split.part split.after n split.is count p room in
    entries_of-suc (image_file base parts) base (memory_bytes base parts) n (entries_in start before) _ (entries_again base parts n (omega arith) all room) entry
    ∙ ap (λ (e : EntryLists). Ok e) (sym (entries-more start before split.part) ∙ ap (entries_in start) (sym split.more))

-- the memory is what stands behind the header and the rates
memory_again : (base : ℕ) (parts : List ImagePart) → drop (memory_place (length parts)) (image_file base parts) ≡ memory_bytes base parts
unfolding image_file header_bytes
memory_again base parts =
    let memory = memory_bytes base parts in
    let header = header_bytes base (length parts) (length memory) in
    let rates = flat_map rate_bytes parts in
    let long : length (header ++ rates) ≡ memory_place (length parts) = length-append header rates ∙ omega (arith, rates-length parts) in
    ap (drop (memory_place (length parts))) (sym (append_assoc header rates memory)) ∙ drop_at (header ++ rates) memory (memory_place (length parts)) long

body-length : (base : ℕ) (parts : List ImagePart) → length (flat_map rate_bytes parts ++ memory_bytes base parts) ≡ 4 * length parts + length (memory_bytes base parts)
body-length base parts = length-append (flat_map rate_bytes parts) (memory_bytes base parts) ∙ omega (arith, rates-length parts)

steps : (file memory : List ℕ) (base count : ℕ) (entries : EntryLists) → header_of file ≡ Ok (record { entries = count; base = base }) → drop (memory_place count) file ≡ memory
    → entries_of file base memory count ≡ Ok entries → image_of file ≡ Ok (image_with base memory entries)
unfolding image_of
steps file memory base count entries header behind read = rw header rw behind rw read refl

image_again : (base : ℕ) (parts : List ImagePart) → 1 ≤ length parts → length parts ≤ 64 → All IsPart parts → is_base base ≡ true → base + 4 * length parts + bytes_of parts ≤ 65536
    → image_of (image_file base parts) ≡ Ok (image_from base parts)
unfolding image_file
image_again base parts some few all page room =
    let memory = memory_bytes base parts in
    let count = length parts in
    let long : length memory ≡ 4 * count + bytes_of parts = length-append _ (block_bytes parts) ∙ omega (arith, directory_bytes-length (base + 4 * count) parts) in
    let header = header_again base count (length memory) (flat_map rate_bytes parts ++ memory) some few page (omega (arith, long, room)) (body-length base parts) in
    let whole : take count parts ≡ parts = take_all count parts (omega arith) in
    let read = entries_again base parts count (omega arith) all room ∙ ap (λ (ps : List ImagePart). Ok (entries_in (4 * count) ps)) whole in
    steps (image_file base parts) memory base count (entries_in (4 * count) parts) header (memory_again base parts) read

-- where a choice is Ok, its test failed
passed : {A : Type 0} (b : Bool) (e : LayFault) (r : Result A LayFault) (y : A) → cond b (Err e) r ≡ Ok y → (b ≡ false) × (r ≡ Ok y)
passed true e r y h = absurd (cc)
passed false e r y h = (refl, h)

shown : (b : Bool) → not b ≡ false → b ≡ true
shown true h = refl
shown false h = cc

-- a file has the bytes of its header, its rates and its memory
pub image_file-length : (base : ℕ) (parts : List ImagePart) → length (image_file base parts) ≡ 16 + 4 * length parts + length (memory_bytes base parts)
unfolding image_file header_bytes
image_file-length base parts = omega (arith, body-length base parts)

-- what was not refused fits
end_of-ok : (base entries blocks total : ℕ) → end_of base entries blocks ≡ Ok total → (is_base base ≡ true) × (base + 4 * entries + 9 * blocks ≤ 65536)
unfolding end_of
end_of-ok base entries blocks total h =
    let sum = base + 4 * entries + 9 * blocks in
    let first = passed (not (is_base base)) (BadBase base) (cond (nat_lt 65536 sum) (Err (ImageFull sum)) (Ok sum)) total h in
    let second = passed (nat_lt 65536 sum) (ImageFull sum) (Ok sum) total first.1 in
    (shown (is_base base) first.0, ltb-false _ _ second.0)

-- a file that was written says the samples that it was written of
pub written_again : (base : ℕ) (parts : List ImagePart) (file : List ℕ) → 1 ≤ length parts → length parts ≤ 64 → All IsPart parts → written_image base parts ≡ Ok file
    → image_of file ≡ Ok (image_from base parts)
unfolding written_image
written_again base parts file some few all h =
    let blocks = sum_by blocks_of parts in
    let on = went_on (end_of base (length parts) blocks) (λ total. Ok (image_file base parts)) file h in
    let fits = end_of-ok base (length parts) blocks on.0 on.1 in
    let long : length (memory_bytes base parts) ≡ 4 * length parts + bytes_of parts = length-append _ (block_bytes parts) ∙ omega (arith, directory_bytes-length (base + 4 * length parts) parts) in
    let same : image_file base parts ≡ file = (let told = on.2 in cc) in
    ap image_of (sym same) ∙ image_again base parts some few all fits.0 (omega (arith, fits.1, long, memory_bytes-length base parts all))
