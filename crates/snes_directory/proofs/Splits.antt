-- The tables of an image, split at a sample.
use Rattle.std.proofs.Common.{◌≡◌, ℕ, zero, suc, ◌+◌, ◌*◌, ◌<◌, List, [], ◌∷◌, ◌++◌, length, length-append, append_assoc, get_or, take, refl, sym, ap, ◌∙◌, subst, arith}
use Rattle.std.specs.Prelude.{All}
use Rattle.std.specs.List.{flat_map}
use Rattle.std.proofs.lemmas.List.{get_or_at, map-append}
use Rattle.std.proofs.lemmas.List.Concat.{flat_map-append}
use Rattle.std.proofs.lemmas.List.Elements.{All-get_or}
use Rattle.snes_directory.specs.declared.part.ImagePart.{ImagePart}
use Rattle.snes_directory.specs.Part.{loop_address, IsPart}
use Rattle.snes_directory.specs.Spelling.{rate_bytes, entry_bytes, directory_bytes, block_bytes}
use Rattle.snes_directory.specs.Stored.{starts_in, agains_in, entries_in}
use Rattle.snes_directory.specs.Reading.{with_entry}

-- the bytes of the blocks of these samples
abbrev pub bytes_of : List ImagePart → ℕ
bytes_of parts = length (block_bytes parts)

-- the sample at place n, and those before and behind it
pub record HasSplit (parts : List ImagePart) (n : ℕ) : Type 0 where
  pub part : ImagePart
  pub after : List ImagePart
  pub is : parts ≡ take n parts ++ (part ∷ after)
  pub more : take (suc n) parts ≡ take n parts ++ part ∷ []

-- there is one at each place
pub split-at : (parts : List ImagePart) (n : ℕ) → n < length parts → HasSplit parts n
split-at [] n less = absurd (omega arith)
split-at (part ∷ parts) zero less = record { part = part; after = parts; is = refl; more = refl }
split-at (first ∷ parts) (suc n) less =
    let inner = split-at parts n (omega arith) in
    record { part = inner.part; after = inner.after; is = ap (λ (ps : List ImagePart). first ∷ ps) inner.is; more = ap (λ (ps : List ImagePart). first ∷ ps) inner.more }

-- it may be written as all may
pub split-part : (parts before : List ImagePart) (part : ImagePart) (after : List ImagePart) → parts ≡ before ++ (part ∷ after) → All IsPart parts → IsPart part
split-part parts before part after is all =
    let here : get_or parts (length before) part ≡ part = ap (λ (ps : List ImagePart). get_or ps (length before) part) is ∙ get_or_at before part after part (length before) refl in
    let less : length before < length parts = omega (arith, ap (λ (ps : List ImagePart). length ps) is, length-append before (part ∷ after)) in
    subst IsPart here (All-get_or IsPart parts (length before) part less all)

-- the rates, split at a sample
pub rates-split : (before : List ImagePart) (part : ImagePart) (after : List ImagePart) → flat_map rate_bytes (before ++ (part ∷ after)) ≡ flat_map rate_bytes before ++ (rate_bytes part ++ flat_map rate_bytes after)
rates-split before part after = flat_map-append rate_bytes before (part ∷ after)

-- the blocks, split at a sample
pub blocks-split : (before : List ImagePart) (part : ImagePart) (after : List ImagePart) → block_bytes (before ++ (part ∷ after)) ≡ block_bytes before ++ (part.blocks ++ block_bytes after)
blocks-split before part after = flat_map-append (λ (p : ImagePart). p.blocks) before (part ∷ after)

-- a directory, split at a sample
pub directory-split : (start : ℕ) (before : List ImagePart) (part : ImagePart) (after : List ImagePart)
    → directory_bytes start (before ++ (part ∷ after)) ≡ directory_bytes start before ++ (entry_bytes (start + bytes_of before) part ++ directory_bytes (start + bytes_of before + length part.blocks) after)
unfolding directory_bytes
directory-split start [] part after =
    let none : start + 0 ≡ start = omega arith in
    ap (λ n. entry_bytes n part ++ directory_bytes (n + length part.blocks) after) (sym none)
directory-split start (first ∷ before) part after =
    let inner = directory-split (start + length first.blocks) before part after in
    let place : start + length first.blocks + bytes_of before ≡ start + bytes_of (first ∷ before) = omega (arith, length-append first.blocks (block_bytes before)) in
    ap (λ (xs : List ℕ). entry_bytes start first ++ xs) inner
    ∙ (sym (append_assoc (entry_bytes start first) (directory_bytes (start + length first.blocks) before) _)
    ∙ ap (λ n. (entry_bytes start first ++ directory_bytes (start + length first.blocks) before) ++ (entry_bytes n part ++ directory_bytes (n + length part.blocks) after)) place)

-- each rate has four bytes
pub rates-length : (parts : List ImagePart) → length (flat_map rate_bytes parts) ≡ 4 * length parts
rates-length [] = refl
rates-length (part ∷ parts) = omega (arith, rates-length parts)

-- the addresses in a directory, one more
starts-more : (start : ℕ) (before : List ImagePart) (part : ImagePart) → starts_in start (before ++ part ∷ []) ≡ starts_in start before ++ (start + bytes_of before) ∷ []
starts-more start [] part = let none : start ≡ start + 0 = omega arith in ap (λ n. n ∷ []) none
starts-more start (first ∷ before) part =
    let place : start + length first.blocks + bytes_of before ≡ start + bytes_of (first ∷ before) = omega (arith, length-append first.blocks (block_bytes before)) in
    ap (λ (xs : List ℕ). start ∷ xs) (starts-more (start + length first.blocks) before part) ∙ ap (λ n. start ∷ (starts_in (start + length first.blocks) before ++ n ∷ [])) place

agains-more : (start : ℕ) (before : List ImagePart) (part : ImagePart) → agains_in start (before ++ part ∷ []) ≡ agains_in start before ++ loop_address (start + bytes_of before) part.loop_block ∷ []
agains-more start [] part = let none : start ≡ start + 0 = omega arith in ap (λ n. loop_address n part.loop_block ∷ []) none
agains-more start (first ∷ before) part =
    let place : start + length first.blocks + bytes_of before ≡ start + bytes_of (first ∷ before) = omega (arith, length-append first.blocks (block_bytes before)) in
    ap (λ (xs : List ℕ). loop_address start first.loop_block ∷ xs) (agains-more (start + length first.blocks) before part)
    ∙ ap (λ n. loop_address start first.loop_block ∷ (agains_in (start + length first.blocks) before ++ loop_address n part.loop_block ∷ [])) place

-- the entries, one more
pub entries-more : (start : ℕ) (before : List ImagePart) (part : ImagePart)
    → entries_in start (before ++ part ∷ []) ≡ with_entry (entries_in start before) (record { rate = part.rate; start = start + bytes_of before; again = loop_address (start + bytes_of before) part.loop_block })
entries-more start before part =
    rw (map-append (λ (p : ImagePart). p.rate) before (part ∷ []), starts-more start before part, agains-more start before part) refl

-- where a sample begins, by its place
pub starts_in-at : (start : ℕ) (parts : List ImagePart) (i : ℕ) → i < length parts → get_or (starts_in start parts) i 0 ≡ start + bytes_of (take i parts)
starts_in-at start [] i less = absurd (omega arith)
starts_in-at start (part ∷ parts) zero less = omega arith
starts_in-at start (part ∷ parts) (suc i) less =
    starts_in-at (start + length part.blocks) parts i (omega arith) ∙ omega (arith, length-append part.blocks (block_bytes (take i parts)))

-- and where its player goes on
pub agains_in-at : (start : ℕ) (parts : List ImagePart) (i : ℕ) (part : ImagePart) → i < length parts → part ≡ get_or parts i part
    → get_or (agains_in start parts) i 0 ≡ loop_address (get_or (starts_in start parts) i 0) part.loop_block
agains_in-at start [] i part less is = absurd (omega arith)
agains_in-at start (first ∷ parts) zero part less is = ap (λ (p : ImagePart). loop_address start p.loop_block) (sym is)
agains_in-at start (first ∷ parts) (suc i) part less is = agains_in-at (start + length first.blocks) parts i part (omega arith) is
