-- A directory and its blocks, one sample after another.
use Rattle.std.proofs.Common.{◌≡◌, ℕ, ◌+◌, ◌*◌, ◌<◌, ◌≤◌, List, [], ◌∷◌, ◌++◌, length, length-append, append_assoc, get_or, drop, take, map, refl, sym, ap, ◌∙◌, subst, arith}
use Rattle.std.specs.Prelude.{All}
use Rattle.std.specs.List.{sum_by, AllByRecursion}
use Rattle.std.proofs.lemmas.List.{append-nil, drop_more, get_or-map, length-map}
use Rattle.std.proofs.lemmas.List.Sums.{sum_by-cons, sum_by_more}
use Rattle.std.proofs.lemmas.List.Elements.{All-get_or, recursion_from_All}
use Rattle.snes_directory.specs.declared.part.ImagePart.{ImagePart}
use Rattle.snes_directory.specs.Part.{blocks_of, IsPart}
use Rattle.snes_directory.specs.Spelling.{entry_bytes, directory_bytes, block_bytes, memory_bytes}

-- the sample at place i, as it is written
seen-at : {X : Type 0} (view : X → ImagePart) (xs : List X) (i : ℕ) (x : X) → i < length xs → x ≡ get_or xs i x → get_or (map view xs) i (view x) ≡ view x
seen-at view xs i x less is = get_or-map view xs i x (view x) less ∙ ap view (sym is)

-- and those behind it
pub drop-part : {X : Type 0} (view : X → ImagePart) (xs : List X) (i : ℕ) (x : X) → i < length xs → x ≡ get_or xs i x → drop i (map view xs) ≡ view x ∷ drop (i + 1) (map view xs)
drop-part view xs i x less is =
    drop_more (map view xs) i (view x) (omega (arith, length-map xs view)) ∙ ap (λ (p : ImagePart). p ∷ drop (i + 1) (map view xs)) (seen-at view xs i x less is)

-- it may be written as all may
pub part-at : {X : Type 0} (view : X → ImagePart) (xs : List X) (i : ℕ) (x : X) → i < length xs → x ≡ get_or xs i x → All IsPart (map view xs) → IsPart (view x)
part-at view xs i x less is all = subst IsPart (seen-at view xs i x less is) (All-get_or IsPart (map view xs) i (view x) (omega (arith, length-map xs view)) all)

-- its blocks were counted
pub blocks_more : {X : Type 0} (view : X → ImagePart) (xs : List X) (i : ℕ) (x : X) → i < length xs → x ≡ get_or xs i x
    → sum_by blocks_of (take (i + 1) (map view xs)) ≡ sum_by blocks_of (take i (map view xs)) + blocks_of (view x)
blocks_more view xs i x less is =
    sum_by_more blocks_of (map view xs) i (view x) (omega (arith, length-map xs view)) ∙ ap (λ p. sum_by blocks_of (take i (map view xs)) + blocks_of p) (seen-at view xs i x less is)

-- one entry more was put
pub directory_more : (out new all : List ℕ) (start : ℕ) (parts : List ImagePart) (i : ℕ) (part : ImagePart) → drop i parts ≡ part ∷ drop (i + 1) parts
    → new ≡ out ++ entry_bytes start part → out ++ directory_bytes start (drop i parts) ≡ all → new ++ directory_bytes (start + length part.blocks) (drop (i + 1) parts) ≡ all
unfolding directory_bytes
directory_more out new all start parts i part next pushed so_far =
    let rest = drop (i + 1) parts in
    let step : directory_bytes start (drop i parts) ≡ entry_bytes start part ++ directory_bytes (start + length part.blocks) rest = ap (directory_bytes start) next in
    ap (λ (xs : List ℕ). xs ++ directory_bytes (start + length part.blocks) rest) pushed
    ∙ (append_assoc out (entry_bytes start part) (directory_bytes (start + length part.blocks) rest) ∙ (ap (λ (xs : List ℕ). out ++ xs) (sym step) ∙ so_far))

-- all entries were put
pub directory_end : (out all : List ℕ) (start : ℕ) (parts : List ImagePart) (i : ℕ) → drop i parts ≡ [] → out ++ directory_bytes start (drop i parts) ≡ all → out ≡ all
unfolding directory_bytes
directory_end out all start parts i none so_far = sym (append-nil out) ∙ (sym (ap (λ (ps : List ImagePart). out ++ directory_bytes start ps) none) ∙ so_far)

-- and its blocks leave room for the others
pub room_more : (start : ℕ) (parts : List ImagePart) (i : ℕ) (part : ImagePart) → drop i parts ≡ part ∷ drop (i + 1) parts → start + length (block_bytes (drop i parts)) ≤ 65536
    → start + length part.blocks + length (block_bytes (drop (i + 1) parts)) ≤ 65536
room_more start parts i part next room =
    let step : length (block_bytes (drop i parts)) ≡ length part.blocks + length (block_bytes (drop (i + 1) parts)) =
    ap (λ (ps : List ImagePart). length (block_bytes ps)) next ∙ length-append part.blocks (block_bytes (drop (i + 1) parts)) in
    omega (arith, step)

-- and there is room for its own
pub room_part : {X : Type 0} (view : X → ImagePart) (xs : List X) (i : ℕ) (x : X) (start : ℕ) → i < length xs → x ≡ get_or xs i x → start + length (block_bytes (drop i (map view xs))) ≤ 65536
    → start + length (view x).blocks ≤ 65536
room_part view xs i x start less is room = omega (arith, room_more start (map view xs) i (view x) (drop-part view xs i x less is) room)

-- an entry has four bytes
pub directory_bytes-length : (start : ℕ) (parts : List ImagePart) → length (directory_bytes start parts) ≡ 4 * length parts
unfolding directory_bytes entry_bytes
directory_bytes-length start [] = refl
directory_bytes-length start (part ∷ parts) = omega (arith, directory_bytes-length (start + length part.blocks) parts)

-- and a block nine
pub block_bytes-length : (parts : List ImagePart) → AllByRecursion IsPart parts → length (block_bytes parts) ≡ 9 * sum_by blocks_of parts
block_bytes-length [] all = refl
block_bytes-length (part ∷ parts) all =
    let p : IsPart part = all.0 in
    omega (arith, length-append part.blocks (block_bytes parts), block_bytes-length parts all.1, sum_by-cons blocks_of part parts, p.whole)

-- so a memory has four bytes an entry and nine a block
pub memory_bytes-length : (base : ℕ) (parts : List ImagePart) → All IsPart parts → length (memory_bytes base parts) ≡ 4 * length parts + 9 * sum_by blocks_of parts
memory_bytes-length base parts all =
    omega (arith, length-append (directory_bytes (base + 4 * length parts) parts) (block_bytes parts), directory_bytes-length (base + 4 * length parts) parts, block_bytes-length parts (recursion_from_All IsPart parts all))
