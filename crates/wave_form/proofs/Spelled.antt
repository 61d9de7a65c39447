-- Heads and bodies of chunks that are spelled one after another.
use Rattle.std.proofs.Common.{◌≡◌, ℕ, zero, suc, ◌+◌, ◌%◌, ◌≤◌, ◌<◌, Bool, true, false, List, [], ◌∷◌, ◌++◌, length, length-append, append_assoc, take, drop, replicate, Option, Some, None, refl, sym, ap, ◌∙◌, cond, arith}
use Rattle.std.specs.Prelude.{flat_map, find, option_map, nat_lt, nat_eq, codes, count_by, if◌then◌else◌, ◌||◌, ◌&&◌}
use Rattle.std.specs.List.{AllByRecursion}
use Rattle.std.proofs.lemmas.Bool.{lt-ltb, le-ltb}
use Rattle.std.proofs.lemmas.Bool.Decides.{nat_tests}
use Rattle.std.proofs.lemmas.List.{take_at, drop_at, append-nil}
use Rattle.std.proofs.lemmas.List.Sums.{sum_by-cons}
use Rattle.byteorder.specs.Endian.{little_number, little_bytes}
use Rattle.byteorder.specs.Numbers.{little_number-reads_back}
use Rattle.wave_form.specs.Span.{bytes_in}
use Rattle.wave_form.specs.Heads.{Head, head_at, heads_from, place_after}
use Rattle.wave_form.specs.Walk.{is_named, body_of, first_body, head_fault, first_fault}
use Rattle.wave_form.specs.Riff.{Chunk, chunk_bytes, has_id, body_named, IsChunk}
use Rattle.wave_form.proofs.Spelling.{length-chunk_bytes}
use Rattle.wave_form.proofs.Walking.{heads-cons}

-- the head of a chunk that is spelled at a place
abbrev pub head_of : ℕ → Chunk → Head
head_of at chunk = record { id = chunk.id; at = at; size = length chunk.body }

-- the heads of chunks that are spelled from a place on
abbrev pub heads_spelled : ℕ → List Chunk → List Head
heads_spelled at [] = []
heads_spelled at (chunk ∷ chunks) = head_of at chunk ∷ heads_spelled (place_after (head_of at chunk)) chunks

-- the parts of a chunk that stands before others
spelled_id : (chunk : Chunk) (rest : List ℕ)
    → chunk_bytes chunk ++ rest ≡ chunk.id ++ (little_bytes 4 (length chunk.body) ++ (chunk.body ++ (replicate (length chunk.body % 2) 0 ++ rest)))
unfolding chunk_bytes
spelled_id chunk rest = simp append_assoc

-- the head at its place is its own
head_again : (file front rest : List ℕ) (chunk : Chunk) (at : ℕ) → IsChunk chunk → length front ≡ at → file ≡ front ++ (chunk_bytes chunk ++ rest)
    → head_at file at ≡ head_of at chunk
head_again file front rest chunk at fits long is =
    let more = chunk.body ++ (replicate (length chunk.body % 2) 0 ++ rest) in
    let after : drop at file ≡ chunk.id ++ (little_bytes 4 (length chunk.body) ++ more) = ap (drop at) is ∙ (drop_at front _ at long ∙ spelled_id chunk rest) in
    let id : take 4 (drop at file) ≡ chunk.id = ap (take 4) after ∙ take_at chunk.id _ 4 fits.id in
    let size : little_number 4 (drop 4 (drop at file)) ≡ length chunk.body =
    ap (λ x. little_number 4 (drop 4 x)) after ∙ (ap (little_number 4) (drop_at chunk.id _ 4 fits.id) ∙ little_number-reads_back 4 (length chunk.body) more (omega (arith, fits.size))) in
    rw (id, size) refl

-- the bytes where its head says that the body lies are the body
body_again : (file front rest : List ℕ) (chunk : Chunk) (at : ℕ) → IsChunk chunk → length front ≡ at → file ≡ front ++ (chunk_bytes chunk ++ rest)
    → bytes_in file (body_of (head_of at chunk)) ≡ chunk.body
body_again file front rest chunk at fits long is =
    let size = little_bytes 4 (length chunk.body) in
    let more = replicate (length chunk.body % 2) 0 ++ rest in
    let regroup : file ≡ (front ++ (chunk.id ++ size)) ++ (chunk.body ++ more) = is ∙ (ap (λ x. front ++ x) (spelled_id chunk rest) ∙ simp append_assoc) in
    let far : length (front ++ (chunk.id ++ size)) ≡ at + 8 = length-append front (chunk.id ++ size) ∙ omega (arith, long, fits.id, length-append chunk.id size) in
    let after : drop (at + 8) file ≡ chunk.body ++ more = ap (drop (at + 8)) regroup ∙ drop_at (front ++ (chunk.id ++ size)) _ (at + 8) far in
    ap (take (length chunk.body)) after ∙ take_at chunk.body more (length chunk.body) refl

-- the front grows by a chunk
grown : (file front rest : List ℕ) (chunk : Chunk) → file ≡ front ++ (chunk_bytes chunk ++ rest) → file ≡ (front ++ chunk_bytes chunk) ++ rest
grown file front rest chunk is = is ∙ sym (append_assoc front (chunk_bytes chunk) rest)

-- and ends where the next head stands
length-grown : (front : List ℕ) (chunk : Chunk) (at : ℕ) → IsChunk chunk → length front ≡ at
    → length (front ++ chunk_bytes chunk) ≡ place_after (head_of at chunk)
length-grown front chunk at fits long = length-append front (chunk_bytes chunk) ∙ omega (arith, long, length-chunk_bytes chunk, fits.id)

-- the heads of a file of chunks are those of the chunks
pub heads_again : (file front : List ℕ) (chunks : List Chunk) (at most : ℕ) → AllByRecursion IsChunk chunks → length front ≡ at → file ≡ front ++ flat_map chunk_bytes chunks
    → length file ≤ most + at → heads_from most file at ≡ heads_spelled at chunks
unfolding heads_from
heads_again file front [] at zero fit long is enough = refl
heads_again file front [] at (suc most) fit long is enough =
    let all : length file ≡ at = ap length (is ∙ append-nil front) ∙ long in
    let test : nat_lt (length file) (at + 8) ≡ true = lt-ltb _ _ (omega arith) in
    rw test refl
heads_again file front (chunk ∷ chunks) at zero fit long is enough =
    let all : length file ≡ length front + length (chunk_bytes chunk ++ flat_map chunk_bytes chunks) = ap length is ∙ length-append front _ in
    absurd (omega (arith, all, length-append (chunk_bytes chunk) (flat_map chunk_bytes chunks), length-chunk_bytes chunk, fit.0.id))
heads_again file front (chunk ∷ chunks) at (suc most) fit long is enough =
    let rest = flat_map chunk_bytes chunks in
    let all : length file ≡ length front + length (chunk_bytes chunk ++ rest) = ap length is ∙ length-append front _ in
    let room : at + 8 ≤ length file = omega (arith, length-append (chunk_bytes chunk) rest, length-chunk_bytes chunk, fit.0.id) in
    let head = head_again file front rest chunk at fit.0 long is in
    let later = heads_again file (front ++ chunk_bytes chunk) chunks (place_after (head_of at chunk)) most fit.1 (length-grown front chunk at fit.0 long) (grown file front rest chunk is) (omega arith) in
    heads-cons most file at room ∙ (ap (λ h. h ∷ heads_from most file (place_after h)) head ∙ ap (λ hs. head_of at chunk ∷ hs) later)

-- the same chunk is found by its head and by its id
picked : (file : List ℕ) (here : Bool) (head : Head) (heads : Option Head) (chunk : Chunk) (chunks : Option Chunk) → bytes_in file (body_of head) ≡ chunk.body
    → option_map (bytes_in file) (option_map body_of heads) ≡ option_map (λ c. c.body) chunks
    → option_map (bytes_in file) (option_map body_of (cond here (Some head) heads)) ≡ option_map (λ c. c.body) (cond here (Some chunk) chunks)
picked file true head heads chunk chunks same later = ap Some same
picked file false head heads chunk chunks same later = later

-- the body that is found under an id is that of the first chunk with this id
pub bodies_again : (file front : List ℕ) (chunks : List Chunk) (at : ℕ) (id : List ℕ) → AllByRecursion IsChunk chunks → length front ≡ at → file ≡ front ++ flat_map chunk_bytes chunks
    → option_map (bytes_in file) (first_body id (heads_spelled at chunks)) ≡ body_named id chunks
bodies_again file front [] at id fit long is = refl
bodies_again file front (chunk ∷ chunks) at id fit long is =
    let rest = flat_map chunk_bytes chunks in
    let next = place_after (head_of at chunk) in
    picked file (has_id id chunk) (head_of at chunk) (find (is_named id) (heads_spelled next chunks)) chunk (find (has_id id) chunks) (body_again file front rest chunk at fit.0 long is)
    (bodies_again file (front ++ chunk_bytes chunk) chunks next id fit.1 (length-grown front chunk at fit.0 long) (grown file front rest chunk is))

-- a test that fails decides
and_false : (b : Bool) → (b && false) ≡ false
and_false true = refl
and_false false = refl

-- data chunks seen before, as a number
abbrev pub seen_before : Bool → ℕ
seen_before before = if before then 1 else 0

-- at most one: not here and before
once : (here before : Bool) (later : ℕ) → seen_before before + (cond here 1 0 + later) ≤ 1 → (here && before) ≡ false
once true true later few = absurd (omega arith)
once true false later few = refl
once false before later few = refl

-- and so for those after this one
then_once : (here before : Bool) (later : ℕ) → seen_before before + (cond here 1 0 + later) ≤ 1 → seen_before (before || here) + later ≤ 1
then_once true true later few = omega arith
then_once true false later few = omega arith
then_once false true later few = omega arith
then_once false false later few = omega arith

-- a chunk has no fault that fits, and is not a second data chunk
head_sound : (len at : ℕ) (before : Bool) (chunk : Chunk) → length chunk.body < 4294967295 → at + 8 + length chunk.body ≤ len → (has_id (codes "data") chunk && before) ≡ false
    → head_fault len before (head_of at chunk) ≡ None
unfolding head_fault
head_sound len at before chunk small room twice =
    let most : nat_eq (length chunk.body) 4294967295 ≡ false = grind (arith, nat_tests) in
    let streams : (has_id (codes "data") chunk && nat_eq (length chunk.body) 4294967295) ≡ false = ap (λ b. has_id (codes "data") chunk && b) most ∙ and_false _ in
    let whole : nat_lt len (at + 8 + length chunk.body) ≡ false = le-ltb _ _ room in
    rw (streams, whole, twice) refl

-- chunks that can be told apart have no fault
pub no_fault : (len : ℕ) (chunks : List Chunk) (at : ℕ) (before : Bool) → AllByRecursion IsChunk chunks → at + length (flat_map chunk_bytes chunks) ≤ len
    → seen_before before + count_by (has_id (codes "data")) chunks ≤ 1 → first_fault len before (heads_spelled at chunks) ≡ None
unfolding first_fault
no_fault len [] at before fit room few = refl
no_fault len (chunk ∷ chunks) at before fit room few =
    let rest = flat_map chunk_bytes chunks in
    let here = has_id (codes "data") chunk in
    let both = length-append (chunk_bytes chunk) rest in
    let own = length-chunk_bytes chunk in
    let count : count_by (has_id (codes "data")) (chunk ∷ chunks) ≡ cond here 1 0 + count_by (has_id (codes "data")) chunks = sum_by-cons (λ c. cond (has_id (codes "data") c) 1 0) chunk chunks in
    let split : seen_before before + (cond here 1 0 + count_by (has_id (codes "data")) chunks) ≤ 1 = rw (← count) few in
    let sound = head_sound len at before chunk fit.0.size (omega (arith, both, own, fit.0.id)) (once here before (count_by (has_id (codes "data")) chunks) split) in
    let later = no_fault len chunks (place_after (head_of at chunk)) (before || here) fit.1 (omega (arith, both, own, fit.0.id)) (then_once here before (count_by (has_id (codes "data")) chunks) split) in
    rw (sound, later) refl
