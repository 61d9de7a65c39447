-- Blocks that are a track alone are the same track where they lie in a memory.
use Rattle.std.proofs.Common.{◌≡◌, ℕ, suc, ◌+◌, ◌-◌, ◌*◌, ◌/◌, ◌%◌, ◌<◌, ◌≤◌, Bool, true, false, cond, not, ◌&&◌, List, ◌++◌, length, length-append, get_or, Option, Some, None, Ok, refl, sym, ap, ◌∙◌, arith}
use Rattle.std.specs.Prelude.{nat_le, nat_eq}
use Rattle.std.proofs.lemmas.Bool.{le-leb}
use Rattle.std.proofs.lemmas.List.{get_or_append_left, get_or-append_right}
use Rattle.adpcm_nums.proofs.FirstLaws.{first_where-is, is_found}
use Rattle.player_model.specs.Track.{Track, whole_blocks, ends_at, repeats_at, end_block, is_block, loop_block_of}
use Rattle.player_model.specs.BrrTrack.{track_from, track_of}
use Rattle.player_model.specs.BrrFormat.{brr_format}
use Rattle.snes_directory.specs.declared.part.ImagePart.{ImagePart}
use Rattle.snes_directory.specs.Part.{blocks_of, loop_address, track_in, IsPart}
use Rattle.player_model.proofs.BrrWalks.{register_stays}
use Rattle.snes_directory.proofs.Parts.{part-closed, last-is}

-- the blocks of a sample lie in a memory from a place on
pub record LieAt (memory : List ℕ) (start : ℕ) (blocks : List ℕ) : Type 0 where
  pub front : List ℕ
  pub rest : List ℕ
  pub memory_is : memory ≡ front ++ (blocks ++ rest)
  pub start_is : length front ≡ start

byte-at : (memory : List ℕ) (start : ℕ) (blocks : List ℕ) (k : ℕ) → LieAt memory start blocks → k < length blocks → get_or memory (start + k) 0 ≡ get_or blocks (0 + k) 0
byte-at memory start blocks k lie less =
    let gap : start + k - start ≡ 0 + k = omega arith in
    ap (λ m. get_or m (start + k) 0) lie.memory_is
    ∙ (get_or-append_right lie.front (blocks ++ lie.rest) start (start + k) 0 lie.start_is (omega arith)
    ∙ (ap (λ n. get_or (blocks ++ lie.rest) n 0) gap ∙ get_or_append_left blocks lie.rest 0 (0 + k) (omega arith)))

-- the flags of its blocks are the same
ends-same : (memory : List ℕ) (start : ℕ) (blocks : List ℕ) (b : ℕ) → LieAt memory start blocks → 9 * b < length blocks → ends_at brr_format memory start b ≡ ends_at brr_format blocks 0 b
ends-same memory start blocks b lie less = ap (λ n. nat_eq (n % 4 % 2) 1) (byte-at memory start blocks (9 * b) lie less)

repeats-same : (memory : List ℕ) (start : ℕ) (blocks : List ℕ) (b : ℕ) → LieAt memory start blocks → 9 * b < length blocks → repeats_at brr_format memory start b ≡ repeats_at brr_format blocks 0 b
repeats-same memory start blocks b lie less = ap (λ n. nat_eq (n % 4 / 2 % 2) 1) (byte-at memory start blocks (9 * b) lie less)

-- so the first that ends it is
end-same : (memory : List ℕ) (start : ℕ) (blocks : List ℕ) (last : ℕ) → LieAt memory start blocks → end_block brr_format blocks 0 ≡ Some last → 9 * suc last ≤ length blocks → end_block brr_format memory start ≡ Some last
end-same memory start blocks last lie end fits =
    let first = first_where-is (ends_at brr_format blocks 0) (whole_blocks brr_format blocks 0) last end in
    let long : length memory ≡ start + (length blocks + length lie.rest) =
    ap length lie.memory_is ∙ (length-append lie.front (blocks ++ lie.rest) ∙ omega (arith, lie.start_is, length-append blocks lie.rest)) in
    is_found (ends_at brr_format memory start) (whole_blocks brr_format memory start) last (record {
      within = omega (arith, long);
      here = ends-same memory start blocks last lie (omega arith) ∙ first.here;
      before = λ k below. ends-same memory start blocks k lie (omega arith) ∙ first.before k below;
    })

-- the loop address is as far behind the start
gap-same : (start : ℕ) (o : Option ℕ) → loop_address start o - start ≡ loop_address 0 o - 0
gap-same start None = omega arith
gap-same start (Some l) = omega arith

from-start : (start : ℕ) (o : Option ℕ) → start ≤ loop_address start o
from-start start None = omega arith
from-start start (Some l) = omega arith

block-same : (start blocks : ℕ) (o : Option ℕ) → is_block brr_format start blocks (loop_address start o) ≡ is_block brr_format 0 blocks (loop_address 0 o)
block-same start blocks o =
    let here : nat_le start (loop_address start o) ≡ true = le-leb _ _ (from-start start o) in
    let there : nat_le 0 (loop_address 0 o) ≡ true = le-leb _ _ (omega arith) in
    rw (here, there, gap-same start o) refl

implied : (a b : Bool) → (a ≡ true → b ≡ true) → (a && not b) ≡ false
implied true b h = rw (h refl) refl
implied false b h = refl

-- the track of a sample, where it lies
abbrev pub track_at : List ℕ → ℕ → ImagePart → Track
track_at memory start part = record { memory = memory; start = start; again = loop_address start part.loop_block; blocks = blocks_of part }

-- it is read as that track
pub track_again : (memory : List ℕ) (start : ℕ) (part : ImagePart) → IsPart part → LieAt memory start part.blocks → track_of memory start (loop_address start part.loop_block) ≡ Ok (track_at memory start part)
unfolding track_of
track_again memory start part p lie =
    let closed = part-closed part p in
    let again = loop_address start part.loop_block in
    let last = closed.last in
    let count : suc last ≡ blocks_of part = last-is part p in
    let end : end_block brr_format memory start ≡ Some last = end-same memory start part.blocks last lie closed.end (omega (arith, count, p.whole)) in
    let repeats : repeats_at brr_format memory start last ≡ repeats_at brr_format part.blocks 0 last = repeats-same memory start part.blocks last lie (omega (arith, count, p.whole)) in
    let fine : (repeats_at brr_format memory start last && not (is_block brr_format start (suc last) again)) ≡ false =
    implied (repeats_at brr_format memory start last) (is_block brr_format start (suc last) again) (λ r. block-same start (suc last) part.loop_block ∙ closed.again_fits (sym repeats ∙ r)) in
    ap (track_from memory start again) end ∙ (rw fine refl ∙ ap (λ n. Ok (record { memory = memory; start = start; again = again; blocks = n })) count)

-- and its loop block
pub loop_block_again : (memory : List ℕ) (start : ℕ) (part : ImagePart) → IsPart part → LieAt memory start part.blocks → loop_block_of brr_format (track_at memory start part) ≡ part.loop_block
loop_block_again memory start part p lie =
    let last = blocks_of part - 1 in
    let repeats : repeats_at brr_format memory start last ≡ repeats_at brr_format part.blocks 0 last = repeats-same memory start part.blocks last lie (omega (arith, last-is part p, p.whole)) in
    let here = register_stays (track_at memory start part) in
    let alone = register_stays (track_in part) in
    ap (λ (r : ℕ). cond (repeats_at brr_format memory start last) (Some ((r - start) / 9)) None) here
    ∙ (ap (λ b. cond b (Some ((loop_address start part.loop_block - start) / 9)) None) repeats
    ∙ (ap (λ n. cond (repeats_at brr_format part.blocks 0 last) (Some (n / 9)) None) (gap-same start part.loop_block)
    ∙ (ap (λ (r : ℕ). cond (repeats_at brr_format part.blocks 0 last) (Some ((r - 0) / 9)) None) (sym alone) ∙ p.loop_block)))
