-- What a sample that may be written says of its blocks.
use Rattle.std.proofs.Common.{◌≡◌, ℕ, suc, ◌+◌, ◌*◌, ◌<◌, ◌≤◌, length, Option, Some, None, refl, ap, ◌∙◌, arith}
use Rattle.std.specs.Prelude.{IfSome}
use Rattle.player_model.specs.Track.{Track}
use Rattle.snes_directory.specs.declared.part.ImagePart.{ImagePart}
use Rattle.snes_directory.specs.Part.{blocks_of, loop_address, track_in, IsPart}
use Rattle.snes_directory.proofs.Tracks.{IsClosed, track_of-closed, again_from, is_block-within}

-- its blocks alone are a closed track
pub part-closed : (part : ImagePart) → IsPart part → IsClosed part.blocks 0 (loop_address 0 part.loop_block) (track_in part)
part-closed part p = track_of-closed part.blocks 0 (loop_address 0 part.loop_block) (track_in part) p.track

-- its last block ends it
pub last-is : (part : ImagePart) (p : IsPart part) → suc (part-closed part p).last ≡ blocks_of part
last-is part p = ap (λ (t : Track). t.blocks) (part-closed part p).is

-- so it has at least one
pub some_blocks : (part : ImagePart) → IsPart part → 1 ≤ blocks_of part
some_blocks part p = omega (arith, last-is part p)

-- its loop block is one of its blocks, by whether it has one
loop_in : (part : ImagePart) (o : Option ℕ) → IsPart part → part.loop_block ≡ o → IfSome o (λ l. l < blocks_of part)
loop_in part None p e = tt
loop_in part (Some l) p e =
    let closed = part-closed part p in
    let again = loop_address 0 part.loop_block in
    let within = is_block-within 0 (suc closed.last) again (again_from part.blocks 0 again (track_in part) l closed (p.loop_block ∙ e)) in
    let place : again ≡ 0 + 9 * l = ap (loop_address 0) e in
    omega (arith, within.1, place, last-is part p)

-- its loop block is one of its blocks
pub loop_block-within : (part : ImagePart) → IsPart part → IfSome part.loop_block (λ l. l < blocks_of part)
loop_block-within part p = loop_in part part.loop_block p refl

-- where its blocks lie in the memory, so does its start
pub start_fits : (part : ImagePart) (at : ℕ) → IsPart part → at + length part.blocks ≤ 65536 → at < 65536
start_fits part at p h = omega (arith, some_blocks part p, p.whole)

again_below : (at blocks : ℕ) (o : Option ℕ) → 1 ≤ blocks → IfSome o (λ l. l < blocks) → loop_address at o < at + 9 * blocks
again_below at blocks None some within = omega arith
again_below at blocks (Some l) some within = omega arith

-- and so does the address where its player goes on
pub again_fits : (part : ImagePart) (at : ℕ) → IsPart part → at + length part.blocks ≤ 65536 → loop_address at part.loop_block < 65536
again_fits part at p h = omega (arith, again_below at (blocks_of part) part.loop_block (some_blocks part p) (loop_block-within part p), p.whole)
