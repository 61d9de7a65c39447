-- A file of chunks that was written is walked again.
use Rattle.std.proofs.Common.{◌≡◌, ℕ, ◌+◌, false, List, ◌++◌, length, take, drop, Ok, refl, ap, ◌∙◌, arith}
use Rattle.std.specs.Prelude.{nat_lt, codes, flat_map}
use Rattle.std.proofs.lemmas.Bool.{le-ltb}
use Rattle.wave_form.specs.declared.chunks.Chunks.{Chunks}
use Rattle.wave_form.specs.Heads.{heads_of}
use Rattle.wave_form.specs.Walk.{chunks_of, first_fault, unless, walk_of}
use Rattle.wave_form.specs.Riff.{Chunk, chunk_bytes, riff_head, riff_file, AreChunks, FindsBodies}
use Rattle.wave_form.proofs.Spelled.{heads_spelled, heads_again, bodies_again, no_fault}

-- after its head a file is walked chunk by chunk
walk_head : (len : ℕ) (rest file : List ℕ) → file ≡ riff_head len ++ rest → walk_of file ≡ unless (first_fault (length file) false (heads_of file)) (chunks_of (heads_of file))
unfolding walk_of
walk_head len rest file is =
    let long : length file ≡ 12 + length rest = ap length is ∙ omega arith in
    let four : nat_lt (length file) 4 ≡ false = le-ltb _ _ (omega arith) in
    let twelve : nat_lt (length file) 12 ≡ false = le-ltb _ _ (omega arith) in
    let riff : take 4 file ≡ codes "RIFF" = ap (take 4) is in
    let wave : take 4 (drop 8 file) ≡ codes "WAVE" = ap (λ x. take 4 (drop 8 x)) is in
    rw (four, twelve, riff, wave) refl

-- a walk over written chunks gives where they lie
pub walk_again : (chunks : List Chunk) → AreChunks chunks → walk_of (riff_file chunks) ≡ Ok (chunks_of (heads_spelled 12 chunks))
unfolding riff_file
walk_again chunks are =
    let rest = flat_map chunk_bytes chunks in
    let file = riff_file chunks in
    let long : length file ≡ 12 + length rest = omega arith in
    let heads : heads_of file ≡ heads_spelled 12 chunks = heads_again file (riff_head (length rest)) chunks 12 (length file) are.each refl refl (omega arith) in
    let sound = no_fault (length file) chunks 12 false are.each (omega arith) (omega (arith, are.data_once)) in
    walk_head (length rest) rest file refl ∙ rw (heads, sound) refl

-- and what lies there is their bodies
pub written_again : (chunks : List Chunk) → AreChunks chunks → (found : Chunks) × (walk_of (riff_file chunks) ≡ Ok found) × FindsBodies (riff_file chunks) found chunks
unfolding riff_file
written_again chunks are =
    let rest = flat_map chunk_bytes chunks in
    let file = riff_file chunks in
    let again = λ (id : List ℕ). bodies_again file (riff_head (length rest)) chunks 12 id are.each refl refl in
    (chunks_of (heads_spelled 12 chunks), walk_again chunks are, record { fmt = again (codes "fmt "); pcm = again (codes "data"); smpl = again (codes "smpl"); fact = again (codes "fact") })
