-- The segments of a sample: runs of blocks whose outputs do not depend on what came before.
use Rattle.std.specs.Prelude.{ℕ, zero, suc, ◌-◌, List, [], ◌∷◌, replicate, Option, Some, None}
use Rattle.machine_core.specs.declared.state.Kind.{Kind}
use Rattle.machine_core.specs.declared.state.Kind.TheVariants.{Brr, Spu, Ima}

-- the blocks before the loop and those of the loop
abbrev pub loop_segments : ℕ → Option ℕ → List ℕ
loop_segments blocks None = blocks ∷ []
loop_segments blocks (Some zero) = blocks ∷ []
loop_segments blocks (Some (suc l)) = suc l ∷ (blocks - suc l) ∷ []

-- how many blocks each segment has; in IMA ADPCM each block is one
abbrev pub segments_of : Kind → ℕ → Option ℕ → List ℕ
segments_of Brr blocks loop_block = loop_segments blocks loop_block
segments_of Spu blocks loop_block = loop_segments blocks loop_block
segments_of Ima blocks loop_block = replicate blocks 1
