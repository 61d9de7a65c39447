-- The choice of a beam of a width for the targets of one segment.
use Rattle.std.specs.Prelude.{ℕ, ◌/◌, ℤ, List, length, get_or}
use Rattle.machine_core.specs.Decoder.{Decoder}
use Rattle.machine_core.specs.Blocks.{Blocks}
use Rattle.beam_encoder.specs.Near.{AreTargets}
use Rattle.beam_encoder.specs.Kept.{root, kept, prefix}
use Rattle.beam_encoder.specs.Walk.{walk_list}

-- how many blocks targets make
abbrev pub block_count : Decoder → List ℤ → ℕ
block_count d targets = length targets / d.samples

-- targets of whole blocks
abbrev pub AreWhole : Decoder → List ℤ → Type 0
AreWhole d targets = AreTargets d (block_count d targets) targets

-- the blocks of the first of the prefixes that are kept in the end: their heads, and at each place the nearest symbol
abbrev pub beam_list : Decoder → ℕ → List ℤ → Blocks
beam_list d width targets = walk_list d (prefix d width targets (block_count d targets) 0) targets (block_count d targets)

-- that prefix's sum
abbrev pub beam_sum : Decoder → ℕ → List ℤ → ℕ
beam_sum d width targets = (get_or (kept d width targets (block_count d targets)) 0 root).sum
