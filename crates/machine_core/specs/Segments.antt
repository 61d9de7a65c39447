-- Segments: runs of blocks that stand for themselves.
use Rattle.std.specs.Prelude.{◌≡◌, ℕ, ◌+◌, ◌*◌, ◌<◌, ◌++◌, ℤ, List, [], ◌∷◌, slice_range, Bool}
use Rattle.std.specs.Bool.{⊤}
use Rattle.machine_core.specs.Decoder.{Decoder}
use Rattle.machine_core.specs.Blocks.{Blocks, IsLegal, first_only}
use Rattle.machine_core.specs.Sums.{sum_of}
use Rattle.machine_core.specs.Rules.{Rules}
use Rattle.machine_core.specs.Floors.{floor_of_blocks}

-- `count` blocks of a list, from block b on
abbrev pub part_of : Decoder → Blocks → ℕ → ℕ → Blocks
part_of d list b count = record {
  heads = slice_range list.heads b (b + count);
  symbols = slice_range list.symbols (b * d.samples) (b * d.samples + count * d.samples);
}

-- their targets
abbrev pub part_targets : Decoder → List ℤ → ℕ → ℕ → List ℤ
part_targets d targets b count = slice_range targets (b * d.samples) (b * d.samples + count * d.samples)

-- the first of these blocks, and no other, must forget what was played before it
abbrev pub IsSegment : (ℕ → Bool) → ℕ → ℕ → Type 0
IsSegment fixed b count = (k : ℕ) → k < count → fixed (b + k) ≡ first_only k

-- from block b on, segments of so many blocks each, up to the end of the sample
abbrev pub AreSegments : (ℕ → Bool) → ℕ → List ℕ → ℕ → Type 0
AreSegments fixed b [] blocks = b ≡ blocks
AreSegments fixed b (count ∷ counts) blocks = (0 < count) × IsSegment fixed b count × AreSegments fixed (b + count) counts blocks

-- each of them is legal as a list of its own
abbrev pub AreLegal : Decoder → Blocks → ℕ → List ℕ → Type 0
AreLegal d list b [] = ⊤
AreLegal d list b (count ∷ counts) = IsLegal d count first_only (part_of d list b count) × AreLegal d list (b + count) counts

-- the sum of their errors, each heard alone
abbrev pub segment_sums : Decoder → Blocks → List ℤ → ℕ → List ℕ → ℕ
segment_sums d list targets b [] = 0
segment_sums d list targets b (count ∷ counts) =
    sum_of d (part_of d list b count) (part_targets d targets b count) count + segment_sums d list targets (b + count) counts

-- the sum of the floors under each alone
abbrev pub segment_floors : Rules → List ℤ → ℕ → List ℕ → ℕ
segment_floors r targets b [] = 0
segment_floors r targets b (count ∷ counts) =
    floor_of_blocks r first_only (part_targets r.decoder targets b count) count + segment_floors r targets (b + count) counts

-- one list after another
abbrev pub joined : Blocks → Blocks → Blocks
joined first second = record { heads = first.heads ++ second.heads; symbols = first.symbols ++ second.symbols }
