-- A list of blocks as it is stored, with its written flags, and as it is read.
use Rattle.std.specs.Prelude.{ℕ, zero, suc, ◌+◌, ◌*◌, ◌/◌, ◌%◌, List, [], ◌++◌, get_or, slice_range, map, Option}
use Rattle.std.specs.List.{range_with_len}
use Rattle.machine_core.specs.Decoder.{Decoder}
use Rattle.machine_core.specs.Blocks.{Blocks}
use Rattle.block_flags.specs.Flags.{flags_of_block}
use Rattle.player_model.specs.Format.{Format}

-- the symbols of block b
abbrev pub block_symbols : Decoder → Blocks → ℕ → List ℕ
block_symbols d list b = slice_range list.symbols (b * d.samples) (b * d.samples + d.samples)

-- the bytes of block b of a list of so many blocks with this loop block
abbrev pub stored_block : Decoder → Format → Blocks → ℕ → Option ℕ → ℕ → List ℕ
stored_block d f list blocks loop_block b = f.spelling (get_or list.heads b 0) (flags_of_block f.kind b blocks loop_block) (block_symbols d list b)

-- the bytes of the first n of them
unfoldable pub stored_front : Decoder → Format → Blocks → ℕ → Option ℕ → ℕ → List ℕ
stored_front d f list blocks loop_block zero = []
stored_front d f list blocks loop_block (suc n) = stored_front d f list blocks loop_block n ++ stored_block d f list blocks loop_block n

-- the bytes of all of them
abbrev pub stored_blocks : Decoder → Format → Blocks → ℕ → Option ℕ → List ℕ
stored_blocks d f list blocks loop_block = stored_front d f list blocks loop_block blocks

-- the list of so many blocks that stand in a memory from an address on
abbrev pub blocks_in : Decoder → Format → List ℕ → ℕ → ℕ → Blocks
blocks_in d f memory start blocks = record {
  heads = map (λ b. f.head_in memory (start + f.size * b)) (range_with_len 0 blocks);
  symbols = map (λ i. f.symbol_in memory (start + f.size * (i / d.samples)) (i % d.samples)) (range_with_len 0 (blocks * d.samples));
}
