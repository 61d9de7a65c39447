-- The list that is read from a memory is the list that was stored there.
use Rattle.std.proofs.Common.{◌≡◌, ℕ, ◌+◌, ◌*◌, ◌/◌, ◌%◌, sym, ap, ◌∙◌, List, get_or, map}
use Rattle.std.specs.Prelude.{Option}
use Rattle.std.specs.List.{range_with_len}
use Rattle.std.proofs.lemmas.List.FromFn.{fill_by_all}
use Rattle.std.proofs.lemmas.Nat.{div-add-mod'}
use Rattle.std.proofs.Math.Nat.{mod-lt}
use Rattle.machine_core.specs.Decoder.{Decoder}
use Rattle.machine_core.specs.Blocks.{Blocks, IsInRange}
use Rattle.machine_core.proofs.Places.{block-below}
use Rattle.player_model.specs.Format.{Format}
use Rattle.player_model.specs.FormatLaws.{IsStoredFormat}
use Rattle.player_model.specs.Track.{Track}
use Rattle.player_model.specs.Stored.{blocks_in}
use Rattle.player_model.specs.Looped.{IsStoredAt}
use Rattle.player_model.proofs.StoredTracks.{stored-keeps}

-- a stored list is the one that stands in the memory
pub stored-read : (d : Decoder) (f : Format) (t : Track) (list : Blocks) (loop_block : Option ℕ) → IsStoredFormat d f → IsInRange d t.blocks list
    → IsStoredAt d f t.memory t.start t.again list t.blocks loop_block → blocks_in d f t.memory t.start t.blocks ≡ list
stored-read d f t list loop_block laws range stored =
    let keeps = stored-keeps d f t list loop_block laws range stored in
    let heads = fill_by_all (λ b. f.head_in t.memory (t.start + f.size * b)) list.heads t.blocks 0 range.head_count (λ b below. sym (keeps b below).head) in
    let symbols = fill_by_all (λ i. f.symbol_in t.memory (t.start + f.size * (i / d.samples)) (i % d.samples)) list.symbols (t.blocks * d.samples) 0 range.symbol_count
    (λ i below.
    let block = block-below i d.samples t.blocks below in
    let small = mod-lt i laws.forgets.some_samples in
    let place : i / d.samples * d.samples + i % d.samples ≡ i = div-add-mod' i d.samples in
    ap (λ k. get_or list.symbols k 0) (sym place) ∙ sym ((keeps (i / d.samples) block).symbols (i % d.samples) small)) in
    let listed : List ℕ → List ℕ → Blocks = λ hs ss. record { heads = hs; symbols = ss } in
    sym (ap (λ hs. listed hs list.symbols) heads ∙ ap (listed (map (λ b. f.head_in t.memory (t.start + f.size * b)) (range_with_len 0 t.blocks))) symbols)
