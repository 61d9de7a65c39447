-- Bytes of SPU-ADPCM that split, and whose filters are the decoder's, are a track.
use Rattle.std.proofs.Common.{◌≡◌, ℕ, suc, ◌+◌, ◌-◌, ◌*◌, ◌/◌, ◌%◌, ◌<◌, ◌≤◌, inl, inr, Bool, true, if◌then◌else◌, List, length, get_or, refl, sym, ap, ◌∙◌, subst, arith}
use Rattle.std.specs.Prelude.{◌==◌, Some, None, Ok}
use Rattle.std.proofs.lemmas.Bool.{cases_Bool, leb-false}
use Rattle.adpcm_nums.proofs.FirstLaws.{none_passes}
use Rattle.machine_core.specs.declared.state.Kind.TheVariants as kind
use Rattle.block_flags.specs.declared.split.Split.{Split}
use Rattle.block_flags.specs.Flags.{has_repeat}
use Rattle.block_flags.specs.Last.{last_where}
use Rattle.block_flags.specs.Split as split
use Rattle.block_flags.proofs.LastLaws.{last_same, last_within}
use Rattle.block_flags.proofs.SplitLaws.{IsSplit, split_of-is}
use Rattle.spu_machine.specs.Spu.{spu}
use Rattle.spu_machine.specs.Spelling.{head_in, filter_in}
use Rattle.player_model.specs.SpuFormat.{spu_format}
use Rattle.player_model.specs.SpuTrack.{has_bad_filter, bad_block, spu_split}
use Rattle.player_model.specs.Track.{Track, ends_at, repeats_at, starts_at, set_to, is_block, end_register, loop_block_of}
use Rattle.player_model.specs.Sound.{IsTrack}
use Rattle.player_model.proofs.Moving.{block-is}

-- the bits that do not count
end-bit : (byte : ℕ) → byte % 8 % 2 ≡ byte % 2
end-bit byte = omega arith

repeat-bit : (byte : ℕ) → byte % 8 / 2 % 2 ≡ byte / 2 % 2
repeat-bit byte = omega arith

start-bit : (byte : ℕ) → byte % 8 / 4 % 2 ≡ byte / 4 % 2
start-bit byte = omega arith

same-byte : (bytes : List ℕ) (b : ℕ) → get_or bytes (0 + 16 * b + 1) 0 ≡ split.flag_byte kind.Spu bytes b
same-byte bytes b = let here : 0 + 16 * b + 1 ≡ 16 * b + 1 = omega arith in ap (λ (i : ℕ). get_or bytes i 0) here

-- so the player sees the flags that the split sees
pub ends-same : (bytes : List ℕ) (b : ℕ) → ends_at spu_format bytes 0 b ≡ split.ends_at kind.Spu bytes b
ends-same bytes b = ap (λ (n : ℕ). n % 8 % 2 == 1) (same-byte bytes b) ∙ ap (λ (n : ℕ). n == 1) (end-bit (split.flag_byte kind.Spu bytes b))

pub repeats-same : (bytes : List ℕ) (b : ℕ) → repeats_at spu_format bytes 0 b ≡ has_repeat (split.flag_byte kind.Spu bytes b)
repeats-same bytes b = ap (λ (n : ℕ). n % 8 / 2 % 2 == 1) (same-byte bytes b) ∙ ap (λ (n : ℕ). n == 1) (repeat-bit (split.flag_byte kind.Spu bytes b))

pub starts-same : (bytes : List ℕ) (b : ℕ) → starts_at spu_format bytes 0 b ≡ split.starts_at kind.Spu bytes b
starts-same bytes b = ap (λ (n : ℕ). n % 8 / 4 % 2 == 1) (same-byte bytes b) ∙ ap (λ (n : ℕ). n == 1) (start-bit (split.flag_byte kind.Spu bytes b))

-- the track of so many blocks from the first byte on
abbrev pub whole_track : List ℕ → ℕ → Track
whole_track bytes blocks = record { memory = bytes; start = 0; again = 0; blocks = blocks }

-- the loop block is where the register comes to
register-is : (bytes : List ℕ) (last l : ℕ) → last_where (split.starts_at kind.Spu bytes) (suc last) ≡ Some l
    → end_register spu_format (whole_track bytes (suc last)) ≡ 0 + 16 * l
register-is bytes last l found =
    ap (set_to spu_format 0 0) (last_same (starts_at spu_format bytes 0) (split.starts_at kind.Spu bytes) (suc last) (λ k h. starts-same bytes k) ∙ found)

head-below : (head : ℕ) → head / 16 < 5 → head < 80
head-below head h = omega arith

head-fits : (bytes : List ℕ) (blocks b : ℕ) → bad_block bytes blocks ≡ None → b < blocks → head_in bytes (0 + 16 * b) < 80
head-fits bytes blocks b none h =
    let here : 0 + 16 * b ≡ 16 * b = omega arith in
    let small : filter_in bytes (16 * b) < 5 = leb-false _ _ (none_passes (has_bad_filter bytes) blocks b none h) in
    subst (λ (i : ℕ). head_in bytes i < 80) (sym here) (head-below (head_in bytes (16 * b)) small)

returns-split : (bytes : List ℕ) (s : Split) (w : IsSplit kind.Spu bytes s) → has_repeat (split.flag_byte kind.Spu bytes w.last) ≡ true
    → is_block spu_format 0 (suc w.last) (end_register spu_format (whole_track bytes (suc w.last))) ≡ true
returns-split bytes s w repeats =
    let start = w.looped repeats refl in
    block-is spu_format 0 (suc w.last) _ start.0 (omega arith) (register-is bytes w.last start.0 start.2) (last_within (split.starts_at kind.Spu bytes) (suc w.last) start.0 start.2)

track-split : (bytes : List ℕ) (s : Split) (w : IsSplit kind.Spu bytes s) → bad_block bytes (suc w.last) ≡ None → IsTrack spu spu_format (whole_track bytes (suc w.last))
track-split bytes s w none =
    let one : suc w.last - 1 ≡ w.last = omega arith in
    record {
      some = omega arith;
      fits = omega (arith, w.within);
      heads_fit = λ b h. head-fits bytes (suc w.last) b none h;
      ends = λ b h. ends-same bytes b ∙ w.ends b h;
      returns = λ repeats. returns-split bytes s w (sym (repeats-same bytes w.last) ∙ ap (repeats_at spu_format bytes 0) (sym one) ∙ repeats);
    }

-- bytes that split, with no bad filter up to the end
pub split-track : (bytes : List ℕ) (s : Split) → spu_split bytes ≡ Ok s → bad_block bytes s.blocks ≡ None → IsTrack spu spu_format (whole_track bytes s.blocks)
split-track bytes s h none =
    let w = split_of-is kind.Spu bytes s h in
    subst (λ (n : ℕ). IsTrack spu spu_format (whole_track bytes n)) (sym w.blocks_are) (track-split bytes s w (ap (bad_block bytes) (sym w.blocks_are) ∙ none))

-- they hold the split's blocks
pub split-within : (bytes : List ℕ) (s : Split) → spu_split bytes ≡ Ok s → 16 * s.blocks ≤ length bytes
split-within bytes s h = let w = split_of-is kind.Spu bytes s h in omega (arith, w.within, w.blocks_are)

loop-split : (bytes : List ℕ) (s : Split) (w : IsSplit kind.Spu bytes s) → s.loop_block ≡ loop_block_of spu_format (whole_track bytes (suc w.last))
loop-split bytes s w =
    let one : suc w.last - 1 ≡ w.last = omega arith in
    let told = ap (repeats_at spu_format bytes 0) one ∙ repeats-same bytes w.last in
    let register = end_register spu_format (whole_track bytes (suc w.last)) in
    elim (cases_Bool (has_repeat (split.flag_byte kind.Spu bytes w.last))) [
      | inl repeats ↦ (let start = w.looped repeats refl in
          let there = register-is bytes w.last start.0 start.2 in
          let block : (register - 0) / 16 ≡ start.0 = omega (arith, there) in
          start.1 ∙ sym (ap (λ (b : Bool). if b then Some ((register - 0) / 16) else None) (told ∙ repeats) ∙ ap (λ (n : ℕ). Some n) block))
      | inr once ↦ w.once once ∙ sym (ap (λ (b : Bool). if b then Some ((register - 0) / 16) else None) (told ∙ once))
    ]

-- and the split's loop block is the track's
pub split-loop : (bytes : List ℕ) (s : Split) → spu_split bytes ≡ Ok s → s.loop_block ≡ loop_block_of spu_format (whole_track bytes s.blocks)
split-loop bytes s h =
    let w = split_of-is kind.Spu bytes s h in
    loop-split bytes s w ∙ ap (λ (n : ℕ). loop_block_of spu_format (whole_track bytes n)) (sym w.blocks_are)
