-- A stored list of SPU-ADPCM is the track that is read.
use Rattle.std.proofs.Common.{◌≡◌, ℕ, zero, suc, ◌+◌, ◌-◌, ◌*◌, ◌/◌, ◌%◌, ◌<◌, ◌≤◌, Bool, if◌then◌else◌, List, length, refl, sym, ap, ◌∙◌, subst, arith}
use Rattle.std.specs.Prelude.{Option, Some, None, Ok, Err}
use Rattle.std.proofs.lemmas.Bool.{eq-eqb, ne_eqb, lt-leb}
use Rattle.adpcm_nums.specs.First.{first_where}
use Rattle.adpcm_nums.specs.Outcome.{◌>>=◌}
use Rattle.adpcm_nums.proofs.FirstLaws.{is_found, none_found}
use Rattle.machine_core.specs.Blocks.{Blocks}
use Rattle.machine_core.specs.declared.state.Kind.TheVariants as kind
use Rattle.block_flags.specs.declared.split.Split.{Split}
use Rattle.block_flags.specs.declared.split.SplitFault.TheVariants.{Ragged}
use Rattle.block_flags.specs.Flags.{has_repeat}
use Rattle.block_flags.specs.Split as split
use Rattle.block_flags.proofs.LastLaws.{last_same}
use Rattle.spu_machine.specs.Spu.{spu}
use Rattle.spu_machine.specs.Spelling.{head_in}
use Rattle.player_model.specs.SpuFormat.{spu_format}
use Rattle.player_model.specs.SpuTrack.{has_bad_filter, bad_block, checked_track, split_track, spu_track_of}
use Rattle.player_model.specs.Track.{repeats_at, starts_at}
use Rattle.player_model.specs.Sound.{IsTrack}
use Rattle.player_model.proofs.SpuWalks.{whole_track, ends-same, repeats-same, starts-same}
use Rattle.player_model.proofs.StoredTracks.{IsStoredList, stored-track, repeats-stored, last-marked}

room-for : (len last : ℕ) → 0 + 16 * suc last ≤ len → last < len / 16
room-for len last h = omega arith

-- the walk ends at the last block
end-is : (bytes : List ℕ) (last : ℕ) → IsTrack spu spu_format (whole_track bytes (suc last)) → first_where (split.ends_at kind.Spu bytes) (length bytes / 16) ≡ Some last
end-is bytes last track =
    is_found (split.ends_at kind.Spu bytes) (length bytes / 16) last (record {
      within = room-for (length bytes) last track.fits;
      here = sym (ends-same bytes last) ∙ track.ends last (omega arith) ∙ eq-eqb (suc last) (suc last) refl;
      before = λ k h. sym (ends-same bytes k) ∙ track.ends k (omega arith) ∙ ne_eqb (suc k) (suc last) (omega arith);
    })

-- its split
abbrev whole_split : List ℕ → ℕ → Option ℕ → Split
whole_split bytes last loop_block =
    record { blocks = suc last; looped = has_repeat (split.flag_byte kind.Spu bytes last); loop_block = loop_block; trailing = length bytes - 16 * suc last }

closed-is : (bytes : List ℕ) (last : ℕ) (list : Blocks) (loop_block : Option ℕ) → IsStoredList spu spu_format (whole_track bytes (suc last)) list loop_block
    → split.closed_split kind.Spu bytes last ≡ Ok (whole_split bytes last loop_block)
closed-is bytes last list None s =
    let one : last ≡ suc last - 1 = omega arith in
    let once = sym (repeats-same bytes last) ∙ ap (repeats_at spu_format bytes 0) one ∙ repeats-stored spu spu_format (whole_track bytes (suc last)) list None s in
    ap (λ (b : Bool). (if b then split.loop_start_of kind.Spu bytes last else Ok None) >>= split.split_with kind.Spu bytes last) once
closed-is bytes last list (Some l) s =
    let one : last ≡ suc last - 1 = omega arith in
    let again = sym (repeats-same bytes last) ∙ ap (repeats_at spu_format bytes 0) one ∙ repeats-stored spu spu_format (whole_track bytes (suc last)) list (Some l) s in
    let marked = last_same (split.starts_at kind.Spu bytes) (starts_at spu_format bytes 0) (suc last) (λ k h. sym (starts-same bytes k))
    ∙ last-marked spu spu_format (whole_track bytes (suc last)) list l s refl in
    ap (λ (b : Bool). (if b then split.loop_start_of kind.Spu bytes last else Ok None) >>= split.split_with kind.Spu bytes last) again
    ∙ ap (λ (o : Option ℕ). split.started kind.Spu last o >>= split.split_with kind.Spu bytes last) marked

split-is : (bytes : List ℕ) (last : ℕ) (list : Blocks) (loop_block : Option ℕ) → length bytes % 16 ≡ 0 → IsStoredList spu spu_format (whole_track bytes (suc last)) list loop_block
    → split.split_of kind.Spu bytes ≡ Ok (whole_split bytes last loop_block)
unfolding split.split_of
split-is bytes last list loop_block whole s =
    let o = first_where (split.ends_at kind.Spu bytes) (length bytes / 16) in
    ap (λ (b : Bool). if b then split.split_at kind.Spu bytes o else Err (Ragged (length bytes))) (eq-eqb _ 0 whole)
    ∙ ap (split.split_at kind.Spu bytes) (end-is bytes last (stored-track spu spu_format (whole_track bytes (suc last)) list loop_block s))
    ∙ closed-is bytes last list loop_block s

filter-small : (head : ℕ) → head < 80 → head / 16 < 5
filter-small head h = omega arith

-- all filters are the decoder's
filters-fit : (bytes : List ℕ) (blocks : ℕ) → IsTrack spu spu_format (whole_track bytes blocks) → bad_block bytes blocks ≡ None
filters-fit bytes blocks track = none_found (has_bad_filter bytes) blocks (λ b h.
    let here : 0 + 16 * b ≡ 16 * b = omega arith in
    let small : head_in bytes (16 * b) < 80 = subst (λ (i : ℕ). head_in bytes i < 80) here (track.heads_fit b h) in
    lt-leb _ _ (filter-small (head_in bytes (16 * b)) small))

-- so the track is read
pub spu-read : (bytes : List ℕ) (list : Blocks) (blocks : ℕ) (loop_block : Option ℕ) → length bytes % 16 ≡ 0 → IsStoredList spu spu_format (whole_track bytes blocks) list loop_block
    → spu_track_of bytes ≡ Ok (whole_track bytes blocks)
unfolding spu_track_of
spu-read bytes list zero loop_block whole s = absurd (omega (arith, s.stored.some))
spu-read bytes list (suc last) loop_block whole s =
    ap (split_track bytes) (split-is bytes last list loop_block whole s)
    ∙ ap (checked_track bytes (suc last)) (filters-fit bytes (suc last) (stored-track spu spu_format (whole_track bytes (suc last)) list loop_block s))
