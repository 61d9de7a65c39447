-- A walk over blocks of BRR that comes to an end flag makes a track.
use Rattle.std.proofs.Common.{◌≡◌, ℕ, suc, ◌+◌, ◌-◌, ◌*◌, ◌/◌, ◌<◌, ◌≤◌, Bool, true, if◌then◌else◌, List, length, refl, sym, ap, ◌∙◌, subst, arith, add-one}
use Rattle.std.specs.Prelude.{Some, None}
use Rattle.adpcm_nums.proofs.FirstLaws.{first_where-is, first_alone}
use Rattle.block_flags.proofs.LastLaws.{last_of_none}
use Rattle.brr_machine.specs.Brr.{brr}
use Rattle.brr_machine.specs.Spelling.{head_in}
use Rattle.player_model.specs.FormatLaws.{AreBytes}
use Rattle.player_model.specs.BrrFormat.{brr_format}
use Rattle.player_model.specs.Track.{Track, whole_blocks, ends_at, repeats_at, starts_at, set_to, end_block, is_block, end_register, loop_block_of}
use Rattle.player_model.specs.Sound.{IsTrack}

-- no block of BRR sets the repeat register
pub register_stays : (t : Track) → end_register brr_format t ≡ t.again
register_stays t = ap (set_to brr_format t.start t.again) (last_of_none (starts_at brr_format t.memory t.start) t.blocks (λ k h. refl))

block-room : (len start last : ℕ) → last < (len - start) / 9 → start + 9 * suc last ≤ len
block-room len start last h = omega arith

-- a head has six bits
head-small : (memory : List ℕ) (address : ℕ) → AreBytes memory → head_in memory address < 64
head-small memory address bytes = let small = bytes address in omega (arith, small)

-- the track of a walk
abbrev pub walked : List ℕ → ℕ → ℕ → ℕ → Track
walked memory start again blocks = record { memory = memory; start = start; again = again; blocks = blocks }

track_of_end : (memory : List ℕ) (start again last : ℕ) → AreBytes memory → end_block brr_format memory start ≡ Some last
    → (repeats_at brr_format memory start last ≡ true → is_block brr_format start (suc last) again ≡ true)
    → IsTrack brr brr_format (walked memory start again (suc last))
track_of_end memory start again last bytes end returns =
    let first = first_where-is (ends_at brr_format memory start) (whole_blocks brr_format memory start) last end in
    let one : suc last - 1 ≡ last = omega arith in
    record {
      some = omega arith;
      fits = block-room (length memory) start last first.within;
      heads_fit = λ b within. head-small memory (start + 9 * b) bytes;
      ends = first_alone (ends_at brr_format memory start) (whole_blocks brr_format memory start) last first;
      returns = λ repeats. ap (is_block brr_format start (suc last)) (register_stays (walked memory start again (suc last)))
          ∙ returns (ap (repeats_at brr_format memory start) (sym one) ∙ repeats);
    }

-- the same for a counted number of blocks
pub is_track : (memory : List ℕ) (start again last : ℕ) → AreBytes memory → end_block brr_format memory start ≡ Some last
    → (repeats_at brr_format memory start last ≡ true → is_block brr_format start (last + 1) again ≡ true)
    → IsTrack brr brr_format (walked memory start again (last + 1))
is_track memory start again last bytes end returns =
    subst (λ (n : ℕ). IsTrack brr brr_format (walked memory start again n)) (sym (add-one last))
    (track_of_end memory start again last bytes end (λ repeats. ap (λ (n : ℕ). is_block brr_format start n again) (sym (add-one last)) ∙ returns repeats))

-- so the loop block of a track is at the address that it was read with
pub loop_block_told : (t : Track)
    → loop_block_of brr_format t ≡ (if repeats_at brr_format t.memory t.start (t.blocks - 1) then Some ((t.again - t.start) / 9) else None)
loop_block_told t =
    ap (λ (r : ℕ). if repeats_at brr_format t.memory t.start (t.blocks - 1) then Some ((r - t.start) / 9) else None) (register_stays t)

-- the same where its last block is told
pub loop_is : (memory : List ℕ) (start again last : ℕ) (repeats : Bool) → repeats ≡ repeats_at brr_format memory start last
    → (if repeats then Some ((again - start) / 9) else None) ≡ loop_block_of brr_format (walked memory start again (last + 1))
loop_is memory start again last repeats is =
    let one : last ≡ last + 1 - 1 = omega arith in
    ap (λ (b : Bool). if b then Some ((again - start) / 9) else None) (is ∙ ap (repeats_at brr_format memory start) one)
    ∙ sym (loop_block_told (walked memory start again (last + 1)))
