-- A track of BRR blocks is the one that is read.
use Rattle.std.proofs.Common.{◌≡◌, ℕ, zero, suc, ◌+◌, ◌-◌, ◌*◌, ◌/◌, ◌<◌, ◌≤◌, Bool, true, false, not, ◌&&◌, if◌then◌else◌, List, length, refl, sym, ap, ◌∙◌, arith}
use Rattle.std.specs.Prelude.{Some, Ok, Err}
use Rattle.std.proofs.lemmas.Bool.{eq-eqb, ne_eqb}
use Rattle.adpcm_nums.proofs.FirstLaws.{is_found}
use Rattle.brr_machine.specs.Brr.{brr}
use Rattle.player_model.specs.declared.fault.TrackFault.TheVariants.{BadAgain}
use Rattle.player_model.specs.BrrFormat.{brr_format}
use Rattle.player_model.specs.Track.{whole_blocks, ends_at, repeats_at, end_block, is_block}
use Rattle.player_model.specs.BrrTrack.{closed_track, track_from, track_of}
use Rattle.player_model.specs.Sound.{IsTrack}
use Rattle.player_model.proofs.BrrWalks.{register_stays, walked}

room-for : (len begin last : ℕ) → begin + 9 * suc last ≤ len → last < (len - begin) / 9
room-for len begin last h = omega arith

-- the walk ends at the last block
walk-ends : (memory : List ℕ) (begin again last : ℕ) → IsTrack brr brr_format (walked memory begin again (suc last)) → end_block brr_format memory begin ≡ Some last
walk-ends memory begin again last track =
    is_found (ends_at brr_format memory begin) (whole_blocks brr_format memory begin) last (record {
      within = room-for (length memory) begin last track.fits;
      here = track.ends last (omega arith) ∙ eq-eqb (suc last) (suc last) refl;
      before = λ k h. track.ends k (omega arith) ∙ ne_eqb (suc k) (suc last) (omega arith);
    })

fault-not : (b c : Bool) → (b ≡ true → c ≡ true) → (b && not c) ≡ false
fault-not true c h = let e : c ≡ true = h refl in ap not e
fault-not false c h = refl

closes : (memory : List ℕ) (begin again last : ℕ) → IsTrack brr brr_format (walked memory begin again (suc last))
    → closed_track memory begin again last ≡ Ok (walked memory begin again (suc last))
closes memory begin again last track =
    let one : last ≡ suc last - 1 = omega arith in
    let fine : (repeats_at brr_format memory begin last && not (is_block brr_format begin (suc last) again)) ≡ false =
    fault-not _ _ (λ repeats. ap (is_block brr_format begin (suc last)) (sym (register_stays (walked memory begin again (suc last))))
    ∙ track.returns (ap (repeats_at brr_format memory begin) (sym one) ∙ repeats)) in
    ap (λ (t : Bool). if t then Err (BadAgain again) else Ok (walked memory begin again (suc last))) fine

-- so the track is read
pub track-read : (memory : List ℕ) (begin again blocks : ℕ) → IsTrack brr brr_format (walked memory begin again blocks)
    → track_of memory begin again ≡ Ok (walked memory begin again blocks)
unfolding track_of
track-read memory begin again zero track = absurd (omega (arith, track.some))
track-read memory begin again (suc last) track = ap (track_from memory begin again) (walk-ends memory begin again last track) ∙ closes memory begin again last track
