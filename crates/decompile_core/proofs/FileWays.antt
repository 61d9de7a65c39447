-- A track that was read is a way of a player, whatever the bytes.
use Rattle.std.proofs.Common.{◌≡◌, ℕ, suc, ◌+◌, ◌-◌, ◌*◌, ◌/◌, ◌<◌, ◌≤◌, Bool, true, false, not, ◌&&◌, if◌then◌else◌, List, length, refl, sym, ap, ◌∙◌, subst, arith}
use Rattle.std.specs.Prelude.{Option, Some, None, Ok, Err}
use Rattle.adpcm_nums.proofs.FirstLaws.{first_where-is, first_alone}
use Rattle.brr_machine.specs.Brr.{brr, brr_step}
use Rattle.spu_machine.specs.Spu.{spu, spu_step}
use Rattle.player_model.specs.declared.fault.TrackFault.TheVariants.{BadAgain}
use Rattle.player_model.specs.BrrFormat.{brr_format}
use Rattle.player_model.specs.BrrTrack.{track_from, track_of}
use Rattle.player_model.specs.SpuFormat.{spu_format}
use Rattle.player_model.specs.SpuTrack.{spu_track_of}
use Rattle.player_model.specs.Track.{Track, whole_blocks, ends_at, repeats_at, end_block, is_block}
use Rattle.player_model.proofs.BrrWalks.{register_stays, walked}
use Rattle.decompile_core.proofs.EntrySteps.{spu_track_is}
use Rattle.decompile_core.proofs.Settling.{Shifts}
use Rattle.decompile_core.proofs.Ways.{IsWay, way_of}

pub brr_shifts : Shifts brr
unfolding brr_step
brr_shifts head place symbol at = refl

pub spu_shifts : Shifts spu
unfolding spu_step
spu_shifts head place symbol at = refl

room-for : (len start last : ℕ) → last < (len - start) / 9 → start + 9 * suc last ≤ len
room-for len start last h = omega arith

held : (b c : Bool) → (b && not c) ≡ false → b ≡ true → c ≡ true
held true true e h = refl
held true false e h = sym e
held false c e h = absurd (let f : false ≡ true = h in cc)

walk-way : (memory : List ℕ) (start again last : ℕ) → end_block brr_format memory start ≡ Some last
    → (repeats_at brr_format memory start last && not (is_block brr_format start (suc last) again)) ≡ false → IsWay brr_format (walked memory start again (suc last))
walk-way memory start again last end fine =
    let first = first_where-is (ends_at brr_format memory start) (whole_blocks brr_format memory start) last end in
    let one : suc last - 1 ≡ last = omega arith in
    record {
      some = omega arith;
      fits = room-for (length memory) start last first.within;
      ends = first_alone (ends_at brr_format memory start) (whole_blocks brr_format memory start) last first;
      returns = λ repeats. ap (is_block brr_format start (suc last)) (register_stays (walked memory start again (suc last)))
          ∙ held _ _ fine (ap (repeats_at brr_format memory start) (sym one) ∙ repeats);
    }

unless-bad : (memory : List ℕ) (start again last : ℕ) (bad : Bool) (t : Track) → end_block brr_format memory start ≡ Some last
    → (repeats_at brr_format memory start last && not (is_block brr_format start (suc last) again)) ≡ bad
    → (if bad then Err (BadAgain again) else Ok (walked memory start again (suc last))) ≡ Ok t → IsWay brr_format t
unless-bad memory start again last true t end test found = absurd (let e : Err (BadAgain again) ≡ Ok t = found in cc)
unless-bad memory start again last false t end test found =
    let same : walked memory start again (suc last) ≡ t = cc in subst (IsWay brr_format) same (walk-way memory start again last end test)

from-end : (memory : List ℕ) (start again : ℕ) (end : Option ℕ) (t : Track) → end_block brr_format memory start ≡ end → track_from memory start again end ≡ Ok t → IsWay brr_format t
from-end memory start again None t is found = absurd (let e : Err _ ≡ Ok t = found in cc)
from-end memory start again (Some last) t is found = unless-bad memory start again last _ t is refl found

pub brr_way : (memory : List ℕ) (start again : ℕ) (t : Track) → track_of memory start again ≡ Ok t → IsWay brr_format t
unfolding track_of
brr_way memory start again t found = from-end memory start again (end_block brr_format memory start) t refl found

pub spu_way : (bytes : List ℕ) (t : Track) → spu_track_of bytes ≡ Ok t → IsWay spu_format t
spu_way bytes t found = way_of spu spu_format t (spu_track_is bytes t found).track
