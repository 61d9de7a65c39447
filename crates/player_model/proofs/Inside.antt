-- A player of a track stays in its blocks.
use Rattle.std.proofs.Common.{◌≡◌, ℕ, suc, ◌+◌, ◌-◌, ◌/◌, inl, inr, false, refl, sym, ap, ◌∙◌, subst, arith}
use Rattle.std.specs.Prelude.{IsTrue}
use Rattle.std.proofs.lemmas.Bool.{cases_Bool, false≢true}
use Rattle.machine_core.specs.declared.state.State.{State}
use Rattle.machine_core.specs.Decoder.{Decoder, start}
use Rattle.block_flags.proofs.LastLaws.{last_none}
use Rattle.player_model.specs.declared.position.Position.{Position}
use Rattle.player_model.specs.Format.{Format, repeats}
use Rattle.player_model.specs.FormatLaws.{IsStoredFormat}
use Rattle.player_model.specs.Player.{sounded, moved, next_position, first_position}
use Rattle.player_model.specs.Track.{Track, starts_at, set_to, end_register}
use Rattle.player_model.specs.Sound.{IsTrack, IsInside, IsSound, HasPlayed, track_position}
use Rattle.player_model.proofs.Moving.{place-or-last, within-block, to-next-block, to-loop-block, to-silence, repeats-last, address-of-block}

-- after a sample the player is in a block again, or silent
pub moved_inside : (d : Decoder) (f : Format) (t : Track) (at : Position) → IsTrack d f t → IsInside d f t at → IsTrue (d.is_state (sounded d f t.memory at))
    → IsSound d f t (moved d f t.memory at)
moved_inside d f t at track inside range heard =
    elim (place-or-last at.place d.samples inside.here.place_fits) [
      | inl less ↦ record { block = inside.block; here = within-block d f t inside.block at inside.here less; history_fits = range }
      | inr last ↦ elim (place-or-last inside.block t.blocks inside.here.block_fits) [
        | inl more ↦ record { block = suc inside.block; here = to-next-block d f t inside.block at track inside.here last more; history_fits = range }
        | inr end ↦ elim (cases_Bool (repeats f t.memory at.address)) [
          | inl again ↦ (let there = address-of-block f t.start t.blocks (end_register f t) (track.returns (sym (repeats-last d f t inside.block at inside.here end) ∙ again)) in
              record { block = (end_register f t - t.start) / f.size; here = to-loop-block d f t inside.block _ at track inside.here last end there.0 there.1; history_fits = range })
          | inr once ↦ absurd (false≢true (sym heard ∙ to-silence d f t inside.block at track inside.here last end once))
        ]
      ]
    ]

-- at first it is in the first block
begins : (d : Decoder) (f : Format) (t : Track) → IsStoredFormat d f → IsTrack d f t → IsInside d f t (first_position t.start t.again start)
begins d f t laws track = record {
  block = 0;
  here = record {
    block_fits = track.some;
    address_is = omega arith;
    place_fits = laws.forgets.some_samples;
    again_is = inl (ap (set_to f t.start t.again) (sym (last_none (starts_at f t.memory t.start))));
  };
  history_fits = laws.start_fits;
}

-- the same for a track that is seen as another
pub begins_inside : (d : Decoder) (f : Format) (u t : Track) → u ≡ t → IsStoredFormat d f → IsTrack d f u → IsSound d f t (first_position u.start u.again start)
begins_inside d f u t same laws track sounds =
    subst (λ (v : Track). IsInside d f v (first_position u.start u.again start)) same (begins d f u laws track)

-- a player stays inside a track that is seen as another
pub stays_inside : (d : Decoder) (f : Format) (u t : Track) (at after : Position) (history : State) → u ≡ t → IsTrack d f u → IsInside d f t at
    → history ≡ sounded d f u.memory at → IsTrue (d.is_state history) → after ≡ moved d f u.memory at → IsSound d f t after
stays_inside d f u t at after history same track inside sounds range is =
    let seen : IsInside d f u at = subst (λ (v : Track). IsInside d f v at) (sym same) inside in
    let fits = subst (λ (s : State). IsTrue (d.is_state s)) sounds range in
    let moves = moved_inside d f u at track seen fits in
    let there : IsSound d f u after = subst (λ (p : Position). IsSound d f u p) (sym is) moves in
    subst (λ (v : Track). IsSound d f v after) same there

-- a player that sounds goes on
pub plays_on : (d : Decoder) (f : Format) (t : Track) (at after : Position) (count : ℕ) → HasPlayed d f t at count → at.muted ≡ false → after ≡ moved d f t.memory at
    → IsSound d f t after → HasPlayed d f t after (count + 1)
plays_on d f t at after count played sounds is inside =
    let next : moved d f t.memory at ≡ next_position d f t.memory at = rw sounds refl in
    let more : suc count ≡ count + 1 = omega arith in
    record {
      track_is = played.track_is;
      inside = inside;
      at_is = is ∙ next ∙ ap (next_position d f t.memory) played.at_is ∙ ap (track_position d f t) more;
    }
