-- How a player of IMA ADPCM goes on.
use Rattle.std.proofs.Common.{◌≡◌, ℕ, suc, ◌+◌, ◌<◌, ◌≤◌, refl, ap, sym, ◌∙◌, arith, subst, true, false, IsTrue, inl, inr}
use Rattle.std.specs.Prelude.{pos, ◌==◌, if◌then◌else◌, min, Option, Some, None, IfSome}
use Rattle.std.proofs.lemmas.Bool.{cases_lt, cases_Bool, eqb-true, eqb-false}
use Rattle.std.proofs.Math.Nat.{min-eq_left, min-eq_right, min-le_left, min-le_right}
use Rattle.adpcm_nums.specs.declared.loop_at.LoopAt.{LoopAt}
use Rattle.adpcm_nums.specs.Round.{round_place}
use Rattle.adpcm_nums.proofs.RoundLaws.{round_place-within, round_place-over, round_place-le, round_place-next, round_place-end}
use Rattle.machine_core.specs.declared.state.State.{State}
use Rattle.machine_core.specs.Blocks.{step_at}
use Rattle.ima_machine.specs.Ima.{is_ima_state}
use Rattle.player_model.specs.declared.ima_player.FramePosition.{FramePosition}
use Rattle.player_model.specs.ImaTrack.{ImaSound, IsImaTrack, decoder_of, list_of, heard_ima}
use Rattle.player_model.specs.ImaPlayer.{HasPlayedIma, IsKept, place_at, state_before, kept_after, frame_moved}
use Rattle.player_model.proofs.ImaWalks.{heard_frame, heard_silent_frame}

-- the lesser of two numbers, where it is below the second
below-is : (a b x : ℕ) → x ≡ min a b → x < b → x ≡ a
below-is a b x e h = elim (cases_lt a b) [
  | inl less ↦ e ∙ min-eq_left (omega arith)
  | inr more ↦ absurd (let top : min a b ≡ b = min-eq_right more in omega (arith, e, top, h))
]

at-least : (a b x : ℕ) → x ≡ min a b → x ≡ b → b ≤ a
at-least a b x e f = let le = min-le_left a b in omega (arith, e, f, le)

-- a loop's points lie in order and in the sound
pub record IsLoopOf (t : ImaSound) (points : LoopAt) : Type 0 where
  pub ordered : points.start ≤ points.end
  pub within : points.end < t.frames

loop-of : (t : ImaSound) (points : LoopAt) → IsImaTrack t → t.loop_at ≡ Some points → IsLoopOf t points
loop-of t points is e = record {
  ordered = subst (λ (o : Option LoopAt). IfSome o (λ at. at.start ≤ at.end)) e is.sound.loop_ordered;
  within = subst (λ (o : Option LoopAt). IfSome o (λ at. at.end < t.frames)) e is.sound.loop_within;
}

-- the frame of a loop
round-small : (t : ImaSound) (points : LoopAt) (i : ℕ) → IsLoopOf t points → min (round_place points i) t.frames ≡ round_place points i
round-small t points i is =
    let ordered = is.ordered in let within = is.within in
    let le = round_place-le points i ordered in
    min-eq_left (omega (arith, le, within))

-- the loop's first frame is at or before every count at whose place the player stands behind it
begun : (points : LoopAt) (count : ℕ) → points.start ≤ points.end → round_place points count ≡ points.end → points.start ≤ count
begun points count ordered last = elim (cases_lt points.end count) [
  | inl over ↦ omega (arith, over, ordered)
  | inr within ↦ (let here = round_place-within points count within in omega (arith, here, last, ordered))
]

-- what is known of the state before the loop's first frame
kept-is : (t : ImaSound) (points : LoopAt) (at : FramePosition) (count : ℕ) → IsLoopOf t points → at.frame ≡ round_place points count → at.history ≡ state_before t at.frame
    → IsKept t (Some points) count at.kept → points.start < suc count → kept_after points at ≡ state_before t points.start
kept-is t points at count is frame_is history_is kept begins = elim (cases_Bool (at.frame == points.start)) [
  | inl here ↦ rw here (history_is ∙ ap (state_before t) (eqb-true _ _ here))
  | inr other ↦ (let differs = eqb-false _ _ other in
      let ordered = is.ordered in
      let later : points.start < count = elim (cases_lt points.start count) [
        | inl less ↦ less
        | inr more ↦ absurd (let within : count ≤ points.end = omega (arith, more, ordered) in
            let same = round_place-within points count within in
            differs (omega (arith, frame_is, same, more, begins)))
      ] in
      rw other (kept later))
]

-- where a player stands after a frame, in a track with or without a loop
pub record GoesOn (t : ImaSound) (looped : Option LoopAt) (at : FramePosition) (count : ℕ) : Type 0 where
  pub frame_is : at.frame ≡ min (place_at looped count) t.frames
  pub history_is : at.history ≡ state_before t at.frame
  pub kept_is : IsKept t looped count at.kept

goes-on : (t : ImaSound) (looped : Option LoopAt) (at : FramePosition) (after : State) (count : ℕ) → IsImaTrack t → t.loop_at ≡ looped → GoesOn t looped at count → at.frame < t.frames
    → after ≡ step_at (decoder_of t) (list_of t) at.frame at.history → GoesOn t looped (frame_moved looped at after) (suc count)
goes-on t None at after count is e g within steps =
    let here = below-is count t.frames at.frame g.frame_is within in
    record {
      frame_is = ap suc here ∙ sym (min-eq_left (omega (arith, here, within)));
      history_is = steps ∙ ap (step_at (decoder_of t) (list_of t) at.frame) g.history_is;
      kept_is = tt;
    }
goes-on t (Some points) at after count is e g within steps =
    let looped = loop-of t points is e in
    let ordered = looped.ordered in
    let here = g.frame_is ∙ round-small t points count looped in
    let kept = kept-is t points at count looped here g.history_is g.kept_is in
    let le = round_place-le points count ordered in
    elim (cases_Bool (at.frame == points.end)) [
      | inl last ↦ (let end : round_place points count ≡ points.end = sym here ∙ eqb-true _ _ last in
          let begins = begun points count ordered end in
          rw last (record {
            frame_is = sym (round_place-end points count ordered end) ∙ sym (round-small t points (suc count) looped);
            history_is = kept (omega (arith, begins));
            kept_is = kept;
          }))
      | inr other ↦ (let differs = eqb-false _ _ other in
          let below : round_place points count < points.end = elim (cases_lt (round_place points count) points.end) [
            | inl less ↦ less
            | inr more ↦ absurd (differs (omega (arith, here, le, more)))
          ] in
          rw other (record {
            frame_is = ap suc here ∙ sym (round_place-next points count ordered below) ∙ sym (round-small t points (suc count) looped);
            history_is = steps ∙ ap (step_at (decoder_of t) (list_of t) at.frame) g.history_is;
            kept_is = kept;
          }))
    ]

kept-fits : (points : LoopAt) (at : FramePosition) → IsTrue (is_ima_state at.history) → IsTrue (is_ima_state at.kept) → IsTrue (is_ima_state (kept_after points at))
kept-fits points at h k = elim (cases_Bool (at.frame == points.start)) [ inl y ↦ rw y h | inr n ↦ rw n k ]

-- its states are states
moved-fits : (looped : Option LoopAt) (at : FramePosition) (after : State) → IsTrue (is_ima_state at.history) → IsTrue (is_ima_state at.kept) → IsTrue (is_ima_state after)
    → IsTrue (is_ima_state (frame_moved looped at after).history) × IsTrue (is_ima_state (frame_moved looped at after).kept)
moved-fits None at after h k a = (a, k)
moved-fits (Some points) at after h k a =
    let kept = kept-fits points at h k in
    elim (cases_Bool (at.frame == points.end)) [ inl y ↦ rw y (kept, kept) | inr n ↦ rw n (a, kept) ]

-- a player that gave one output more stands where it has to
pub plays_frame : (t : ImaSound) (at next : FramePosition) (after : State) (count : ℕ) → HasPlayedIma t at count → at.frame < t.frames → IsTrue (is_ima_state after)
    → after ≡ step_at (decoder_of t) (list_of t) at.frame at.history → next ≡ frame_moved t.loop_at at after → HasPlayedIma t next (count + 1)
plays_frame t at next after count is within fits steps moves =
    let on = goes-on t t.loop_at at after count is.track_is refl (record { frame_is = is.frame_is; history_is = is.history_is; kept_is = is.kept_is }) within steps in
    let fit = moved-fits t.loop_at at after is.history_fits is.kept_fits fits in
    let more : suc count ≡ count + 1 = omega arith in
    let played : HasPlayedIma t (frame_moved t.loop_at at after) (suc count) = record {
      track_is = is.track_is;
      frame_is = on.frame_is;
      history_is = on.history_is;
      kept_is = on.kept_is;
      history_fits = fit.0;
      kept_fits = fit.1;
    } in
    subst (λ (p : FramePosition). HasPlayedIma t p (count + 1)) (sym moves) (subst (λ (n : ℕ). HasPlayedIma t (frame_moved t.loop_at at after) n) more played)

-- what it gives is what is heard
pub heard_next : (t : ImaSound) (at : FramePosition) (after : State) (count : ℕ) → HasPlayedIma t at count → at.frame < t.frames
    → after ≡ step_at (decoder_of t) (list_of t) at.frame at.history → after.a ≡ heard_ima t count
heard_next t at after count is within steps =
    let here = below-is (place_at t.loop_at count) t.frames at.frame is.frame_is within in
    ap (λ (s : State). s.a) (steps ∙ ap (step_at (decoder_of t) (list_of t) at.frame) is.history_is) ∙ sym (heard_frame t count at.frame here within)

-- and behind the last frame that is silence
pub heard_behind : (t : ImaSound) (at : FramePosition) (count : ℕ) → HasPlayedIma t at count → at.frame ≡ t.frames → pos 0 ≡ heard_ima t count
heard_behind t at count is behind = sym (heard_silent_frame t count (place_at t.loop_at count) refl (at-least (place_at t.loop_at count) t.frames at.frame is.frame_is behind))

-- a player stands before the end
pub not_behind : (t : ImaSound) (at : FramePosition) (count : ℕ) → HasPlayedIma t at count → (at.frame ≡ t.frames → ⊥) → at.frame < t.frames
not_behind t at count is differs = let le = min-le_right (place_at t.loop_at count) t.frames in let same = is.frame_is in omega (arith, le, same, differs)
