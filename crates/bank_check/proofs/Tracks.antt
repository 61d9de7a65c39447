-- The list of a track, as its file is read.
use Rattle.std.proofs.Common.{◌≡◌, ℕ, suc, ◌+◌, ◌*◌, ◌/◌, ◌%◌, ◌<◌, ◌≤◌, Bool, true, false, List, length, refl, ap, sym, ◌∙◌, subst, arith, Ok, Err, inl, inr, add-one}
use Rattle.std.specs.Prelude.{not, ◌&&◌, Result, Option, Some, None}
use Rattle.std.proofs.lemmas.Bool.{cases_Bool, cond-true, cond-false}
use Rattle.std.proofs.lemmas.List.FromFn.{length-map-range_with_len, get_or-map-range_with_len}
use Rattle.std.proofs.Math.Nat.{mod-lt}
use Rattle.adpcm_nums.specs.Outcome.{◌>>=◌}
use Rattle.machine_core.specs.declared.state.Kind.{Kind}
use Rattle.machine_core.specs.declared.state.Kind.TheVariants.{Brr, Spu}
use Rattle.machine_core.specs.Decoder.{Decoder}
use Rattle.machine_core.specs.Blocks.{Blocks, IsInRange, IsLegal, must_forget}
use Rattle.brr_machine.specs.Brr.{brr}
use Rattle.spu_machine.specs.Spu.{spu}
use Rattle.block_flags.specs.declared.split.Split.{Split}
use Rattle.block_flags.specs.declared.split.SplitFault.{SplitFault}
use Rattle.player_model.specs.declared.fault.TrackFault.{TrackFault}
use Rattle.player_model.specs.Format.{Format}
use Rattle.player_model.specs.FormatLaws.{AreBytes, IsStoredFormat}
use Rattle.player_model.specs.Stored.{blocks_in}
use Rattle.player_model.specs.Sound.{IsTrack}
use Rattle.player_model.specs.Track.{Track, loop_block_of, end_block, repeats_at, is_block}
use Rattle.player_model.specs.BrrFormat.{brr_format}
use Rattle.player_model.specs.BrrTrack.{track_of, track_from, closed_track}
use Rattle.player_model.specs.SpuFormat.{spu_format}
use Rattle.player_model.specs.SpuTrack.{spu_track_of, split_track, checked_track, bad_block, spu_split}
use Rattle.player_model.proofs.BrrWalks.{is_track, walked}
use Rattle.player_model.proofs.SpuWalks.{split-track, whole_track}
use Rattle.loop_fit.specs.declared.fitted.Fitted.{Fitted}
use Rattle.command_faults.specs.declared.input_fault.InputFault.{InputFault}
use Rattle.command_faults.specs.declared.input_fault.InputFault.TheVariants.{Track as OfTrack}
use Rattle.bank_check.specs.Shape.{flagged_shape}
use Rattle.bank_check.specs.Stored.{or_fault, track_list}
use Rattle.bank_check.specs.Errors.{error_in, where_shaped, brr_list, spu_list}
use Rattle.bank_check.proofs.Shaped.{same-list, shaped-ok, flagged-ok, flagged-legal}

-- whatever the bytes, blocks with heads of the decoder are a list that it has
pub in-range : (d : Decoder) (f : Format) (memory : List ℕ) (start blocks : ℕ) → IsStoredFormat d f → AreBytes memory → ((b : ℕ) → b < blocks → f.head_in memory (start + f.size * b) < d.heads)
    → IsInRange d blocks (blocks_in d f memory start blocks)
in-range d f memory start blocks laws bytes heads = record {
  head_count = length-map-range_with_len _ 0 blocks;
  symbol_count = length-map-range_with_len _ 0 (blocks * d.samples);
  heads_fit = λ b below. subst (λ (z : ℕ). z < d.heads) (sym (get_or-map-range_with_len (λ k. f.head_in memory (start + f.size * k)) 0 blocks b b 0 below (omega arith))) (heads b below);
  symbols_fit = λ i within. subst (λ (z : ℕ). z < d.symbols (i % d.samples))
      (sym (get_or-map-range_with_len (λ k. f.symbol_in memory (start + f.size * (k / d.samples)) (k % d.samples)) 0 (blocks * d.samples) i i 0 within (omega arith)))
      (laws.symbols_fit memory (start + f.size * (i / d.samples)) (i % d.samples) bytes (mod-lt i laws.forgets.some_samples));
}

-- a track of a memory from an address on
pub record IsTrackOf (d : Decoder) (f : Format) (memory : List ℕ) (start : ℕ) (t : Track) : Type 0 where
  pub memory_is : t.memory ≡ memory
  pub start_is : t.start ≡ start
  pub track : IsTrack d f t

implied : (a b : Bool) → (a && not b) ≡ false → a ≡ true → b ≡ true
implied true true e h = refl
implied true false e h = absurd (cc)
implied false b e h = absurd (cc)

brr-closed : (memory : List ℕ) (start again last : ℕ) (t : Track) → AreBytes memory → end_block brr_format memory start ≡ Some last → closed_track memory start again last ≡ Ok t → IsTrackOf brr brr_format memory start t
brr-closed memory start again last t bytes end e =
    let test = repeats_at brr_format memory start last && not (is_block brr_format start (suc last) again) in
    elim (cases_Bool test) [
      | inl bad ↦ absurd (let err = sym (cond-true test _ _ bad) ∙ e in cc)
      | inr good ↦ (
          let is : walked memory start again (suc last) ≡ t = (let ok = sym (cond-false test _ _ good) ∙ e in cc) in
          let track = is_track memory start again last bytes end (λ repeats. ap (λ n. is_block brr_format start n again) (add-one last) ∙ implied _ _ good repeats) in
          subst (IsTrackOf brr brr_format memory start) (ap (walked memory start again) (add-one last) ∙ is) (record { memory_is = refl; start_is = refl; track = track }))
    ]

brr-from : (memory : List ℕ) (start again : ℕ) (t : Track) (end : Option ℕ) → AreBytes memory → end_block brr_format memory start ≡ end → track_from memory start again end ≡ Ok t → IsTrackOf brr brr_format memory start t
brr-from memory start again t None bytes end e = absurd (cc)
brr-from memory start again t (Some last) bytes end e = brr-closed memory start again last t bytes end e

-- what is read at two addresses of a memory of BRR
pub brr-track : (memory : List ℕ) (start again : ℕ) (t : Track) → AreBytes memory → track_of memory start again ≡ Ok t → IsTrackOf brr brr_format memory start t
unfolding track_of
brr-track memory start again t bytes e = brr-from memory start again t (end_block brr_format memory start) bytes refl e

spu-checked : (bytes : List ℕ) (s : Split) (t : Track) (bad : Option ℕ) → spu_split bytes ≡ Ok s → bad_block bytes s.blocks ≡ bad → checked_track bytes s.blocks bad ≡ Ok t → IsTrackOf spu spu_format bytes 0 t
spu-checked bytes s t None split none e =
    let is : whole_track bytes s.blocks ≡ t = cc in
    subst (IsTrackOf spu spu_format bytes 0) is (record { memory_is = refl; start_is = refl; track = split-track bytes s split none })
spu-checked bytes s t (Some block) split some e = absurd (cc)

spu-from : (bytes : List ℕ) (t : Track) (split : Result Split SplitFault) → spu_split bytes ≡ split → split_track bytes split ≡ Ok t → IsTrackOf spu spu_format bytes 0 t
spu-from bytes t (Ok s) split e = spu-checked bytes s t (bad_block bytes s.blocks) split refl e
spu-from bytes t (Err f) split e = absurd (cc)

-- and of bytes of SPU-ADPCM
pub spu-track : (bytes : List ℕ) (t : Track) → spu_track_of bytes ≡ Ok t → IsTrackOf spu spu_format bytes 0 t
unfolding spu_track_of
spu-track bytes t e = spu-from bytes t (spu_split bytes) refl e

-- the numbers of a track as the code has them
pub record IsSeen (f : Format) (memory : List ℕ) (start blocks : ℕ) (looped : Option ℕ) (t : Track) : Type 0 where
  pub memory_is : t.memory ≡ memory
  pub start_is : t.start ≡ start
  pub blocks_are : blocks ≡ t.blocks
  pub loop_is : looped ≡ loop_block_of f t

abbrev told_with : Kind → Decoder → Format → Fitted → List ℕ → ℕ → ℕ → Option ℕ → Result ℕ InputFault
told_with kind d f fitted memory start blocks looped =
    error_in d fitted (where_shaped (flagged_shape d (must_forget kind fitted.loop_block) fitted blocks looped (blocks_in d f memory start blocks)) (blocks_in d f memory start blocks))

-- their error is that of the track's list
pub track-told : (kind : Kind) (d : Decoder) (f : Format) (fitted : Fitted) (memory : List ℕ) (start blocks : ℕ) (looped : Option ℕ) (t : Track) → IsSeen f memory start blocks looped t
    → told_with kind d f fitted memory start blocks looped ≡ error_in d fitted (track_list kind d f fitted t)
unfolding track_list
track-told kind d f fitted memory start blocks looped t is =
    ap (λ z. told_with kind d f fitted z start blocks looped) (sym is.memory_is) ∙ (ap (λ z. told_with kind d f fitted t.memory z blocks looped) (sym is.start_is)
    ∙ (ap (λ z. told_with kind d f fitted t.memory t.start z looped) is.blocks_are ∙ (ap (λ z. told_with kind d f fitted t.memory t.start t.blocks z) is.loop_is
    ∙ ap (error_in d fitted) (sym (same-list (flagged_shape d (must_forget kind fitted.loop_block) fitted t.blocks (loop_block_of f t) (blocks_in d f t.memory t.start t.blocks)) (blocks_in d f t.memory t.start t.blocks))))))

-- and that list is legal
pub track-legal : (kind : Kind) (d : Decoder) (f : Format) (fitted : Fitted) (memory : List ℕ) (start : ℕ) (t : Track) (list : Blocks) → IsStoredFormat d f → AreBytes memory → IsTrackOf d f memory start t
    → track_list kind d f fitted t ≡ Ok list → IsLegal d fitted.blocks (must_forget kind fitted.loop_block) list
unfolding track_list
track-legal kind d f fitted memory start t list laws bytes is e =
    let mine = blocks_in d f t.memory t.start t.blocks in
    let fixed = must_forget kind fitted.loop_block in
    let shaped = shaped-ok (flagged_shape d fixed fitted t.blocks (loop_block_of f t) mine) mine list (sym (same-list (flagged_shape d fixed fitted t.blocks (loop_block_of f t) mine) mine) ∙ e) in
    let range = in-range d f t.memory t.start t.blocks laws (subst AreBytes (sym is.memory_is) bytes) is.track.heads_fit in
    subst (λ (z : Blocks). IsLegal d fitted.blocks fixed z) shaped.2 (flagged-legal d fixed fitted t.blocks mine range (flagged-ok d fixed fitted t.blocks (loop_block_of f t) mine shaped.0 shaped.1))

pub brr-list-is : (memory : List ℕ) (start again : ℕ) (fitted : Fitted) (t : Track) → track_of memory start again ≡ Ok t → brr_list memory start again fitted ≡ track_list Brr brr brr_format fitted t
unfolding brr_list
brr-list-is memory start again fitted t e = ap (λ z. or_fault (λ f. OfTrack f) z >>= track_list Brr brr brr_format fitted) e

pub spu-list-is : (bytes : List ℕ) (fitted : Fitted) (t : Track) → spu_track_of bytes ≡ Ok t → spu_list bytes fitted ≡ track_list Spu spu spu_format fitted t
unfolding spu_list
spu-list-is bytes fitted t e = ap (λ z. or_fault (λ f. OfTrack f) z >>= track_list Spu spu spu_format fitted) e

pub brr-none : (memory : List ℕ) (start again : ℕ) (fitted : Fitted) (fault : TrackFault) → ◌≡◌ {A = Result Track TrackFault} (Err fault) (track_of memory start again)
    → ◌≡◌ {A = Result ℕ InputFault} (Err (OfTrack fault)) (error_in brr fitted (brr_list memory start again fitted))
unfolding brr_list
brr-none memory start again fitted fault e = ap (λ z. error_in brr fitted (or_fault (λ f. OfTrack f) z >>= track_list Brr brr brr_format fitted)) e

pub spu-none : (bytes : List ℕ) (fitted : Fitted) (fault : TrackFault) → ◌≡◌ {A = Result Track TrackFault} (Err fault) (spu_track_of bytes)
    → ◌≡◌ {A = Result ℕ InputFault} (Err (OfTrack fault)) (error_in spu fitted (spu_list bytes fitted))
unfolding spu_list
spu-none bytes fitted fault e = ap (λ z. error_in spu fitted (or_fault (λ f. OfTrack f) z >>= track_list Spu spu spu_format fitted)) e

-- its blocks lie in the memory
pub track-room : (d : Decoder) (f : Format) (memory : List ℕ) (start : ℕ) (t : Track) (blocks : ℕ) → IsTrackOf d f memory start t → blocks ≡ t.blocks → start + f.size * blocks ≤ length memory
track-room d f memory start t blocks is e =
    let fits = is.track.fits in
    let at : start + f.size * blocks ≡ t.start + f.size * t.blocks = ap (λ z. z + f.size * blocks) (sym is.start_is) ∙ ap (λ z. t.start + f.size * z) e in
    subst (λ (z : List ℕ). start + f.size * blocks ≤ length z) is.memory_is (omega (arith, fits, at))

-- and are a list that the decoder has
pub track-range : (d : Decoder) (f : Format) (memory : List ℕ) (start : ℕ) (t : Track) (blocks : ℕ) → IsStoredFormat d f → AreBytes memory → IsTrackOf d f memory start t → blocks ≡ t.blocks
    → IsInRange d blocks (blocks_in d f memory start blocks)
track-range d f memory start t blocks laws bytes is e =
    in-range d f memory start blocks laws bytes (λ b below.
    subst (λ (m : List ℕ). f.head_in m (start + f.size * b) < d.heads) is.memory_is
    (subst (λ (z : ℕ). f.head_in t.memory (z + f.size * b) < d.heads) is.start_is (is.track.heads_fit b (omega (arith, below, e)))))
