-- A player that gives a list and then its loop for ever is taken apart into that list.
use Rattle.std.proofs.Common.{◌≡◌, ℕ, ◌+◌, ◌-◌, ◌*◌, ◌%◌, ◌<◌, ◌≤◌, true, List, length, get_or, refl, sym, ap, ◌∙◌, arith}
use Rattle.std.specs.Prelude.{ℤ, pos, ◌*ℤ◌, not, Option, Some, None, is_none, IfSome}
use Rattle.std.proofs.lemmas.Bool.Decides.{Decides-int_eq}
use Rattle.std.proofs.lemmas.List.FromFn.{fill_by_all}
use Rattle.std.proofs.Math.Nat.{add-mod_right, mod-eq_of_lt}
use Rattle.adpcm_nums.specs.Round.{round_of}
use Rattle.adpcm_nums.specs.declared.loop_at.LoopAt.{LoopAt}
use Rattle.adpcm_nums.proofs.FirstLaws.{first_found, none_at_zero, none_found}
use Rattle.adpcm_nums.proofs.RoundLaws.{round_place-within, round_place-over}
use Rattle.machine_core.specs.Decoder.{Decoder, start}
use Rattle.machine_core.specs.Blocks.{output_at}
use Rattle.player_model.specs.Format.{Format}
use Rattle.player_model.specs.Looped.{points_of, loop_points}
use Rattle.player_model.specs.ImaTrack.{ImaSound, decoder_of, list_of}
use Rattle.player_model.specs.Sound.{heard}
use Rattle.player_model.specs.Track.{Track, loop_block_of}
use Rattle.player_model.proofs.Passes.{points-ordered}
use Rattle.decompile_core.specs.declared.recovered.Recovered.{Recovered}
use Rattle.decompile_core.specs.Heard.{SoundsAs, first_pass}
use Rattle.decompile_core.specs.Playings.{differs, end_of, is_again, kept_samples, length_of, samples_of, settled, settles_at}
use Rattle.decompile_core.specs.Recovered.{playing_of, recovered_of, sound_recovered, stored_recovered, with_loop}
use Rattle.decompile_core.proofs.PlayingSteps.{scaled_cancels}
use Rattle.decompile_core.proofs.Settling.{points_whole}

-- a list that goes round gives its samples first, and those of the loop again behind it
first-round : (samples : List ℤ) (points : LoopAt) (i : ℕ) → i ≤ points.end → round_of samples (Some points) i ≡ get_or samples i (pos 0)
first-round samples points i within = ap (λ k. get_or samples k (pos 0)) (round_place-within points i within)

next-round : (samples : List ℤ) (points : LoopAt) (k : ℕ) → points.start ≤ points.end → k < length_of points
    → round_of samples (Some points) (points.start + length_of points + k) ≡ get_or samples (points.start + k) (pos 0)
next-round samples points k ordered within =
    let len = length_of points in
    let i = points.start + len + k in
    let over = round_place-over points i (omega (arith, ordered)) in
    let gone : i - points.start ≡ k + len = omega arith in
    let rest : (i - points.start) % len ≡ k = ap (λ x. x % len) gone ∙ add-mod_right k len ∙ mod-eq_of_lt within in
    ap (λ x. get_or samples x (pos 0)) (over ∙ ap (λ r. points.start + r) rest)

-- so playing 0 is given again
first-again : (scale : ℕ) (output : ℕ → ℤ) (samples : List ℤ) (points : LoopAt) → 0 < scale → points.start ≤ points.end → SoundsAs samples (Some points) scale output
    → settles_at output points 0 ≡ true
unfolding is_again
first-again scale output samples points some ordered sounds =
    let len = length_of points in
    let begin = points.start + 0 * len in
    ap (λ (o : Option ℕ). is_none o) (none_found (differs output begin len) len (λ k within.
    let here : begin + k ≡ points.start + k = omega arith in
    let next : begin + len + k ≡ points.start + len + k = omega arith in
    let inside : points.start + k ≤ points.end = omega (arith, ordered, within) in
    let same : output (points.start + k) ≡ output (points.start + len + k) = scaled_cancels scale _ _ some
    (sym (sounds (points.start + k)) ∙ first-round samples points (points.start + k) inside ∙ sym (next-round samples points k ordered within) ∙ sounds (points.start + len + k)) in
    ap not ((Decides-int_eq (output (begin + k)) (output (begin + len + k))).1 (ap output here ∙ same ∙ ap output (sym next)))))

settled-first : (output : ℕ → ℤ) (points : LoopAt) → settles_at output points 0 ≡ true → settled output points ≡ Some 0
unfolding settled
settled-first output points here = first_found (settles_at output points) 64 0 (omega arith) (none_at_zero (settles_at output points)) here

-- the samples of the first pass are the list
all-same : (scale : ℕ) (output : ℕ → ℤ) (samples : List ℤ) (n m : ℕ) → length samples ≡ m → n ≡ m → ((k : ℕ) → k < m → get_or samples k (pos 0) ≡ pos scale *ℤ output k) → samples_of scale output n ≡ samples
all-same scale output samples n m long same each =
    ap (samples_of scale output) same ∙ sym (fill_by_all (λ k. pos scale *ℤ output k) samples m (pos 0) long each)

first-playing : (points : LoopAt) → playing_of points 0 ≡ points
first-playing points =
    let a : points.start + 0 * length_of points ≡ points.start = omega arith in
    let b : points.end + 0 * length_of points ≡ points.end = omega arith in
    ap (λ x. record { start = x; end = points.end + 0 * length_of points }) a ∙ ap (λ y. record { start = points.start; end = y }) b

-- with a loop
loop-back : (scale : ℕ) (output : ℕ → ℤ) (first : List ℤ) (rate trailing : ℕ) (points : LoopAt) → 0 < scale → points.start ≤ points.end → length first ≡ points.end + 1 → SoundsAs first (Some points) scale output
    → with_loop rate (samples_of scale output (kept_samples points (settled output points))) points trailing (settled output points) ≡ first_pass rate first (Some points) trailing
loop-back scale output first rate trailing points some ordered long sounds =
    let F : Option ℕ → Recovered = λ o. with_loop rate (samples_of scale output (kept_samples points o)) points trailing o in
    let whole : end_of points 0 ≡ points.end + 1 = omega arith in
    let list : samples_of scale output (end_of points 0) ≡ first =
    all-same scale output first (end_of points 0) (points.end + 1) long whole (λ k h. sym (first-round first points k (omega (arith, h))) ∙ sounds k) in
    ap F (settled-first output points (first-again scale output first points some ordered sounds))
    ∙ ap (λ xs. with_loop rate xs points trailing (Some 0)) list
    ∙ ap (λ p. record { rate = rate; samples = first; loop_at = Some p; settles = (first_pass rate first (Some points) trailing).settles; trailing = trailing }) (first-playing points)

by-block : (d : Decoder) (rate trailing : ℕ) (output : ℕ → ℤ) (blocks : ℕ) (o : Option ℕ) (first : List ℤ) → 0 < d.scale → 0 < d.samples → IfSome o (λ l. l < blocks) → length first ≡ blocks * d.samples
    → SoundsAs first (loop_points d blocks o) d.scale output → recovered_of rate d.scale output (blocks * d.samples) (loop_points d blocks o) trailing ≡ first_pass rate first (loop_points d blocks o) trailing
unfolding recovered_of
by-block d rate trailing output blocks None first scaled some within long sounds =
    ap (λ xs. first_pass rate xs None trailing) (all-same d.scale output first (blocks * d.samples) (blocks * d.samples) long refl (λ k h. sounds k))
by-block d rate trailing output blocks (Some l) first scaled some within long sounds =
    let all = points_whole d blocks l some within in
    loop-back d.scale output first rate trailing (points_of d blocks l) scaled (points-ordered d blocks l some within) (long ∙ omega (arith, all)) sounds

-- what a track's player gives back
pub stored_back : (d : Decoder) (f : Format) (rate trailing : ℕ) (t : Track) (first : List ℤ) → 0 < d.scale → 0 < d.samples → IfSome (loop_block_of f t) (λ l. l < t.blocks) → length first ≡ t.blocks * d.samples
    → SoundsAs first (loop_points d t.blocks (loop_block_of f t)) d.scale (heard d f t) → stored_recovered d f rate trailing t ≡ first_pass rate first (loop_points d t.blocks (loop_block_of f t)) trailing
stored_back d f rate trailing t first scaled some within long sounds = by-block d rate trailing (heard d f t) t.blocks (loop_block_of f t) first scaled some within long sounds

-- and frames, into just those frames
pub frames_back : (rate : ℕ) (t : ImaSound) (first : List ℤ) → length first ≡ t.frames → ((k : ℕ) → k < t.frames → get_or first k (pos 0) ≡ output_at (decoder_of t) (list_of t) start k)
    → sound_recovered rate t.loop_at t ≡ first_pass rate first t.loop_at 0
frames_back rate t first long each =
    ap (λ xs. first_pass rate xs t.loop_at 0) (sym (fill_by_all (output_at (decoder_of t) (list_of t) start) first t.frames (pos 0) long each))
