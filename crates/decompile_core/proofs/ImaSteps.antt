-- The frames of a WAVE file of IMA ADPCM are samples, and are played one after another.
use Rattle.std.proofs.Common.{◌≡◌, ℕ, zero, suc, ◌+◌, ◌*◌, ◌/◌, ◌%◌, ◌<◌, List, [], ◌∷◌, ◌++◌, length, map, get_or, refl, sym, ap, ◌∙◌, subst, arith}
use Rattle.std.specs.Prelude.{ℤ, pos, negsuc, ◌+ℤ◌, ◌*ℤ◌, unsigned_abs, Option, Some, None, Ok, Err}
use Rattle.std.specs.List.{range_with_len}
use Rattle.std.proofs.lemmas.Int.{ints}
use Rattle.std.proofs.lemmas.List.Elements.{All-map}
use Rattle.std.proofs.lemmas.List.FromFn.{fill_by_all, get_or-range_with_len, length-map-range_with_len, length-range_with_len, map-range_with_len_more}
use Rattle.adpcm_nums.specs.Sample.{IsSample, AreSamples}
use Rattle.adpcm_nums.specs.Round.{round_of}
use Rattle.adpcm_nums.specs.declared.loop_at.LoopAt.{LoopAt}
use Rattle.adpcm_nums.proofs.ClampLaws.{clamped}
use Rattle.machine_core.specs.declared.state.State.{State}
use Rattle.machine_core.specs.Decoder.{start}
use Rattle.machine_core.specs.Blocks.{head_at, symbol_at, state_at, output_at}
use Rattle.ima_machine.specs.Steps.{difference_of}
use Rattle.ima_machine.specs.Ima.{ima_step, first_state, later_state, samples_in}
use Rattle.ima_machine.specs.Spelling.{word_of, symbol_in}
use Rattle.ima_machine.specs.Laws.Stepping.{step-first, step-later}
use Rattle.player_model.specs.declared.fault.TrackFault.{TrackFault}
use Rattle.player_model.specs.ImaTrack.{ImaSound, blocks_of, decoder_of, list_of, first_bad, first_outputs, head_fault_of, heard_ima, ima_track_of, track_unless}
use Rattle.player_model.specs.ImaPlayer.{PlayingIma}
use Rattle.player_model.proofs.ImaWalks.{symbol_here}
use Rattle.ima_wave.specs.declared.file.ImaFile.{ImaFile}
use Rattle.ima_wave.specs.Files.{IsImaFile}
use Rattle.decompile_core.specs.Decompiled.{frames_of}

word-small : (w : ℕ) → word_of w < 65536
word-small w = omega arith

first-sample : (head symbol : ℕ) → symbol < 65536 → IsSample (first_state head symbol).a
unfolding first_state
first-sample head symbol small = record { low = omega (arith, ints); high = omega (arith, ints) }

later-sample : (symbol : ℕ) (from : State) → IsSample (later_state symbol from).a
unfolding later_state
later-sample symbol from = clamped (from.a +ℤ difference_of (unsigned_abs from.b) symbol)

-- each output has 16 bits
step-sample : (head place symbol : ℕ) (from : State) → (place ≡ 0 → symbol < 65536) → IsSample (ima_step head place symbol from).a
step-sample head zero symbol from small = subst (λ (s : State). IsSample s.a) (sym (step-first head symbol from)) (first-sample head symbol (small refl))
step-sample head (suc place) symbol from small = subst (λ (s : State). IsSample s.a) (sym (step-later head (suc place) symbol from (omega arith))) (later-sample symbol from)

first-small : (memory : List ℕ) (address place : ℕ) → place ≡ 0 → symbol_in memory address place < 65536
first-small memory address zero first = word-small _
first-small memory address (suc place) first = absurd (omega (arith, first))

output-sample : (t : ImaSound) (i : ℕ) → i < blocks_of t * samples_in t.align → IsSample (output_at (decoder_of t) (list_of t) start i)
output-sample t i within =
    let n = samples_in t.align in
    step-sample (head_at (decoder_of t) (list_of t) i) (i % n) (symbol_at (list_of t) i) (state_at (decoder_of t) (list_of t) start i)
    (λ first. subst (λ (k : ℕ). k < 65536) (sym (symbol_here t i within)) (first-small t.bytes (0 + t.align * (i / n)) (i % n) first))

-- so have all frames of a file
pub frames_samples : (file : ImaFile) → IsImaFile file → AreSamples (first_outputs (frames_of file))
frames_samples file kept =
    let t = frames_of file in
    All-map IsSample (output_at (decoder_of t) (list_of t) start) (range_with_len 0 t.frames) (λ k d within.
    let here : get_or (range_with_len 0 t.frames) k d ≡ 0 + k = get_or-range_with_len 0 t.frames k d (omega (arith, length-range_with_len 0 t.frames, within)) in
    output-sample t (get_or (range_with_len 0 t.frames) k d) (omega (arith, here, length-range_with_len 0 t.frames, within, kept.frames)))

-- a track that was found is that of its parts
found-by : (t sound : ImaSound) (fault : Option TrackFault) → Ok t ≡ track_unless sound fault → t ≡ sound
found-by t sound None e = cc
found-by t sound (Some fault) e = cc

pub ima_found : (sound t : ImaSound) → Ok t ≡ ima_track_of sound → t ≡ sound
unfolding ima_track_of
ima_found sound t e = found-by t sound (head_fault_of sound.align sound.bytes (first_bad sound.align sound.bytes)) e

-- the frames of a sound without a loop are what is heard of it
pub heard_frames : (t : ImaSound) → t.loop_at ≡ None → map (heard_ima t) (range_with_len 0 t.frames) ≡ first_outputs t
heard_frames t once =
    sym (fill_by_all (heard_ima t) (first_outputs t) t.frames (pos 0) (length-map-range_with_len (output_at (decoder_of t) (list_of t) start) 0 t.frames)
    (λ k within. ap (λ (o : Option LoopAt). round_of (first_outputs t) o k) (sym once)))

-- one frame more
pub player_more : (p next : PlayingIma) (track : ImaSound) (n : ℕ) → p ≡ record { track = track; count = n } → next ≡ record { track = p.track; count = p.count + 1 } → next ≡ record { track = track; count = n + 1 }
player_more p next track n is on = on ∙ ap (λ (q : PlayingIma). record { track = q.track; count = q.count + 1 }) is

pub frames_more : (output : ℕ → ℤ) (before after : List ℤ) (y : ℤ) (n : ℕ) → before ≡ map output (range_with_len 0 n) → y ≡ output n → after ≡ before ++ y ∷ [] → after ≡ map output (range_with_len 0 (n + 1))
frames_more output before after y n played is pushed =
    pushed ∙ ap (λ xs. xs ++ y ∷ []) played ∙ ap (λ (x : ℤ). map output (range_with_len 0 n) ++ x ∷ []) is ∙ sym (map-range_with_len_more output 0 n n (omega arith))

-- an output is a sample as it stands
pub once_scaled : (x : ℤ) → pos 1 *ℤ x ≡ x
once_scaled (pos a) = omega (arith, ints)
once_scaled (negsuc a) = omega (arith, ints)

-- as many frames as there are
pub outputs_long : (t : ImaSound) → length (first_outputs t) ≡ t.frames
outputs_long t = length-map-range_with_len (output_at (decoder_of t) (list_of t) start) 0 t.frames

-- what is a track of some frames is one of any others of the same blocks
found-with : (sound other t : ImaSound) (fault : Option TrackFault) → track_unless sound fault ≡ Ok t → track_unless other fault ≡ Ok other
found-with sound other t None e = refl
found-with sound other t (Some fault) e = absurd (let g : Err fault ≡ Ok t = e in cc)

pub found_with : (sound t : ImaSound) (frames : ℕ) (points : Option LoopAt) → ima_track_of sound ≡ Ok t
    → ima_track_of (record { align = sound.align; bytes = sound.bytes; frames = frames; loop_at = points }) ≡ Ok (record { align = sound.align; bytes = sound.bytes; frames = frames; loop_at = points })
unfolding ima_track_of
found_with sound t frames points e =
    found-with sound (record { align = sound.align; bytes = sound.bytes; frames = frames; loop_at = points }) t (head_fault_of sound.align sound.bytes (first_bad sound.align sound.bytes)) e
