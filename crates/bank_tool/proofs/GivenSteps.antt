-- Samples that were compiled are given back, over plain variables.
use Rattle.std.proofs.Common.{◌≡◌, ◌≤◌, ◌<◌, ℕ, ◌+◌, ◌*◌, ◌-◌, ◌==◌, ℤ, pos, ◌*ℤ◌, List, [], ◌∷◌, length, drop, get_or, Bool, true, false, not, cond, nat_lt, refl, sym, ap, subst, ◌∙◌, arith, Option, Some, None, IfSome, Result, Ok, Err}
use Rattle.std.proofs.lemmas.Bool.{le-ltb, ltb-true, ltb-false}
use Rattle.std.proofs.lemmas.Int.{ints}
use Rattle.std.proofs.lemmas.List.FromFn.{get_or-map-range_with_len}
use Rattle.std.proofs.Math.Nat.{lt_of_mul-lt-mul_right}
use Rattle.adpcm_nums.specs.Outcome.{◌>>=◌}
use Rattle.adpcm_nums.proofs.OutcomeLaws.{went_on}
use Rattle.adpcm_nums.specs.Round.{round_of}
use Rattle.adpcm_nums.specs.declared.loop_at.LoopAt.{LoopAt}
use Rattle.machine_core.specs.declared.state.Kind.TheVariants.{Brr, Spu, Ima}
use Rattle.machine_core.specs.Decoder.{Decoder, start}
use Rattle.machine_core.specs.Blocks.{Blocks, output_at}
use Rattle.brr_machine.specs.Brr.{brr}
use Rattle.spu_machine.specs.Spu.{spu}
use Rattle.ima_machine.specs.Ima.{ima, samples_in}
use Rattle.ima_wave.specs.declared.fault.ImaWaveFault.{ImaWaveFault}
use Rattle.ima_wave.specs.declared.file.ImaFile.{ImaFile}
use Rattle.ima_wave.specs.Reading.{ima_of}
use Rattle.player_model.specs.declared.fault.TrackFault.{TrackFault}
use Rattle.player_model.specs.Format.{Format}
use Rattle.player_model.specs.BrrFormat.{brr_format}
use Rattle.player_model.specs.SpuFormat.{spu_format}
use Rattle.player_model.specs.SpuTrack.{spu_track_of}
use Rattle.player_model.specs.ImaTrack.{ImaSound, blocks_of, decoder_of, first_bad, head_fault_of, ima_track_of, list_of, track_unless}
use Rattle.player_model.specs.Looped.{loop_points, points_of}
use Rattle.player_model.specs.Sound.{heard}
use Rattle.player_model.specs.Track.{Track, loop_block_of}
use Rattle.loop_fit.specs.declared.fitted.Fitted.{Fitted}
use Rattle.loop_fit.specs.Fit.{IsWhole}
use Rattle.smpl_loops.specs.declared.fault.LoopFault.{LoopFault}
use Rattle.smpl_loops.specs.Loops.{first_loop_of, loop_in, loop_count, loop_kind, loop_start, loop_end}
use Rattle.wave_form.specs.declared.wave.Wave.{Wave}
use Rattle.wave_form.specs.Reading.{read_of}
use Rattle.snes_directory.specs.declared.image.Image.{Image}
use Rattle.snes_directory.specs.Header.{header_of, memory_place}
use Rattle.snes_directory.specs.Reading.{entries_of, image_of, image_with}
use Rattle.snes_directory.proofs.Images.{entries_of-are}
use Rattle.vag_writer.specs.declared.fault.VagFault.{VagFault}
use Rattle.vag_writer.specs.declared.vag.Vag.{Vag}
use Rattle.vag_writer.specs.Reading.{vag_of}
use Rattle.manifest_reader.specs.Stored.{first_pass_of, ima_name_of, vag_name_of}
use Rattle.bank_kinds.specs.Passes.{outputs_of}
use Rattle.bank_kinds.specs.Replay.{Entry, SampleReplays}
use Rattle.decompile_core.specs.declared.form.Form.TheVariants.{Brr as ImageForm, Vag as VagForm, Ima as WaveForm}
use Rattle.decompile_core.specs.declared.fault.DecompileFault.{DecompileFault}
use Rattle.decompile_core.specs.declared.fault.DecompileFault.TheVariants.{Vag as OfVag, Ima as OfIma, Track as OfTrack, TooMuch}
use Rattle.decompile_core.specs.declared.recovered.Recovered.{Recovered}
use Rattle.player_model.specs.Limit.{is_much}
use Rattle.decompile_core.specs.Recovered.{sound_recovered, stored_recovered}
use Rattle.snes_directory.specs.EntryTracks.{track_at}
use Rattle.decompile_core.specs.Decompiled.{decompiled, entry_of, frames_of, ima_in, ima_recovered, ima_track_in, only, or_refused, short_sound, short_track, vag_in, vag_recovered, vag_track}
use Rattle.decompile_core.specs.Heard.{AreEntries, IsShort, SoundsAs, first_pass, sound_of}
use Rattle.bank_tool.specs.GivenBack.{IsCompiledAt, IsFirstPass}

-- a loop that was read lies within the frames
loop_by : (b1 b2 b3 b4 b5 b6 : Bool) (e1 e3 e4 e5 e6 : LoopFault) (at points : LoopAt) → cond b1 (Err e1) (cond b2 (Ok None) (cond b3 (Err e3) (cond b4 (Err e4) (cond b5 (Err e5) (cond b6 (Err e6) (Ok (Some at))))))) ≡ Ok (Some points) → (b5 ≡ false) × (b6 ≡ false) × (at ≡ points)
loop_by true b2 b3 b4 b5 b6 e1 e3 e4 e5 e6 at points e = cc
loop_by false true b3 b4 b5 b6 e1 e3 e4 e5 e6 at points e = cc
loop_by false false true b4 b5 b6 e1 e3 e4 e5 e6 at points e = cc
loop_by false false false true b5 b6 e1 e3 e4 e5 e6 at points e = cc
loop_by false false false false true b6 e1 e3 e4 e5 e6 at points e = cc
loop_by false false false false false true e1 e3 e4 e5 e6 at points e = cc
loop_by false false false false false false e1 e3 e4 e5 e6 at points e = (refl, refl, (let same : at ≡ points = cc in same))

not_false : (b : Bool) → not b ≡ false → b ≡ true
not_false true e = refl
not_false false e = cc

loop_fits : (body : List ℕ) (frames : ℕ) (points : LoopAt) → loop_in body frames ≡ Ok (Some points) → (points.start ≤ points.end) × (points.end < frames)
unfolding loop_in
loop_fits body frames points e =
    let at : LoopAt = record { start = loop_start body; end = loop_end body } in
    let h = loop_by (nat_lt (length body) 36) (loop_count body == 0) (nat_lt (length body) 60) (not (loop_kind body == 0)) (nat_lt (loop_end body) (loop_start body)) (not (nat_lt (loop_end body) frames)) _ _ _ _ _ at points e in
    subst (λ (p : LoopAt). (p.start ≤ p.end) × (p.end < frames)) h.2
    (ltb-false (loop_end body) (loop_start body) h.0, ltb-true (loop_end body) frames (not_false (nat_lt (loop_end body) frames) h.1))

first_fits : (sampler : Option (List ℕ)) (frames : ℕ) (points : LoopAt) → first_loop_of sampler frames ≡ Ok (Some points) → (points.start ≤ points.end) × (points.end < frames)
first_fits None frames points e = cc
first_fits (Some body) frames points e = loop_fits body frames points e

-- so it begins at one of the blocks
block_within : (d : Decoder) (blocks : ℕ) (o : Option ℕ) (sampler : Option (List ℕ)) (frames : ℕ) → frames ≡ blocks * d.samples → first_loop_of sampler frames ≡ Ok (loop_points d blocks o) → IfSome o (λ l. l < blocks)
block_within d blocks None sampler frames e h = tt
block_within d blocks (Some l) sampler frames e h =
    let fits = first_fits sampler frames (points_of d blocks l) h in
    let before : l * d.samples < blocks * d.samples = omega (arith, e, fits.0, fits.1) in
    lt_of_mul-lt-mul_right d.samples before

-- how a track that sounds as a list is taken apart
abbrev pub GivesStored : Type 0
GivesStored = (d : Decoder) (f : Format) (rate trailing : ℕ) (t : Track) (first : List ℤ) → 0 < d.scale → 0 < d.samples → IfSome (loop_block_of f t) (λ l. l < t.blocks) → length first ≡ t.blocks * d.samples
    → SoundsAs first (loop_points d t.blocks (loop_block_of f t)) d.scale (heard d f t) → stored_recovered d f rate trailing t ≡ first_pass rate first (loop_points d t.blocks (loop_block_of f t)) trailing

-- a track that sounds as a first pass is taken apart into it
is_pass : (law : GivesStored) (d : Decoder) (f : Format) (rate trailing : ℕ) (t : Track) (first : List ℕ) (told : ℕ) (sound : Wave) (points : Option LoopAt) → 0 < d.scale → 0 < d.samples → rate ≡ told → loop_points d t.blocks (loop_block_of f t) ≡ points
    → read_of first None ≡ Ok sound → sound.rate ≡ told → length sound.samples ≡ t.blocks * d.samples → first_loop_of sound.sampler (length sound.samples) ≡ Ok points
    → ((i : ℕ) → pos d.scale *ℤ heard d f t i ≡ round_of sound.samples points i) → IsFirstPass first told (stored_recovered d f rate trailing t)
is_pass law d f rate trailing t first told sound points scale samples same looped read sound_rate len loop plays =
    let own : first_loop_of sound.sampler (length sound.samples) ≡ Ok (loop_points d t.blocks (loop_block_of f t)) = loop ∙ ap Ok (sym looped) in
    let is = law d f rate trailing t sound.samples scale samples (block_within d t.blocks (loop_block_of f t) sound.sampler (length sound.samples) len own) len
    (λ i. ap (λ (p : Option LoopAt). round_of sound.samples p i) looped ∙ sym (plays i)) in
    let with : ℕ → Wave = λ r. record { rate = r; samples = sound.samples; sampler = sound.sampler } in
    subst (IsFirstPass first told) (sym is) (record {
      rate_is = same;
      sound = record { sampler = sound.sampler; sound = read ∙ ap (λ r. Ok (with r)) (sound_rate ∙ sym same); loop_is = own };
      settles = refl;
    })

ok_is : {X E : Type 0} (a b : X) (r : Result X E) → r ≡ Ok a → r ≡ Ok b → a ≡ b
ok_is a b r e f = let same = sym e ∙ f in cc

-- what the entries of an image are
abbrev pub AreOfImage : Type 0
AreOfImage = (bytes : List ℕ) (image : Image) (entries : List Recovered) → image_of bytes ≡ Ok image → decompiled ImageForm bytes ≡ Ok entries → AreEntries image (length image.starts) entries

-- an image that was read has as many starts as rates
as_many : (bytes : List ℕ) (image : Image) → image_of bytes ≡ Ok image → length image.starts ≡ length image.rates
unfolding image_of
as_many bytes image e =
    let front : ℕ → List ℕ = λ count. drop (memory_place count) bytes in
    let header = went_on (header_of bytes) (λ header. entries_of bytes header.base (front header.entries) header.entries >>= λ entries. Ok (image_with header.base (front header.entries) entries)) image e in
    let memory = front header.0.entries in
    let entries = went_on (entries_of bytes header.0.base memory header.0.entries) (λ entries. Ok (image_with header.0.base memory entries)) image header.2 in
    let same : image_with header.0.base memory entries.0 ≡ image = ok_is _ _ _ refl entries.2 in
    let are = entries_of-are bytes header.0.base memory header.0.entries entries.0 entries.1 in
    subst (λ (i : Image). length i.starts ≡ length i.rates) same (omega (arith, are.rates, are.starts))

pub image_given : (gives : GivesStored) (are : AreOfImage) (block : ℕ) (content : List ℕ → List ℕ) (bank name : List ℕ) (j rate : ℕ) (fitted : Fitted) (error : ℕ) (entries : List Recovered) (other : Recovered)
    → SampleReplays Brr block content bank name j rate fitted error → decompiled ImageForm (content bank) ≡ Ok entries → IsFirstPass (content (first_pass_of bank name)) rate (get_or entries j other)
image_given gives are block content bank name j rate fitted error entries other sample h =
    let s = sample.stands in
    let r = sample.replays in
    let list = are (content bank) s.bank entries s.image_read h in
    let found : entry_of s.bank j ≡ Ok (stored_recovered brr brr_format (get_or s.bank.rates j 0) 0 s.track) =
    ap (λ (t : Result Track TrackFault). or_refused (λ f. OfTrack f) t >>= (λ track. Ok (stored_recovered brr brr_format (get_or s.bank.rates j 0) 0 track))) s.track_is in
    let same = ok_is _ _ (entry_of s.bank j) found (list.each j other (omega (arith, as_many (content bank) s.bank s.image_read, s.within))) in
    let blocks : s.track.blocks ≡ fitted.blocks = sym (ap (λ (e : Entry). e.blocks) s.entry_is) ∙ r.blocks_are in
    subst (IsFirstPass (content (first_pass_of bank name)) rate) same
    (is_pass gives brr brr_format (get_or s.bank.rates j 0) 0 s.track (content (first_pass_of bank name)) rate r.sound _ (omega arith) (omega arith)
    (sym (ap (λ (e : Entry). e.rate) s.entry_is) ∙ r.entry_rate) (sym (ap (λ (e : Entry). e.points) s.entry_is) ∙ r.loop_is)
    r.first_read r.first_rate (r.first_length ∙ ap (λ n. n * 16) (sym blocks)) r.first_loop
    (λ i. ap (λ (e : Entry). pos 2 *ℤ e.plays start i) (sym s.entry_is) ∙ r.plays start i))

-- what the entry of a VAG file is
abbrev pub IsOfVag : Type 0
IsOfVag = (bytes : List ℕ) (vag : Vag) (t : Track) → vag_of bytes ≡ Ok vag → spu_track_of vag.blocks ≡ Ok t → is_much t.blocks spu.samples ≡ false
    → decompiled VagForm bytes ≡ Ok (stored_recovered spu spu_format vag.rate (length vag.blocks - 16 * t.blocks) t ∷ [])

-- a file that is taken apart is not too long
much_by : {T : Type 0} (b : Bool) (t : T) (make : T → Recovered) (fault : DecompileFault) (entries : List Recovered) → only (cond b (Err fault) (Ok t) >>= (λ track. Ok (make track))) ≡ Ok entries → b ≡ false
much_by true t make fault entries e = cc
much_by false t make fault entries e = refl

vag_short : (bytes : List ℕ) (vag : Vag) (t : Track) (entries : List Recovered) → vag_of bytes ≡ Ok vag → spu_track_of vag.blocks ≡ Ok t → decompiled VagForm bytes ≡ Ok entries → is_much t.blocks spu.samples ≡ false
unfolding decompiled vag_recovered vag_in vag_track
vag_short bytes vag t entries v k e =
    let make : Vag → Track → Recovered = λ v t. stored_recovered spu spu_format v.rate (length v.blocks - 16 * t.blocks) t in
    let by_vag : Result Vag VagFault → Result (List Recovered) DecompileFault =
    λ r. only (or_refused (λ f. OfVag f) r >>= (λ v. (or_refused (λ f. OfTrack f) (spu_track_of v.blocks) >>= short_track) >>= (λ t. Ok (make v t)))) in
    let by_track : Result Track TrackFault → Result (List Recovered) DecompileFault =
    λ r. only ((or_refused (λ f. OfTrack f) r >>= short_track) >>= (λ t. Ok (make vag t))) in
    much_by (is_much t.blocks spu.samples) t (make vag) (TooMuch t.blocks) entries (sym (ap by_vag v ∙ ap by_track k) ∙ e)

pub vag_given : (gives : GivesStored) (is : IsOfVag) (block : ℕ) (content : List ℕ → List ℕ) (bank name : List ℕ) (j rate : ℕ) (fitted : Fitted) (error : ℕ) (entries : List Recovered) (other : Recovered)
    → SampleReplays Spu block content bank name j rate fitted error → decompiled VagForm (content (vag_name_of bank name)) ≡ Ok entries → IsFirstPass (content (first_pass_of bank name)) rate (get_or entries 0 other)
vag_given gives is block content bank name j rate fitted error entries other sample h =
    let s = sample.stands in
    let r = sample.replays in
    let file = content (vag_name_of bank name) in
    let made = is file s.vag s.track s.vag_read s.track_is (vag_short file s.vag s.track entries s.vag_read s.track_is h) in
    let list = ok_is _ _ (decompiled VagForm file) made h in
    let blocks : s.track.blocks ≡ fitted.blocks = sym (ap (λ (e : Entry). e.blocks) s.entry_is) ∙ r.blocks_are in
    subst (λ (es : List Recovered). IsFirstPass (content (first_pass_of bank name)) rate (get_or es 0 other)) list
    (is_pass gives spu spu_format s.vag.rate _ s.track (content (first_pass_of bank name)) rate r.sound _ (omega arith) (omega arith)
    (sym (ap (λ (e : Entry). e.rate) s.entry_is) ∙ r.entry_rate) (sym (ap (λ (e : Entry). e.points) s.entry_is) ∙ r.loop_is)
    r.first_read r.first_rate (r.first_length ∙ ap (λ n. n * 28) (sym blocks)) r.first_loop
    (λ i. ap (λ (e : Entry). pos 1 *ℤ e.plays start i) (sym s.entry_is) ∙ r.plays start i))

-- a track of frames is found with a loop and without it
tracks_at : (o : Option TrackFault) (a b t : ImaSound) → track_unless a o ≡ Ok t → (a ≡ t) × (track_unless b o ≡ Ok b)
tracks_at None a b t e = ((let same : a ≡ t = cc in same), refl)
tracks_at (Some fault) a b t e = cc

both_found : (said : ImaFile) (t : ImaSound) → ima_track_of (sound_of said) ≡ Ok t → (sound_of said ≡ t) × (ima_track_of (frames_of said) ≡ Ok (frames_of said))
unfolding ima_track_of
both_found said t e = tracks_at (head_fault_of said.align said.blocks (first_bad said.align said.blocks)) (sound_of said) (frames_of said) t e

frames_short : (bytes : List ℕ) (said : ImaFile) (entries : List Recovered) → ima_of bytes ≡ Ok said → ima_track_of (frames_of said) ≡ Ok (frames_of said) → decompiled WaveForm bytes ≡ Ok entries → is_much (blocks_of (frames_of said)) (samples_in said.align) ≡ false
unfolding decompiled ima_recovered ima_in ima_track_in
frames_short bytes said entries v k e =
    let make : ImaFile → ImaSound → Recovered = λ file t. sound_recovered file.rate file.at t in
    let by_file : Result ImaFile ImaWaveFault → Result (List Recovered) DecompileFault =
    λ r. only (or_refused (λ f. OfIma f) r >>= (λ file. (or_refused (λ f. OfTrack f) (ima_track_of (frames_of file)) >>= short_sound (samples_in file.align)) >>= (λ t. Ok (make file t)))) in
    let by_track : Result ImaSound TrackFault → Result (List Recovered) DecompileFault =
    λ r. only ((or_refused (λ f. OfTrack f) r >>= short_sound (samples_in said.align)) >>= (λ t. Ok (make said t))) in
    much_by (is_much (blocks_of (frames_of said)) (samples_in said.align)) (frames_of said) (make said) (TooMuch (blocks_of (frames_of said))) entries (sym (ap by_file v ∙ ap by_track k) ∙ e)

-- what the entry of a WAVE file of IMA ADPCM is
abbrev pub IsOfIma : Type 0
IsOfIma = (bytes : List ℕ) (file : ImaFile) (t : ImaSound) → ima_of bytes ≡ Ok file → ima_track_of (sound_of file) ≡ Ok t → is_much (blocks_of t) (samples_in file.align) ≡ false
    → decompiled WaveForm bytes ≡ Ok (sound_recovered file.rate file.at t ∷ [])

abbrev pub GivesFrames : Type 0
GivesFrames = (rate : ℕ) (t : ImaSound) (first : List ℤ) → length first ≡ t.frames → ((k : ℕ) → k < t.frames → get_or first k (pos 0) ≡ output_at (decoder_of t) (list_of t) start k) → sound_recovered rate t.loop_at t ≡ first_pass rate first t.loop_at 0

one_is : (x : ℤ) → pos 1 *ℤ x ≡ x
one_is x = omega (arith, ints)

-- output k of the first ones
output_here : (d : Decoder) (list : Blocks) (n k : ℕ) (other : ℤ) → d.scale ≡ 1 → k < n → get_or (outputs_of d list n) k other ≡ output_at d list start k
output_here d list n k other one within =
    get_or-map-range_with_len (λ i. pos d.scale *ℤ output_at d list start i) 0 n k k other within (let e : 0 + k ≡ k = omega arith in e)
    ∙ ap (λ (m : ℕ). pos m *ℤ output_at d list start k) one
    ∙ one_is (output_at d list start k)

frames_pass : (law : GivesFrames) (rate : ℕ) (t : ImaSound) (first : List ℕ) (told : ℕ) (sound : Wave) (points : Option LoopAt) → rate ≡ told → t.loop_at ≡ points → read_of first None ≡ Ok sound → sound.rate ≡ told → length sound.samples ≡ t.frames
    → first_loop_of sound.sampler (length sound.samples) ≡ Ok points → ((k : ℕ) → k < t.frames → get_or sound.samples k (pos 0) ≡ output_at (decoder_of t) (list_of t) start k) → IsFirstPass first told (sound_recovered rate t.loop_at t)
frames_pass law rate t first told sound points same looped read sound_rate len loop outputs =
    let with : ℕ → Wave = λ r. record { rate = r; samples = sound.samples; sampler = sound.sampler } in
    subst (IsFirstPass first told) (sym (law rate t sound.samples len outputs)) (record {
      rate_is = same;
      sound = record { sampler = sound.sampler; sound = read ∙ ap (λ r. Ok (with r)) (sound_rate ∙ sym same); loop_is = loop ∙ ap Ok (sym looped) };
      settles = refl;
    })

pub ima_given : (gives : GivesFrames) (is : IsOfIma) (block : ℕ) (content : List ℕ → List ℕ) (bank name : List ℕ) (j rate : ℕ) (fitted : Fitted) (error : ℕ) (entries : List Recovered) (other : Recovered)
    → SampleReplays Ima block content bank name j rate fitted error → decompiled WaveForm (content (ima_name_of bank name)) ≡ Ok entries
    → IsFirstPass (content (first_pass_of bank name)) rate (get_or entries 0 other)
ima_given gives is block content bank name j rate fitted error entries other sample h =
    let s = sample.stands in
    let r = sample.replays in
    let file = content (ima_name_of bank name) in
    let found = both_found s.said s.track s.track_is in
    let few = frames_short file s.said entries s.file_read found.1 h in
    let much : is_much (blocks_of s.track) (samples_in s.said.align) ≡ false = ap (λ (t : ImaSound). is_much (blocks_of t) (samples_in s.said.align)) (sym found.0) ∙ few in
    let list = ok_is _ _ (decompiled WaveForm file) (is file s.said s.track s.file_read s.track_is much) h in
    let counted : s.track.frames ≡ fitted.frames = sym (ap (λ (t : ImaSound). t.frames) found.0) ∙ s.frames_are in
    let sized : block ≡ s.track.align = sym s.align_is ∙ ap (λ (t : ImaSound). t.align) found.0 in
    let looped : s.track.loop_at ≡ s.said.at = sym (ap (λ (t : ImaSound). t.loop_at) found.0) in
    let outputs : (k : ℕ) → k < s.track.frames → get_or r.sound.samples k (pos 0) ≡ output_at (decoder_of s.track) (list_of s.track) start k = λ k within.
    ap (λ (xs : List ℤ). get_or xs k (pos 0)) r.first_is
    ∙ output_here (ima (samples_in block)) sample.entry.list fitted.frames k (pos 0) refl (omega (arith, within, counted))
    ∙ ap (λ (e : Entry). output_at (ima (samples_in block)) e.list start k) s.entry_is
    ∙ ap (λ n. output_at (ima (samples_in n)) (list_of s.track) start k) sized in
    subst (λ (es : List Recovered). IsFirstPass (content (first_pass_of bank name)) rate (get_or es 0 other)) list
    (subst (λ (at : Option LoopAt). IsFirstPass (content (first_pass_of bank name)) rate (sound_recovered s.said.rate at s.track)) looped
    (frames_pass gives s.said.rate s.track (content (first_pass_of bank name)) rate r.sound _
    (sym (ap (λ (e : Entry). e.rate) s.entry_is) ∙ r.entry_rate) (sym (ap (λ (e : Entry). e.points) s.entry_is) ∙ r.loop_is)
    r.first_read r.first_rate (r.first_length ∙ sym counted) r.first_loop outputs))

-- so many blocks are not too many
whole_few : (blocks samples : ℕ) (fitted : Fitted) → blocks ≡ fitted.blocks → IsWhole samples fitted → is_much blocks samples ≡ false
whole_few blocks samples fitted same whole =
    let few : nat_lt 4096 fitted.blocks ≡ false = le-ltb 4096 fitted.blocks whole.few in
    let small : fitted.blocks * samples ≤ 262144 = omega (arith, whole.count, whole.small) in
    let less : nat_lt 262144 (fitted.blocks * samples) ≡ false = le-ltb 262144 (fitted.blocks * samples) small in
    rw (same, few, less) refl

-- when an image of BRR is taken apart
abbrev pub ImageComes : Type 0
ImageComes = (bytes : List ℕ) (image : Image) → image_of bytes ≡ Ok image → ((j : ℕ) → j < length image.starts → IsShort image j) → (entries : List Recovered) × (decompiled ImageForm bytes ≡ Ok entries)

short_at : (block : ℕ) (content : List ℕ → List ℕ) (bank : List ℕ) (image : Image) (j : ℕ) → image_of (content bank) ≡ Ok image → IsCompiledAt Brr block content bank j → IsShort image j
short_at block content bank image j read sample =
    let s = sample.replays.stands in
    let one : s.bank ≡ image = ok_is _ _ (image_of (content bank)) s.image_read read in
    record {
      track = s.track;
      track_is = ap (λ (i : Image). track_at i j) (sym one) ∙ s.track_is;
      few = whole_few s.track.blocks 16 sample.fitted (sym (ap (λ (e : Entry). e.blocks) s.entry_is) ∙ sample.replays.replays.blocks_are) sample.whole;
    }

pub image_comes : (comes : ImageComes) (are : AreOfImage) (block : ℕ) (content : List ℕ → List ℕ) (bank : List ℕ) (image : Image) → image_of (content bank) ≡ Ok image → ((j : ℕ) → j < length image.starts → IsCompiledAt Brr block content bank j)
    → (entries : List Recovered) × (decompiled ImageForm (content bank) ≡ Ok entries) × (length entries ≡ length image.starts)
image_comes comes are block content bank image read each =
    let got = comes (content bank) image read (λ j within. short_at block content bank image j read (each j within)) in
    (got.0, got.1, (are (content bank) image got.0 read got.1).count)

pub vag_comes : (is : IsOfVag) (block : ℕ) (content : List ℕ → List ℕ) (bank : List ℕ) (j : ℕ) (sample : IsCompiledAt Spu block content bank j)
    → (entries : List Recovered) × (decompiled VagForm (content (vag_name_of bank sample.name)) ≡ Ok entries) × (length entries ≡ 1)
vag_comes is block content bank j sample =
    let s = sample.replays.stands in
    let few = whole_few s.track.blocks 28 sample.fitted (sym (ap (λ (e : Entry). e.blocks) s.entry_is) ∙ sample.replays.replays.blocks_are) sample.whole in
    (_, is (content (vag_name_of bank sample.name)) s.vag s.track s.vag_read s.track_is few, refl)

pub ima_comes : (is : IsOfIma) (block : ℕ) (content : List ℕ → List ℕ) (bank : List ℕ) (j : ℕ) (sample : IsCompiledAt Ima block content bank j)
    → (entries : List Recovered) × (decompiled WaveForm (content (ima_name_of bank sample.name)) ≡ Ok entries) × (length entries ≡ 1)
ima_comes is block content bank j sample =
    let s = sample.replays.stands in
    let file = content (ima_name_of bank sample.name) in
    let whole : IsWhole (samples_in s.said.align) sample.fitted = subst (λ (n : ℕ). IsWhole (samples_in n) sample.fitted) (sym s.align_is) sample.whole in
    let few = whole_few (blocks_of s.track) (samples_in s.said.align) sample.fitted (sym (ap (λ (e : Entry). e.blocks) s.entry_is) ∙ sample.replays.replays.blocks_are) whole in
    (_, is file s.said s.track s.file_read s.track_is few, refl)
