-- The command `play`, over plain variables.
use Rattle.std.specs.Prelude.{⊤}
use Rattle.std.proofs.Common.{◌≡◌, ◌≢◌, ◌≤◌, ◌⊎◌, ℕ, suc, ◌+◌, ◌*◌, ◌/◌, ◌%◌, ◌==◌, ℤ, List, [], ◌++◌, length, Bool, true, false, cond, nat_lt, refl, sym, ap, subst, ◌∙◌, arith, inl, inr, Option, Some, None, Result, Ok, Err}
use Rattle.std.proofs.lemmas.Bool.{cond-true, cond-false, eq-eqb, ne_eqb}
use Rattle.std.proofs.lemmas.Nat.{div-add-mod'}
use Rattle.adpcm_nums.specs.First.{first_where}
use Rattle.adpcm_nums.specs.Outcome.{Tells, Gives, ◌>>=◌}
use Rattle.host_files.specs.Outside.{World, Files, raised, Rose}
use Rattle.machine_core.specs.declared.state.Kind.{Kind}
use Rattle.machine_core.specs.declared.state.Kind.TheVariants.{Brr, Spu, Ima}
use Rattle.brr_machine.specs.Brr.{brr}
use Rattle.spu_machine.specs.Spu.{spu}
use Rattle.player_model.specs.Track.{Track}
use Rattle.player_model.specs.BrrFormat.{brr_format}
use Rattle.player_model.specs.SpuFormat.{spu_format}
use Rattle.player_model.specs.SpuTrack.{spu_track_of}
use Rattle.player_model.specs.Sound.{heard}
use Rattle.player_model.specs.ImaTrack.{ImaSound, IsImaSound, blocks_of, heard_ima, ima_track_of}
use Rattle.player_model.specs.Limit.{is_much}
use Rattle.ima_machine.specs.Ima.{samples_in}
use Rattle.ima_wave.specs.declared.file.ImaFile.{ImaFile}
use Rattle.ima_wave.specs.Reading.{ima_of}
use Rattle.ima_wave.specs.Files.{IsImaFile}
use Rattle.bank_kinds.specs.Replay.{sound_of}
use Rattle.vag_writer.specs.declared.vag.Vag.{Vag}
use Rattle.vag_writer.specs.Reading.{vag_of}
use Rattle.snes_directory.specs.declared.image.Image.{Image}
use Rattle.snes_directory.specs.Reading.{image_of}
use Rattle.snes_directory.specs.EntryTracks.{is_long, track_at}
use Rattle.command_faults.specs.declared.status.Status.{Status}
use Rattle.command_faults.specs.declared.status.Status.TheVariants.{Done, Words, Input, Memory}
use Rattle.command_faults.specs.declared.input_fault.InputFault.{InputFault}
use Rattle.command_faults.specs.declared.input_fault.InputFault.TheVariants.{FileLong, NoEntry, TooMuch, Image as OfImage, Vag as OfVag, Ima as OfIma, Track as OfTrack}
use Rattle.command_plan.specs.Ending.{is_device, ending_of}
use Rattle.command_plan.specs.Plan.{Plan, all_stored}
use Rattle.command_plan.specs.Read.{Read, as_reading, nothing, written_under}
use Rattle.command_plan.specs.Reading.{Reading, status_of, Declines}
use Rattle.command_plan.specs.Steps.{Comes, HasRead, Keeps, writing}
use Rattle.command_plan.specs.Promise.{IsPlanOf, Reaches, Promises, Finishes}
use Rattle.command_plan.proofs.ReadOn.{then-count, then-outcome}
use Rattle.command_plan.proofs.Promised.{answers, done_is, then_reaches, unsaid, written}
use Rattle.command_plan.specs.Front.{front_in}
use Rattle.tool_play.specs.Play.{or_refused, image_in, track_unless, track_in, vag_in, only_track, vag_track_in, ima_in, only_sound, ima_track_in, output_line, play_lines, image_said, vag_said, ima_said, said_by, said_of}
use Rattle.tool_play.specs.Played.{said_read, saying, play_course, IsPlayed, HasPlayed, AnswersPlay}
use Rattle.command_plan.specs.Front.{whole_in}
use Rattle.command_plan.proofs.Unwritten.{unwritten_files}

whole-of : (len align : ℕ) → len % align ≡ 0 → len ≡ len / align * align
whole-of len align e = let all = div-add-mod' len align in omega (arith, all, e)

-- what a WAVE file of IMA ADPCM says is a sound
pub is_sound : (file : ImaFile) → IsImaFile file → IsImaSound (sound_of file)
is_sound file is = record {
  align_fits = is.align;
  whole = whole-of (length file.blocks) file.align is.whole;
  frames_fit = is.frames;
  loop_ordered = is.forward;
  loop_within = is.inside;
}

-- a test of numbers that were found
pub much_at : (blocks samples n m : ℕ) (found : Bool) (known : Bool) → found ≡ is_much blocks samples → blocks ≡ n → samples ≡ m → found ≡ known → is_much n m ≡ known
much_at blocks samples n m found known is same_blocks same_samples test =
    ap (λ (k : ℕ). is_much k m) (sym same_blocks) ∙ (ap (λ (k : ℕ). is_much blocks k) (sym same_samples) ∙ (sym is ∙ test))

-- a track that was found is that of the file
pub sound_found : (file : List ℕ) (said : ImaFile) (entry : ℕ) (bytes : List ℕ) (track : ImaSound) → bytes ≡ said.blocks
    → Ok track ≡ ima_track_of (record { align = said.align; bytes = bytes; frames = said.frames; loop_at = said.at }) → ima_track_in file said entry ≡ only_sound file (samples_in said.align) track entry
unfolding ima_track_in
sound_found file said entry bytes track same is =
    let with : List ℕ → ImaSound = λ bs. record { align = said.align; bytes = bs; frames = said.frames; loop_at = said.at } in
    let found : ima_track_of (sound_of said) ≡ Ok track = sym (ap (λ bs. ima_track_of (with bs)) same) ∙ sym is in
    ap (λ r. or_refused file (λ f. OfTrack f) r >>= (λ track. only_sound file (samples_in said.align) track entry)) found

-- a refusal is told, or there was no memory
pub told_refused : {T : Type 0} (read : Result T Status) (s told : Status) → Tells Memory s told → read ≡ Err told → (s ≡ Memory) ⊎ (read ≡ Err s)
told_refused read s told one is = elim one [ inl memory ↦ inl memory | inr same ↦ inr (is ∙ ap Err (sym same)) ]

-- one more output in a line
pub line_more : (output : ℕ → ℤ) (i : ℕ) (y : ℤ) (before after : List ℕ) → before ≡ play_lines output i → y ≡ output i → after ≡ before ++ output_line y → after ≡ play_lines output (i + 1)
unfolding play_lines
line_more output i y before after so_far value pushed =
    let next : suc i ≡ i + 1 = omega arith in
    pushed ∙ (ap (λ xs. xs ++ output_line y) so_far ∙ (ap (λ z. play_lines output i ++ output_line z) value ∙ ap (play_lines output) next))

-- nothing but a fault of the file comes of it
abbrev pub Refuses : {T : Type 0} → List ℕ → Result T Status → Type 0
Refuses file (Ok v) = Unit {0}
Refuses file (Err s) = (fault : InputFault) × (s ≡ Input file fault)

-- one reading after another
refuses_next : {A B : Type 0} (file : List ℕ) (r : Result A Status) (f : A → Result B Status) → Refuses file r → ((v : A) → Refuses file (f v)) → Refuses file (r >>= f)
refuses_next file (Ok v) f h each = each v
refuses_next file (Err s) f h each = h

refuses_if : {A : Type 0} (file : List ℕ) (b : Bool) (r s : Result A Status) → Refuses file r → Refuses file s → Refuses file (cond b r s)
refuses_if file true r s h k = h
refuses_if file false r s h k = k

told-refuses : {X E : Type 0} (file : List ℕ) (fault : E → InputFault) (r : Result X E) → Refuses file (or_refused file fault r)
told-refuses file fault (Ok x) = tt
told-refuses file fault (Err e) = (_, refl)

whole_in-refuses : (file front : List ℕ) → Refuses file (whole_in file front)
unfolding whole_in
whole_in-refuses file front = refuses_if file (nat_lt 8388608 (length front)) (Err (Input file (FileLong 8388608))) (Ok front) (FileLong 8388608, refl) tt

image_in-refuses : (file bytes : List ℕ) → Refuses file (image_in file bytes)
unfolding image_in
image_in-refuses file bytes = told-refuses file (λ f. OfImage f) (image_of bytes)

track_unless-refuses : (file : List ℕ) (image : Image) (entry : ℕ) (o : Option ℕ) → Refuses file (track_unless file image entry o)
track_unless-refuses file image entry (Some i) = (_, refl)
track_unless-refuses file image entry None =
    refuses_if file (nat_lt entry (length image.starts)) (or_refused file (λ f. OfTrack f) (track_at image entry)) (Err (Input file (NoEntry entry (length image.starts)))) (told-refuses file (λ f. OfTrack f) (track_at image entry)) (_, refl)

track_in-refuses : (file : List ℕ) (image : Image) (entry : ℕ) → Refuses file (track_in file image entry)
unfolding track_in
track_in-refuses file image entry = track_unless-refuses file image entry (first_where (is_long image) (length image.starts))

vag_in-refuses : (file bytes : List ℕ) → Refuses file (vag_in file bytes)
unfolding vag_in
vag_in-refuses file bytes = told-refuses file (λ f. OfVag f) (vag_of bytes)

only_track-refuses : (file : List ℕ) (track : Track) (entry : ℕ) → Refuses file (only_track file track entry)
only_track-refuses file track entry =
    refuses_if file (nat_lt 4096 track.blocks) (Err (Input file (TooMuch track.blocks))) (cond (nat_lt entry 1) (Ok track) (Err (Input file (NoEntry entry 1)))) (TooMuch track.blocks, refl)
    (refuses_if file (nat_lt entry 1) (Ok track) (Err (Input file (NoEntry entry 1))) tt (NoEntry entry 1, refl))

vag_track_in-refuses : (file : List ℕ) (vag : Vag) (entry : ℕ) → Refuses file (vag_track_in file vag entry)
unfolding vag_track_in
vag_track_in-refuses file vag entry =
    refuses_next file (or_refused file (λ f. OfTrack f) (spu_track_of vag.blocks)) _ (told-refuses file (λ f. OfTrack f) (spu_track_of vag.blocks)) (λ track. only_track-refuses file track entry)

vag_said-refuses : (file : List ℕ) (entry count : ℕ) (bytes : List ℕ) → Refuses file (vag_said file entry count bytes)
unfolding vag_said
vag_said-refuses file entry count bytes =
    refuses_next file (vag_in file bytes) _ (vag_in-refuses file bytes)
    (λ vag. refuses_next file (vag_track_in file vag entry) (λ track. Ok (play_lines (heard spu spu_format track) count)) (vag_track_in-refuses file vag entry) (λ track. tt))

ima_in-refuses : (file bytes : List ℕ) → Refuses file (ima_in file bytes)
unfolding ima_in
ima_in-refuses file bytes = told-refuses file (λ f. OfIma f) (ima_of bytes)

only_sound-refuses : (file : List ℕ) (samples : ℕ) (sound : ImaSound) (entry : ℕ) → Refuses file (only_sound file samples sound entry)
only_sound-refuses file samples sound entry =
    refuses_if file (is_much (blocks_of sound) samples) (Err (Input file (TooMuch (blocks_of sound)))) (cond (nat_lt entry 1) (Ok sound) (Err (Input file (NoEntry entry 1))))
    (TooMuch (blocks_of sound), refl) (refuses_if file (nat_lt entry 1) (Ok sound) (Err (Input file (NoEntry entry 1))) tt (NoEntry entry 1, refl))

ima_track_in-refuses : (file : List ℕ) (said : ImaFile) (entry : ℕ) → Refuses file (ima_track_in file said entry)
unfolding ima_track_in
ima_track_in-refuses file said entry =
    refuses_next file (or_refused file (λ f. OfTrack f) (ima_track_of (sound_of said))) _ (told-refuses file (λ f. OfTrack f) (ima_track_of (sound_of said))) (λ track. only_sound-refuses file (samples_in said.align) track entry)

ima_said-refuses : (file : List ℕ) (entry count : ℕ) (bytes : List ℕ) → Refuses file (ima_said file entry count bytes)
unfolding ima_said
ima_said-refuses file entry count bytes =
    refuses_next file (ima_in file bytes) _ (ima_in-refuses file bytes)
    (λ said. refuses_next file (ima_track_in file said entry) (λ track. Ok (play_lines (heard_ima track) count)) (ima_track_in-refuses file said entry) (λ track. tt))

image_said-refuses : (file : List ℕ) (entry count : ℕ) (bytes : List ℕ) → Refuses file (image_said file entry count bytes)
unfolding image_said
image_said-refuses file entry count bytes =
    refuses_next file (image_in file bytes) _ (image_in-refuses file bytes)
    (λ image. refuses_next file (track_in file image entry) (λ track. Ok (play_lines (heard brr brr_format track) count)) (track_in-refuses file image entry) (λ track. tt))

said_by-refuses : (kind : Kind) (file : List ℕ) (entry count : ℕ) (bytes : List ℕ) → Refuses file (said_by kind file entry count bytes)
said_by-refuses Brr file entry count bytes = image_said-refuses file entry count bytes
said_by-refuses Spu file entry count bytes = vag_said-refuses file entry count bytes
said_by-refuses Ima file entry count bytes = ima_said-refuses file entry count bytes

pub said_of-refuses : (kind : Kind) (file : List ℕ) (entry count : ℕ) (front : List ℕ) → Refuses file (said_of kind file entry count front)
unfolding said_of
said_of-refuses kind file entry count front =
    refuses_next file (whole_in file front) (λ bytes. said_by kind file entry count bytes) (whole_in-refuses file front) (λ bytes. said_by-refuses kind file entry count bytes)

-- so it is a refusal
pub refuses-declines : {T : Type 0} (file : List ℕ) (read : Result T Status) → Refuses file read → Declines read
refuses-declines file (Ok v) h = tt
refuses-declines file (Err s) h = ap ending_of h.1

-- what is refused is refused as a fault of the file, or for want of memory
answer_is : (P : Status → Type 0) (file : List ℕ) (read : Result (List ℕ) Status) (s : Status) → Refuses file read → (s ≡ Memory) ⊎ (read ≡ Err s) → P Memory → ((fault : InputFault) → P (Input file fault)) → P s
answer_is P file read s h one memory input = elim one [
  | inl e ↦ subst P (sym e) memory
  | inr e ↦ let k : Refuses {T = List ℕ} file (Err s) = subst (Refuses {T = List ℕ} file) e h in subst P (sym k.1) (input k.0)
]

-- so what it says brings about no failed call
pub keeps_said : (a b : World) (file : List ℕ) (read r : Result (List ℕ) Status) → Refuses file read → a.faults ≤ b.faults → Gives Memory (λ lines. lines) r read → Keeps a b (status_of r)
keeps_said a b file read (Ok v) h later one = record { later = later; device = λ e. cc; words = λ e. cc }
keeps_said a b file read (Err s) h later one = record {
  later = later;
  device = answer_is (λ t. is_device t ≡ true → Rose a.faults b.faults) file read s h one (λ e. cc) (λ fault e. cc);
  words = answer_is (λ t. t ≢ Words) file read s h one (λ e. cc) (λ fault e. cc);
}

-- no outputs are no lines
none_next : {A : Type 0} (r : Result A Status) (f : A → Result (List ℕ) Status) (lines : List ℕ) → ((v : A) → f v ≡ Ok lines → lines ≡ []) → (r >>= f) ≡ Ok lines → lines ≡ []
none_next (Ok v) f lines each e = each v e
none_next (Err s) f lines each e = cc

lines_none : (output : ℕ → ℤ) → play_lines output 0 ≡ []
unfolding play_lines
lines_none output = refl

no_lines : (output : ℕ → ℤ) (read : Result (List ℕ) Status) (lines : List ℕ) → read ≡ Ok (play_lines output 0) → read ≡ Ok lines → lines ≡ []
no_lines output read lines e f = let none = lines_none output in cc

image_none : (file : List ℕ) (entry : ℕ) (bytes lines : List ℕ) → image_said file entry 0 bytes ≡ Ok lines → lines ≡ []
unfolding image_said
image_none file entry bytes lines e =
    none_next (image_in file bytes) _ lines (λ image. none_next (track_in file image entry) (λ track. Ok (play_lines (heard brr brr_format track) 0)) lines
    (λ track. no_lines (heard brr brr_format track) (Ok (play_lines (heard brr brr_format track) 0)) lines refl)) e

vag_none : (file : List ℕ) (entry : ℕ) (bytes lines : List ℕ) → vag_said file entry 0 bytes ≡ Ok lines → lines ≡ []
unfolding vag_said
vag_none file entry bytes lines e =
    none_next (vag_in file bytes) _ lines (λ vag. none_next (vag_track_in file vag entry) (λ track. Ok (play_lines (heard spu spu_format track) 0)) lines
    (λ track. no_lines (heard spu spu_format track) (Ok (play_lines (heard spu spu_format track) 0)) lines refl)) e

ima_none : (file : List ℕ) (entry : ℕ) (bytes lines : List ℕ) → ima_said file entry 0 bytes ≡ Ok lines → lines ≡ []
unfolding ima_said
ima_none file entry bytes lines e =
    none_next (ima_in file bytes) _ lines (λ said. none_next (ima_track_in file said entry) (λ track. Ok (play_lines (heard_ima track) 0)) lines
    (λ track. no_lines (heard_ima track) (Ok (play_lines (heard_ima track) 0)) lines refl)) e

by_none : (kind : Kind) (file : List ℕ) (entry : ℕ) (bytes lines : List ℕ) → said_by kind file entry 0 bytes ≡ Ok lines → lines ≡ []
by_none Brr file entry bytes lines e = image_none file entry bytes lines e
by_none Spu file entry bytes lines e = vag_none file entry bytes lines e
by_none Ima file entry bytes lines e = ima_none file entry bytes lines e

said_none : (kind : Kind) (file : List ℕ) (entry : ℕ) (front lines : List ℕ) → said_of kind file entry 0 front ≡ Ok lines → lines ≡ []
unfolding said_of
said_none kind file entry front lines e = none_next (whole_in file front) (λ bytes. said_by kind file entry 0 bytes) lines (λ bytes. by_none kind file entry bytes lines) e

-- with no outputs nothing is said
pub plays_none : (files : Files) (kind : Kind) (file : List ℕ) (entry count : ℕ) (lines : List ℕ) (a b : World) → count ≡ 0 → HasRead (as_reading (said_read files kind file entry count)) a b → (said_read files kind file entry count).gives ≡ Ok lines
    → Reaches (play_course files kind file entry count) (IsPlayed (said_read files kind file entry count).gives) a b Done
plays_none files kind file entry count lines a b none h e =
    let c = said_read files kind file entry count in
    let front = front_in files file 8388608 in
    let empty : lines ≡ [] = said_none kind file entry front lines (ap (λ n. said_of kind file entry n front) (sym none) ∙ e) in
    let silent : saying count ≡ nothing = cond-true _ _ _ (eq-eqb count 0 none) in
    then_reaches c (λ ls. saying count) lines (IsPlayed c.gives) a b b Done e h
    (subst (λ (d : Read ⊤). Reaches (as_reading d) (IsPlayed c.gives) b b Done) (sym silent) (unsaid (IsPlayed c.gives) b (record { none = refl; told = e ∙ ap Ok empty })))

-- else they are said in one call
pub plays_some : (files : Files) (kind : Kind) (file : List ℕ) (entry count : ℕ) (lines line : List ℕ) (a m b : World) (s : Status) → (count ≡ 0 → ⊥) → HasRead (as_reading (said_read files kind file entry count)) a m → (said_read files kind file entry count).gives ≡ Ok lines
    → line ≡ lines → Comes (writing [] line) m b s → Reaches (play_course files kind file entry count) (IsPlayed (said_read files kind file entry count).gives) a b s
plays_some files kind file entry count lines line a m b s some h e same r =
    let c = said_read files kind file entry count in
    let loud : saying count ≡ written_under [] = cond-false _ _ _ (ne_eqb count 0 some) in
    then_reaches c (λ ls. saying count) lines (IsPlayed c.gives) a m b s e h
    (subst (λ (d : Read ⊤). Reaches (as_reading d) (IsPlayed c.gives) m b s) (sym loud) (written (IsPlayed c.gives) [] [] line m b s (record { none = refl; told = e ∙ ap Ok (sym same) }) refl r))

saying-done : (b : Bool) → status_of (cond b nothing (written_under [])).gives ≡ Done
saying-done true = refl
saying-done false = refl

-- what the file says decides how it ends
course-is : (files : Files) (kind : Kind) (file : List ℕ) (entry count : ℕ) → (play_course files kind file entry count).outcome ≡ status_of (said_read files kind file entry count).gives
course-is files kind file entry count = then-outcome (said_read files kind file entry count) (λ ls. saying count) (λ ls. saying-done (count == 0))

saying-count : (b : Bool) → 1 + length (cond b nothing (written_under [])).calls ≡ cond b 1 2
saying-count true = refl
saying-count false = refl

-- what was done at `Done`
has_played : (held : Files) (kind : Kind) (file : List ℕ) (entry count : ℕ) (a b : World) → Finishes (play_course held kind file entry count) (IsPlayed (said_read held kind file entry count).gives) a b → HasPlayed held kind file entry count a b
has_played held kind file entry count a b f = record {
  lines = f.line;
  told = f.may.told;
  files = f.files ∙ ap (all_stored a.files) f.may.none;
  said = f.said;
  calls = f.calls ∙ ap (λ n. raised n a.calls) (then-count (said_read held kind file entry count) (λ ls. saying count) f.line f.may.told ∙ saying-count (count == 0));
}

-- `play` stores nothing, whether or not its outputs were chosen
stores_none : (course : Reading) (said : Result (List ℕ) Status) (r : Status) (p : Plan) → IsPlanOf course (IsPlayed said) r p → p.writes ≡ []
stores_none course said r p is = elim is.choice [ inl may ↦ may.none | inr early ↦ early.1 ]

-- what the promise says in the command's own words
pub answers_play : (held : Files) (kind : Kind) (file : List ℕ) (entry count : ℕ) (a b : World) (r : Status) → Promises (play_course held kind file entry count) (IsPlayed (said_read held kind file entry count).gives) a b r → AnswersPlay held kind file entry count a b r
answers_play held kind file entry count a b r h =
    let said = (said_read held kind file entry count).gives in
    let course = play_course held kind file entry count in
    record {
      files = unwritten_files h.0 a b r (stores_none course said r h.0 h.1) h.2;
      done = λ e. has_played held kind file entry count a b (done_is course (IsPlayed said) a b r h e);
      outcome = λ calm. subst (λ (s : Status). Tells Memory r s) (course-is held kind file entry count) (answers course (IsPlayed said) a b r h calm);
    }
