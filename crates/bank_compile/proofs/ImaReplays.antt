-- A stored sample of IMA ADPCM replays.
use Rattle.std.proofs.Common.{◌≡◌, ℕ, ◌+◌, ◌*◌, ◌/◌, ◌%◌, ◌^◌, ◌<◌, ◌≤◌, refl, sym, ap, ◌∙◌, subst, arith, List, length, get_or, Option, Some, None, Ok, IsTrue}
use Rattle.std.specs.Prelude.{IfSome, is_some, pos, ◌*ℤ◌}
use Rattle.std.proofs.lemmas.Bool.{cond-false, le-ltb}
use Rattle.std.proofs.lemmas.Nat.{mod-mul-add, div-mul-add, mul-le}
use Rattle.adpcm_nums.specs.First.{first_where}
use Rattle.adpcm_nums.specs.Round.{round_of}
use Rattle.adpcm_nums.specs.declared.loop_at.LoopAt.{LoopAt}
use Rattle.adpcm_nums.proofs.FirstLaws.{none_found}
use Rattle.machine_core.specs.Blocks.{Blocks}
use Rattle.ima_machine.specs.Ima.{ima, is_align, samples_in}
use Rattle.ima_machine.specs.ImaRules.{ima_rules}
use Rattle.ima_machine.specs.Lawful.{align-low, align-high}
use Rattle.ima_machine.specs.Faults.{fault_in, head_fault}
use Rattle.player_model.specs.ImaFormat.{ima_format}
use Rattle.player_model.specs.ImaTrack.{head_fault_of, is_bad, track_unless, ima_track_of}
use Rattle.player_model.specs.Looped.{IsStoredAt}
use Rattle.player_model.specs.Stored.{block_symbols, blocks_in}
use Rattle.player_model.proofs.StoredBytes.{stored-spelled}
use Rattle.player_model.proofs.StoredRead.{stored-read}
use Rattle.loop_fit.specs.Fit.{points_in, points_of}
use Rattle.loop_fit.specs.declared.fitted.Fitted.{Fitted}
use Rattle.ima_wave.specs.Files.{IsImaFile}
use Rattle.ima_wave.specs.Written.{ima_file}
use Rattle.ima_wave.proofs.ReadAgain.{file_again}
use Rattle.bank_compile.specs.declared.sample.SampleOut.{SampleOut}
use Rattle.bank_kinds.specs.Kinds.{ima_codec}
use Rattle.bank_kinds.specs.Laws.{ima_is_stored}
use Rattle.bank_kinds.specs.Passes.{outputs_of}
use Rattle.bank_kinds.specs.Fits.{AreWithin, first_of, error_of}
use Rattle.bank_compile.specs.Sample.{list_in, out_of}
use Rattle.bank_compile.specs.Bank.{IsOut, wave_of, sound_file}
use Rattle.bank_kinds.specs.Replay.{Entry, InIma, Replays, ima_entry, sound_of}
use Rattle.bank_compile.proofs.OutLaws.{out-length, out-stored}
use Rattle.bank_compile.proofs.SoundLaws.{plain_outputs, scaled-round}
use Rattle.bank_compile.proofs.StoredLaws.{track_at}
use Rattle.bank_compile.proofs.Replaying.{IsMade, IsEntryOf, stands, made-replays}

-- no block tells where a loop would begin
no-block : (align : ℕ) (loop_block : Option ℕ) → loop_block ≡ None → IfSome loop_block (λ l. 0 ≡ 0 + align * l)
no-block align loop_block none = subst (λ (o : Option ℕ). IfSome o (λ l. 0 ≡ 0 + align * l)) (sym none) tt

-- the blocks of a sample stand in its bytes
pub ima-stored : (align : ℕ) → IsTrue (is_align align) → (out : SampleOut) (is : IsOut (ima_codec align) out)
    → IsStoredAt (ima (samples_in align)) (ima_format align) out.blocks 0 0 is.list out.fitted.blocks out.fitted.loop_block
ima-stored align fits out is =
    out-stored (ima_rules (samples_in align)) (ima_format align) out 0 (ima_is_stored align fits) is (λ told. no-block align out.fitted.loop_block is.fit.looped)

-- so many bytes of them
pub ima-length : (align : ℕ) → IsTrue (is_align align) → (out : SampleOut) → IsOut (ima_codec align) out → length out.blocks ≡ align * out.fitted.blocks
ima-length align fits out is = out-length (ima_rules (samples_in align)) (ima_format align) out (ima_is_stored align fits) is

count-of : (align blocks len : ℕ) → 8 ≤ align → len ≡ align * blocks → len / align ≡ blocks
count-of align blocks len low e =
    let turned : align * blocks ≡ blocks * align + 0 = omega arith in
    ap (λ (n : ℕ). n / align) (e ∙ turned) ∙ div-mul-add blocks align 0 (omega (arith, low))

whole-of : (align blocks len : ℕ) → 8 ≤ align → len ≡ align * blocks → len % align ≡ 0
whole-of align blocks len low e =
    let turned : align * blocks ≡ blocks * align + 0 = omega arith in
    ap (λ (n : ℕ). n % align) (e ∙ turned) ∙ mod-mul-add blocks align 0 (omega (arith, low))

pub ima-count : (align : ℕ) → IsTrue (is_align align) → (out : SampleOut) → IsOut (ima_codec align) out → length out.blocks / align ≡ out.fitted.blocks
ima-count align fits out is = count-of align out.fitted.blocks (length out.blocks) (align-low align fits) (ima-length align fits out is)

-- a head in range and a byte 0 have no fault
no-fault : (index value head : ℕ) → index ≡ head → value ≡ 0 → head < 89 → head_fault index value ≡ None
no-fault index value head same none small =
    ap (λ (i : ℕ). head_fault i value) same ∙ (ap (λ (v : ℕ). head_fault head v) none ∙ cond-false _ _ _ (le-ltb 88 head (omega arith)))

-- each begins with the head of a block
pub ima-sound : (align : ℕ) → IsTrue (is_align align) → (out : SampleOut) → IsOut (ima_codec align) out → (b : ℕ) → b < out.fitted.blocks → fault_in out.blocks (align * b) ≡ None
ima-sound align fits out is b below =
    let laws = (ima_is_stored align fits).stored in
    let low = align-low align fits in
    let stored = ima-stored align fits out is in
    let spelled = stored-spelled (ima (samples_in align)) (ima_format align) out.blocks 0 is.list out.fitted.blocks out.fitted.loop_block b laws is.in_range stored.bytes below in
    let long = laws.length_is (get_or is.list.heads b 0) 0 (block_symbols (ima (samples_in align)) is.list b) spelled.fits in
    let place : align * b ≡ 0 + align * b = omega arith in
    ap (fault_in out.blocks) place
    ∙ no-fault (get_or out.blocks (0 + align * b + 2) 0) (get_or out.blocks (0 + align * b + 3) 0) (get_or is.list.heads b 0) (spelled.stands 2 (omega (arith, long, low))) (spelled.stands 3 (omega (arith, long, low))) spelled.fits.head_fits

forward-of : (count : ℕ) (points : Option LoopAt) → AreWithin count points → IfSome points (λ at. at.start ≤ at.end)
forward-of count None within = tt
forward-of count (Some at) within = within.0

inside-of : (count : ℕ) (points : Option LoopAt) → AreWithin count points → IfSome points (λ at. at.end < count)
inside-of count None within = tt
inside-of count (Some at) within = within.1

-- the loop of the sample is that of its frames
pub ima-points : (align : ℕ) (fitted : Fitted) → fitted.loop_block ≡ None → fitted.loop_frames ≡ points_of (samples_in align) fitted
ima-points align fitted none = sym (ap (λ (o : Option ℕ). points_in (samples_in align) fitted.blocks o fitted.loop_frames) none)

-- so the sample is a file that can be written
pub ima-file : (align : ℕ) → IsTrue (is_align align) → (out : SampleOut) → IsOut (ima_codec align) out → IsImaFile (wave_of align out)
ima-file align fits out is =
    let low = align-low align fits in
    let count = ima-count align fits out is in
    let within : AreWithin out.fitted.frames out.fitted.loop_frames = subst (λ (o : Option LoopAt). AreWithin out.fitted.frames o) (sym (ima-points align out.fitted is.fit.looped)) is.fit.points in
    record {
      some_rate = is.some_rate;
      low_rate = is.high_rate;
      align = fits;
      whole = whole-of align out.fitted.blocks (length out.blocks) low (ima-length align fits out is);
      heads = λ b below. ap (fault_in out.blocks) (let turned : b * align ≡ align * b = omega arith in turned) ∙ ima-sound align fits out is b (omega (arith, below, count));
      frames = subst (λ (n : ℕ). out.fitted.frames ≤ n * samples_in align) (sym count) is.fit.played;
      forward = forward-of out.fitted.frames out.fitted.loop_frames within;
      inside = inside-of out.fitted.frames out.fitted.loop_frames within;
    }

-- of few bytes
pub ima-small : (align : ℕ) → IsTrue (is_align align) → (out : SampleOut) → IsOut (ima_codec align) out → length out.blocks < 2 ^ 30
ima-small align fits out is =
    let most : align * out.fitted.blocks ≤ 1024 * 4096 = mul-le align out.fitted.blocks 1024 4096 (align-high align fits) is.fit.whole.few in
    omega (arith, ima-length align fits out is, most)

-- what is said of it is a track
pub ima-track : (align : ℕ) → IsTrue (is_align align) → (out : SampleOut) → IsOut (ima_codec align) out → ima_track_of (sound_of (wave_of align out)) ≡ Ok (sound_of (wave_of align out))
unfolding ima_track_of
ima-track align fits out is =
    let count = ima-count align fits out is in
    let none : first_where (is_bad align out.blocks) (length out.blocks / align) ≡ None =
    none_found (is_bad align out.blocks) (length out.blocks / align) (λ b below. ap is_some (ima-sound align fits out is b (omega (arith, below, count)))) in
    ap (λ (o : Option ℕ). track_unless (sound_of (wave_of align out)) (head_fault_of align out.blocks o)) none

-- whose entry stands for the list
pub ima-entry : (align : ℕ) → IsTrue (is_align align) → (out : SampleOut) (is : IsOut (ima_codec align) out)
    → IsEntryOf (ima_codec align) out.rate out.fitted is.list (ima_entry out.rate (sound_of (wave_of align out)))
ima-entry align fits out is =
    let d = ima (samples_in align) in
    let f = ima_format align in
    let fitted = out.fitted in
    let count = ima-count align fits out is in
    let points = ima-points align fitted is.fit.looped in
    let listed : blocks_in d f out.blocks 0 (length out.blocks / align) ≡ is.list =
    ap (λ (n : ℕ). blocks_in d f out.blocks 0 n) count
    ∙ stored-read d f (track_at out.blocks 0 0 fitted.blocks) is.list fitted.loop_block (ima_is_stored align fits).stored is.in_range (ima-stored align fits out is) in
    record {
      rate_is = refl;
      blocks_are = count;
      loop_is = points;
      list_is = listed;
      plays = λ history i.
          ap (λ (l : Blocks). pos 1 *ℤ round_of (plain_outputs d l fitted.frames) fitted.loop_frames i) listed
          ∙ (scaled-round d is.list fitted.frames fitted.loop_frames i
          ∙ ap (λ (p : Option LoopAt). round_of (outputs_of d is.list fitted.frames) p i) points);
    }

-- a compiled sample stands in its WAVE file
pub made-in-ima : (align : ℕ) → IsTrue (is_align align) → (out : SampleOut) (name : List ℕ) (rate : ℕ) (fitted : Fitted) (m : IsMade (ima_codec align) out name rate fitted)
    → (entry : Entry) × InIma (ima_file (wave_of align (out_of (ima_codec align) name rate fitted m.founds))) align fitted.frames entry
    × Replays (ima_codec align) entry (sound_file rate (first_of (ima_codec align) fitted (list_in m.founds)) (points_of (samples_in align) fitted)) rate fitted (error_of (ima_codec align) fitted (list_in m.founds))
made-in-ima align fits got name rate fitted m =
    let is = stands (ima_codec align) got name rate fitted m in
    let out = out_of (ima_codec align) name rate fitted m.founds in
    let file = wave_of align out in (
      ima_entry rate (sound_of file),
      record {
        said = file;
        file_read = file_again file (ima-file align fits out is) (ima-small align fits out is);
        align_is = refl;
        frames_are = refl;
        track = sound_of file;
        track_is = ima-track align fits out is;
        entry_is = refl;
      },
      made-replays (ima_codec align) got name rate fitted m (ima_entry rate (sound_of file)) (ima-entry align fits out is),
    )
