-- A stored sample replays, in an image and in a file of its own.
use Rattle.std.proofs.Common.{◌≡◌, ℕ, ◌+◌, ◌*◌, ◌^◌, ◌<◌, ◌≤◌, refl, sym, ap, ◌∙◌, subst, arith, ℤ, pos, ◌*ℤ◌, List, length, get_or, take, drop, map, Some, Ok}
use Rattle.std.specs.Prelude.{IfSome, slice_get}
use Rattle.std.specs.List.{All}
use Rattle.std.specs.Option.{option_map}
use Rattle.std.proofs.lemmas.Bool.{false≢true}
use Rattle.std.proofs.lemmas.List.{length-map, get_or-map}
use Rattle.std.proofs.lemmas.List.Elements.{recursion_from_All, All-from_recursion}
use Rattle.std.proofs.lemmas.Option.{slice_get-map, slice_get_within, get_or_from_slice_get}
use Rattle.adpcm_nums.specs.Round.{round_of}
use Rattle.adpcm_nums.specs.Sample.{AreSamples}
use Rattle.machine_core.specs.Blocks.{Blocks, IsLegal}
use Rattle.machine_core.specs.declared.state.State.{State}
use Rattle.machine_core.specs.Rules.{Rules}
use Rattle.machine_core.specs.Sums.{sum_of}
use Rattle.brr_machine.specs.Brr.{brr}
use Rattle.brr_machine.specs.BrrRules.{brr_rules}
use Rattle.spu_machine.specs.Spu.{spu}
use Rattle.spu_machine.specs.SpuRules.{spu_rules}
use Rattle.loop_fit.specs.declared.fitted.Fitted.{Fitted}
use Rattle.loop_fit.specs.Fit.{points_of}
use Rattle.player_model.specs.Format.{Format}
use Rattle.player_model.specs.Track.{Track}
use Rattle.player_model.specs.BrrFormat.{brr_format}
use Rattle.player_model.specs.SpuFormat.{spu_format}
use Rattle.player_model.specs.Looped.{IsStoredAt, loop_points}
use Rattle.player_model.proofs.StoredTracks.{stored-track, stored-loop}
use Rattle.player_model.proofs.StoredRead.{stored-read}
use Rattle.player_model.proofs.BrrTracks.{track-read}
use Rattle.player_model.proofs.SpuTracks.{spu-read}
use Rattle.smpl_loops.specs.Loops.{first_loop_of}
use Rattle.snes_directory.specs.declared.part.ImagePart.{ImagePart}
use Rattle.snes_directory.specs.Part.{IsPart}
use Rattle.snes_directory.specs.Spelling.{memory_bytes}
use Rattle.snes_directory.specs.Stored.{starts_in, agains_in, image_from}
use Rattle.snes_directory.proofs.ImageAgain.{written_again}
use Rattle.snes_directory.proofs.EntryAgain.{blocks-lie}
use Rattle.snes_directory.proofs.Splits.{agains_in-at}
use Rattle.vag_writer.specs.Spelling.{filled, vag_file}
use Rattle.vag_writer.proofs.ReadAgain.{written_again as vag_again}
use Rattle.bank_compile.specs.declared.sample.SampleOut.{SampleOut}
use Rattle.bound_cert.specs.Spelling.{cert_bytes}
use Rattle.branch_bound.specs.declared.top.Found.{Found}
use Rattle.bank_kinds.specs.Certified.{IsCertified}
use Rattle.bank_kinds.specs.Codec.{Codec, IsCodec, IsFlagged, stored_codec, fixed_in}
use Rattle.bank_kinds.specs.Kinds.{brr_codec, spu_codec}
use Rattle.bank_kinds.specs.Laws.{brr_is_stored, spu_is_stored, brr_is_flagged, spu_is_flagged}
use Rattle.bank_kinds.specs.Fits.{IsFit, AreWithin, played_of, bytes_of, first_of, error_of}
use Rattle.bank_compile.specs.Known.{certs_of, bounds_of, levels_in}
use Rattle.manifest_reader.specs.declared.effort.Effort.{Effort}
use Rattle.bank_compile.specs.Sample.{IsCompiled, list_in, out_of}
use Rattle.bank_compile.specs.Bank.{IsOut, part_of, sound_file, image_of}
use Rattle.bank_kinds.specs.Replay.{Entry, InImage, InVag, Replays, track_entry}
use Rattle.bank_compile.proofs.ChosenLaws.{chosen-legal, chosen-certified}
use Rattle.bank_compile.proofs.OutLaws.{out-length, out-stored, out-parts, image-written, goes-on}
use Rattle.bank_compile.proofs.SoundLaws.{plays-first, points-are, sound_file-read}
use Rattle.bank_compile.proofs.StoredLaws.{track_at, stored-list, frames-are}

-- a sample's blocks stand in the memory of the image, at its start
pub stored-in-image : (base : ℕ) (outs : List SampleOut) (j : ℕ) (out : SampleOut) (is : IsOut brr_codec out) → slice_get outs j ≡ Some out
    → IsStoredAt brr brr_format (memory_bytes base (map part_of outs)) (get_or (starts_in (4 * length (map part_of outs)) (map part_of outs)) j 0)
    (get_or (agains_in (4 * length (map part_of outs)) (map part_of outs)) j 0) is.list out.fitted.blocks out.fitted.loop_block
stored-in-image base outs j out is at =
    let parts = map part_of outs in
    let start = get_or (starts_in (4 * length parts) parts) j 0 in
    let within : j < length parts = (let below = slice_get_within outs j out at in let count = length-map outs part_of in omega arith) in
    let there : slice_get parts j ≡ Some (part_of out) = slice_get-map part_of outs j ∙ ap (option_map part_of) at in
    let is_part : part_of out ≡ get_or parts j (part_of out) = sym (get_or_from_slice_get parts j (part_of out) (part_of out) there) in
    let lies = blocks-lie base parts j (part_of out) within is_part in
    let again = agains_in-at (4 * length parts) parts j (part_of out) within is_part in
    record {
      some = is.fit.whole.some;
      loop_within = is.fit.whole.loop_block;
      bytes = ap (λ n. take n (drop start (memory_bytes base parts))) (sym (out-length brr_rules brr_format out brr_is_stored is)) ∙ (lies ∙ is.spelled);
      again_is = λ told. subst (λ (a : ℕ). IfSome out.fitted.loop_block (λ l. a ≡ start + 9 * l)) (sym again) (goes-on start out.fitted.loop_block);
    }

-- an entry that stands for a list of blocks
pub record IsEntryOf (c : Codec) (rate : ℕ) (fitted : Fitted) (list : Blocks) (entry : Entry) : Type 0 where
  pub rate_is : entry.rate ≡ rate
  pub blocks_are : entry.blocks ≡ fitted.blocks
  pub loop_is : entry.points ≡ points_of c.rules.decoder.samples fitted
  pub list_is : entry.list ≡ list
  pub plays : (history : State) (i : ℕ) → pos c.rules.decoder.scale *ℤ entry.plays history i ≡ round_of (first_of c fitted list) (points_of c.rules.decoder.samples fitted) i

-- with the file of the list's first pass it replays
pub entry-replays : (c : Codec) (rate : ℕ) (fitted : Fitted) (list : Blocks) (entry : Entry) → IsEntryOf c rate fitted list entry → IsFit c fitted → 1 ≤ rate → rate ≤ 1000000
    → length (first_of c fitted list) ≡ played_of c fitted → AreSamples (first_of c fitted list) → IsLegal c.rules.decoder fitted.blocks (fixed_in c fitted) list
    → Replays c entry (sound_file rate (first_of c fitted list) (points_of c.rules.decoder.samples fitted)) rate fitted (error_of c fitted list)
entry-replays c rate fitted list entry is fit some_rate high_rate played range legal =
    let points = points_of c.rules.decoder.samples fitted in
    let small : length (first_of c fitted list) ≤ 2 ^ 24 = (let few = fit.whole.small in let count = fit.whole.count in let most = fit.played in omega (arith, played, few, count, most)) in
    let file = sound_file-read rate (first_of c fitted list) points some_rate high_rate small range (subst (λ (n : ℕ). AreWithin n points) (sym played) fit.points) in
    record {
      entry_rate = is.rate_is;
      blocks_are = is.blocks_are;
      loop_is = is.loop_is;
      sound = file.sound;
      first_read = file.is_read;
      first_rate = file.rate_is;
      first_length = ap (λ (xs : List ℤ). length xs) file.samples_are ∙ played;
      first_is = file.samples_are ∙ ap (λ (l : Blocks). first_of c fitted l) (sym is.list_is);
      first_loop = ap (λ (xs : List ℤ). first_loop_of file.sound.sampler (length xs)) file.samples_are ∙ file.loop_is;
      plays = λ history i. is.plays history i ∙ ap (λ xs. round_of xs points i) (sym file.samples_are);
      legal = subst (λ (l : Blocks). IsLegal c.rules.decoder fitted.blocks (fixed_in c fitted) l) (sym is.list_is) legal;
      error_is = ap (λ (l : Blocks). sum_of c.rules.decoder l fitted.targets fitted.blocks) (sym is.list_is);
    }

-- a list of blocks that is stored as a track
pub track-entry : (r : Rules) (f : Format) (memory : List ℕ) (begin again rate : ℕ) (fitted : Fitted) (list : Blocks) → IsFlagged r f → IsFit (stored_codec r f) fitted
    → IsLegal r.decoder fitted.blocks (fixed_in (stored_codec r f) fitted) list → IsStoredAt r.decoder f memory begin again list fitted.blocks fitted.loop_block
    → IsEntryOf (stored_codec r f) rate fitted list (track_entry r.decoder f rate (track_at memory begin again fitted.blocks))
track-entry r f memory begin again rate fitted list laws fit legal stored =
    let d = r.decoder in
    let track = track_at memory begin again fitted.blocks in
    let is_stored = stored-list r f memory begin again list fitted laws legal.in_range stored in
    record {
      rate_is = refl;
      blocks_are = refl;
      loop_is = ap (loop_points d fitted.blocks) (stored-loop d f track list fitted.loop_block is_stored) ∙ points-are d fitted.blocks fitted.loop_block fitted.loop_frames (frames-are r f fitted laws fit);
      list_is = stored-read d f track list fitted.loop_block laws.kept.stored legal.in_range stored;
      plays = λ history i. plays-first r f memory begin again list fitted history i laws fit legal stored;
    }

-- what is known of a compiled sample: what was found for its segments, that their lists make up a legal one, and that all else can be stored
pub record IsMade (c : Codec) (out : SampleOut) (name : List ℕ) (rate : ℕ) (fitted : Fitted) : Type 0 where
  pub founds : List Found
  pub made : out ≡ out_of c name rate fitted founds
  pub legal : IsLegal c.rules.decoder fitted.blocks (fixed_in c fitted) (list_in founds)
  pub certified : IsCertified c (cert_bytes c.rules.kind (certs_of founds)) fitted (bounds_of founds) (levels_in founds)
  pub short : length name ≤ 16
  pub some_rate : 1 ≤ rate
  pub high_rate : rate ≤ 1000000
  pub fit : IsFit c fitted
  pub played : length (first_of c fitted (list_in founds)) ≡ played_of c fitted
  pub range : AreSamples (first_of c fitted (list_in founds))

-- so it can stand in a bank, with that list
abbrev pub stands : (c : Codec) (out : SampleOut) (name : List ℕ) (rate : ℕ) (fitted : Fitted) (m : IsMade c out name rate fitted) → IsOut c (out_of c name rate fitted m.founds)
stands c out name rate fitted m = record {
  short = m.short;
  some_rate = m.some_rate;
  high_rate = m.high_rate;
  fit = m.fit;
  played = m.played;
  range = m.range;
  list = list_in m.founds;
  in_range = m.legal.in_range;
  spelled = refl;
}

-- an entry of its list replays it
pub made-replays : (c : Codec) (out : SampleOut) (name : List ℕ) (rate : ℕ) (fitted : Fitted) (m : IsMade c out name rate fitted) (entry : Entry) → IsEntryOf c rate fitted (list_in m.founds) entry
    → Replays c entry (sound_file rate (first_of c fitted (list_in m.founds)) (points_of c.rules.decoder.samples fitted)) rate fitted (error_of c fitted (list_in m.founds))
made-replays c out name rate fitted m entry is = entry-replays c rate fitted (list_in m.founds) entry is m.fit m.some_rate m.high_rate m.played m.range m.legal

pub made-of : (c : Codec) (effort : Effort) (outs : List SampleOut) (j : ℕ) (out : SampleOut) (name : List ℕ) (rate : ℕ) (fitted : Fitted) → IsCodec c → All (IsOut c) outs → slice_get outs j ≡ Some out
    → IsCompiled c effort name rate fitted out → IsMade c out name rate fitted
made-of c effort outs j out name rate fitted laws are at compiled =
    let below = slice_get_within outs j out at in
    let is = subst (IsOut c) (get_or_from_slice_get outs j out out at ∙ compiled.made) (are j out below) in
    record {
      founds = compiled.founds;
      made = compiled.made;
      legal = chosen-legal c effort fitted compiled.founds laws is.fit compiled.chosen;
      certified = chosen-certified c effort fitted compiled.founds laws is.fit compiled.chosen;
      short = is.short;
      some_rate = is.some_rate;
      high_rate = is.high_rate;
      fit = is.fit;
      played = is.played;
      range = is.range;
    }

-- what is made of a list stands in the image
pub made-in-image : (base : ℕ) (outs : List SampleOut) (image : List ℕ) (j : ℕ) (out : SampleOut) (name : List ℕ) (rate : ℕ) (fitted : Fitted) (m : IsMade brr_codec out name rate fitted)
    → length outs ≤ 64 → All (IsOut brr_codec) outs → image_of base outs ≡ Ok image → slice_get outs j ≡ Some out
    → (track : Track) × InImage image j (track_entry brr brr_format rate track)
    × Replays brr_codec (track_entry brr brr_format rate track) (sound_file rate (first_of brr_codec fitted (list_in m.founds)) (points_of 16 fitted)) rate fitted (error_of brr_codec fitted (list_in m.founds))
made-in-image base outs image j got name rate fitted m few are laid got_at =
    let list = list_in m.founds in
    let is = stands brr_codec got name rate fitted m in
    let out = out_of brr_codec name rate fitted m.founds in
    let at : slice_get outs j ≡ Some out = got_at ∙ ap (λ (o : SampleOut). Some o) m.made in
    let parts = map part_of outs in
    let count = length-map outs part_of in
    let below = slice_get_within outs j out at in
    let all = All-from_recursion IsPart parts (out-parts outs (recursion_from_All (IsOut brr_codec) outs are)) in
    let stored = stored-in-image base outs j out is at in
    let there : slice_get parts j ≡ Some (part_of out) = slice_get-map part_of outs j ∙ ap (option_map part_of) at in
    let memory = memory_bytes base parts in
    let start = get_or (starts_in (4 * length parts) parts) j 0 in
    let again = get_or (agains_in (4 * length parts) parts) j 0 in
    let track = track_at memory start again fitted.blocks in
    let is_stored = stored-list brr_rules brr_format memory start again list fitted brr_is_flagged m.legal.in_range stored in
    let rates = get_or-map (λ (p : ImagePart). p.rate) parts j (part_of out) 0 (omega arith) ∙ ap (λ (p : ImagePart). p.rate) (get_or_from_slice_get parts j (part_of out) (part_of out) there) in (
      track,
      record {
        bank = image_from base parts;
        image_read = written_again base parts image (omega arith) (omega arith) all (image-written base outs are ∙ laid);
        within = (let rates = length-map parts (λ (p : ImagePart). p.rate) in omega arith);
        track = track;
        track_is = track-read memory start again fitted.blocks (stored-track brr brr_format track list fitted.loop_block is_stored);
        entry_is = ap (λ n. track_entry brr brr_format n track) (sym rates);
      },
      made-replays brr_codec got name rate fitted m (track_entry brr brr_format rate track) (track-entry brr_rules brr_format memory start again rate fitted list brr_is_flagged is.fit m.legal stored),
    )

-- and stands in its VAG file
pub made-in-vag : (out : SampleOut) (name : List ℕ) (rate : ℕ) (fitted : Fitted) (m : IsMade spu_codec out name rate fitted)
    → (track : Track) × InVag (vag_file name rate (bytes_of spu_codec fitted (list_in m.founds))) name (track_entry spu spu_format rate track)
    × Replays spu_codec (track_entry spu spu_format rate track) (sound_file rate (first_of spu_codec fitted (list_in m.founds)) (points_of 28 fitted)) rate fitted (error_of spu_codec fitted (list_in m.founds))
made-in-vag got name rate fitted m =
    let list = list_in m.founds in
    let is = stands spu_codec got name rate fitted m in
    let out = out_of spu_codec name rate fitted m.founds in
    let len = out-length spu_rules spu_format out spu_is_stored is in
    let few = is.fit.whole.few in
    let track = track_at out.blocks 0 0 fitted.blocks in
    let stored = out-stored spu_rules spu_format out 0 spu_is_stored is (λ told. absurd (false≢true (sym told))) in
    let is_stored = stored-list spu_rules spu_format out.blocks 0 0 list fitted spu_is_flagged m.legal.in_range stored in (
      track,
      record {
        vag = record { rate = rate; name = filled name; blocks = out.blocks };
        vag_read = vag_again name rate out.blocks is.short is.some_rate is.high_rate (omega arith);
        name_is = refl;
        track = track;
        track_is = spu-read out.blocks list fitted.blocks fitted.loop_block (omega arith) is_stored;
        entry_is = refl;
      },
      made-replays spu_codec got name rate fitted m (track_entry spu spu_format rate track) (track-entry spu_rules spu_format out.blocks 0 0 rate fitted list spu_is_flagged is.fit m.legal stored),
    )
