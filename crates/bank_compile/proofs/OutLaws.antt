-- A compiled sample is one that can be written, alone or into an image.
use Rattle.std.proofs.Common.{◌≡◌, ℕ, ◌+◌, ◌*◌, ◌/◌, ◌≤◌, refl, sym, ap, ◌∙◌, arith, List, [], ◌∷◌, length, map, Option, Some, None, Ok, false}
use Rattle.std.specs.Prelude.{IfSome}
use Rattle.std.specs.List.{sum_by, All, AllByRecursion}
use Rattle.std.proofs.lemmas.Bool.{cond-false, le-ltb}
use Rattle.std.proofs.lemmas.List.{take_all, length-map}
use Rattle.std.proofs.lemmas.List.Elements.{recursion_from_All}
use Rattle.std.proofs.lemmas.List.Sums.{sum_by-cons}
use Rattle.std.proofs.lemmas.Nat.{div-mul-add}
use Rattle.adpcm_nums.specs.Outcome.{◌>>=◌}
use Rattle.machine_core.specs.Rules.{Rules}
use Rattle.block_flags.specs.Flags.{tells_start}
use Rattle.brr_machine.specs.Brr.{brr}
use Rattle.brr_machine.specs.BrrRules.{brr_rules}
use Rattle.player_model.specs.Format.{Format}
use Rattle.player_model.specs.BrrFormat.{brr_format}
use Rattle.player_model.specs.Looped.{IsStoredAt}
use Rattle.player_model.specs.Track.{loop_block_of}
use Rattle.player_model.proofs.StoredBytes.{length-front}
use Rattle.player_model.proofs.StoredTracks.{stored-track, stored-loop}
use Rattle.player_model.proofs.BrrTracks.{track-read}
use Rattle.snes_directory.specs.Layout.{end_of}
use Rattle.snes_directory.specs.Part.{IsPart, blocks_of, loop_address}
use Rattle.snes_directory.specs.Spelling.{image_file, written_image}
use Rattle.vag_writer.specs.Spelling.{vag_file, written_vag}
use Rattle.bank_compile.specs.declared.sample.SampleOut.{SampleOut}
use Rattle.bank_kinds.specs.Codec.{IsStoredCodec, stored_codec}
use Rattle.bank_kinds.specs.Kinds.{brr_codec}
use Rattle.bank_kinds.specs.Laws.{brr_is_stored, brr_is_flagged}
use Rattle.bank_compile.specs.Bank.{IsOut, part_of, image_of}
use Rattle.bank_compile.proofs.StoredLaws.{track_at, stored-list}

-- a sample has whole blocks
pub out-length : (r : Rules) (f : Format) (out : SampleOut) → IsStoredCodec r f → IsOut (stored_codec r f) out → length out.blocks ≡ f.size * out.fitted.blocks
out-length r f out laws is =
    ap (λ (bs : List ℕ). length bs) is.spelled
    ∙ length-front r.decoder f is.list out.fitted.blocks out.fitted.loop_block out.fitted.blocks laws.stored is.in_range (omega arith)

-- in BRR nine bytes a block
nine-bytes : (out : SampleOut) → IsOut brr_codec out → length out.blocks ≡ 9 * out.fitted.blocks
nine-bytes out is = out-length brr_rules brr_format out brr_is_stored is

nine-times : (n : ℕ) → 9 * n / 9 ≡ n
nine-times n = let e : 9 * n ≡ n * 9 + 0 = omega arith in ap (λ z. z / 9) e ∙ div-mul-add n 9 0 (omega arith)

-- so the image counts as many blocks as were fitted
pub out-blocks : (out : SampleOut) → IsOut brr_codec out → blocks_of (part_of out) ≡ out.fitted.blocks
out-blocks out is = ap (λ z. z / 9) (nine-bytes out is) ∙ nine-times out.fitted.blocks

-- the player of a sample goes on at its loop block
pub goes-on : (start : ℕ) (loop_block : Option ℕ) → IfSome loop_block (λ l. loop_address start loop_block ≡ start + 9 * l)
goes-on start None = tt
goes-on start (Some l) = refl

-- alone its bytes are the list's, wherever a player would go on that is not told
pub out-stored : (r : Rules) (f : Format) (out : SampleOut) (again : ℕ) → IsStoredCodec r f → (is : IsOut (stored_codec r f) out)
    → (tells_start f.kind ≡ false → IfSome out.fitted.loop_block (λ l. again ≡ 0 + f.size * l))
    → IsStoredAt r.decoder f out.blocks 0 again is.list out.fitted.blocks out.fitted.loop_block
out-stored r f out again laws is goes = record {
  some = is.fit.whole.some;
  loop_within = is.fit.whole.loop_block;
  bytes = take_all (f.size * out.fitted.blocks) out.blocks (omega (arith, out-length r f out laws is)) ∙ is.spelled;
  again_is = goes;
}

-- so the sample can be written into an image
pub out-part : (out : SampleOut) → IsOut brr_codec out → IsPart (part_of out)
out-part out is =
    let len = nine-bytes out is in
    let few = is.fit.whole.few in
    let count = out-blocks out is in
    let again = loop_address 0 out.fitted.loop_block in
    let track = track_at out.blocks 0 again in
    let stored = stored-list brr_rules brr_format out.blocks 0 again is.list out.fitted brr_is_flagged is.in_range (out-stored brr_rules brr_format out again brr_is_stored is (λ told. goes-on 0 out.fitted.loop_block)) in
    let read = track-read out.blocks 0 again out.fitted.blocks (stored-track brr brr_format (track out.fitted.blocks) is.list out.fitted.loop_block stored) in
    record {
      some_rate = is.some_rate;
      high_rate = is.high_rate;
      small = omega arith;
      whole = omega arith;
      track = read ∙ ap (λ n. Ok (track n)) (sym count);
      loop_block = ap (λ n. loop_block_of brr_format (track n)) count ∙ stored-loop brr brr_format (track out.fitted.blocks) is.list out.fitted.loop_block stored;
    }

-- and so can all samples of a bank
pub out-parts : (outs : List SampleOut) → AllByRecursion (IsOut brr_codec) outs → AllByRecursion IsPart (map part_of outs)
out-parts [] are = tt
out-parts (out ∷ outs) are = (out-part out are.0, out-parts outs are.1)

-- so the image has as many blocks as the samples
pub all-blocks : (outs : List SampleOut) → AllByRecursion (IsOut brr_codec) outs → sum_by blocks_of (map part_of outs) ≡ sum_by (λ out. out.fitted.blocks) outs
all-blocks [] are = refl
all-blocks (out ∷ outs) are =
    let here = out-blocks out are.0 in
    let later = all-blocks outs are.1 in
    omega (arith, here, later, sum_by-cons blocks_of (part_of out) (map part_of outs), sum_by-cons (λ (o : SampleOut). o.fitted.blocks) out outs)

-- the image that is written of them is the bank's, or both are refused alike
pub image-written : (base : ℕ) (outs : List SampleOut) → All (IsOut brr_codec) outs → written_image base (map part_of outs) ≡ image_of base outs
unfolding written_image image_of
image-written base outs are =
    let count = length-map outs part_of in
    let blocks = all-blocks outs (recursion_from_All (IsOut brr_codec) outs are) in
    let file = image_file base (map part_of outs) in
    ap (λ n. end_of base n (sum_by blocks_of (map part_of outs)) >>= (λ total. Ok file)) count
    ∙ ap (λ n. end_of base (length outs) n >>= (λ total. Ok file)) blocks

-- a VAG file whose name is short enough is written
pub vag-written : (name text : List ℕ) (rate : ℕ) (blocks held bytes : List ℕ) → text ≡ name → held ≡ blocks → length name ≤ 16 → written_vag text rate held ≡ Ok bytes → bytes ≡ vag_file name rate blocks
unfolding written_vag
vag-written name text rate blocks held bytes same kept short written =
    let fits : length text ≤ 16 = (let count = ap (λ (xs : List ℕ). length xs) same in omega (arith, count)) in
    let file : written_vag text rate held ≡ Ok (vag_file text rate held) = cond-false _ _ _ (le-ltb 16 (length text) fits) in
    let got : bytes ≡ vag_file text rate held = cc in
    got ∙ (ap (λ (n : List ℕ). vag_file n rate held) same ∙ ap (vag_file name rate) kept)
