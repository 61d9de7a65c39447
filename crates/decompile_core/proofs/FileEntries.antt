-- The entries of a file come where none is too long.
use Rattle.std.proofs.Common.{◌≡◌, ℕ, zero, suc, ◌-◌, ◌*◌, ◌<◌, false, if◌then◌else◌, List, [], ◌∷◌, ◌++◌, length, get_or, refl, sym, ap, ◌∙◌, subst, arith}
use Rattle.std.specs.Prelude.{None, Result, Ok, Err}
use Rattle.adpcm_nums.specs.First.{first_where}
use Rattle.adpcm_nums.specs.Outcome.{◌>>=◌}
use Rattle.adpcm_nums.proofs.FirstLaws.{none_found}
use Rattle.brr_machine.specs.Brr.{brr}
use Rattle.spu_machine.specs.Spu.{spu}
use Rattle.ima_machine.specs.Ima.{samples_in}
use Rattle.player_model.specs.BrrFormat.{brr_format}
use Rattle.player_model.specs.SpuFormat.{spu_format}
use Rattle.player_model.specs.SpuTrack.{spu_track_of}
use Rattle.player_model.specs.ImaTrack.{ImaSound, blocks_of, ima_track_of}
use Rattle.player_model.specs.Track.{Track}
use Rattle.snes_directory.specs.declared.image.Image.{Image}
use Rattle.snes_directory.specs.Reading.{image_of}
use Rattle.vag_writer.specs.declared.vag.Vag.{Vag as VagFile}
use Rattle.vag_writer.specs.Reading.{vag_of}
use Rattle.ima_wave.specs.declared.file.ImaFile.{ImaFile}
use Rattle.ima_wave.specs.Reading.{ima_of}
use Rattle.decompile_core.specs.declared.form.Form.TheVariants.{Brr, Vag, Ima}
use Rattle.decompile_core.specs.declared.fault.DecompileFault.{DecompileFault}
use Rattle.decompile_core.specs.declared.fault.DecompileFault.TheVariants.{Image as OfImage, Vag as OfVag, Ima as OfIma, Track as OfTrack, TooMuch}
use Rattle.decompile_core.specs.declared.recovered.Recovered.{Recovered}
use Rattle.player_model.specs.Limit.{is_much}
use Rattle.decompile_core.specs.Recovered.{stored_recovered, sound_recovered}
use Rattle.snes_directory.specs.EntryTracks.{blocks_in, is_long}
use Rattle.decompile_core.specs.Decompiled.{or_refused, image_in, entries_of, entry_of, unless_long, image_decompiled, vag_in, short_track, vag_track, vag_recovered, ima_in, frames_of, short_sound, ima_track_in, ima_recovered, only, decompiled}
use Rattle.decompile_core.specs.Heard.{AreEntries, IsShort, sound_of}
use Rattle.decompile_core.proofs.FileSounds.{read_image}
use Rattle.decompile_core.proofs.ImaSteps.{found_with, ima_found}

same-read : (read : Result Image DecompileFault) (i k : Image) → read ≡ Ok i → read ≡ Ok k → i ≡ k
same-read read i k e f = let g : Ok i ≡ Ok k = sym e ∙ f in cc

-- an image that was read is the only one
pub image_entries : (bytes : List ℕ) (image : Image) (entries : List Recovered) → image_of bytes ≡ Ok image → decompiled Brr bytes ≡ Ok entries → AreEntries image (length image.starts) entries
unfolding image_in
image_entries bytes image entries read e =
    let gave = read_image bytes entries e in
    let told : or_refused (λ f. OfImage f) (image_of bytes) ≡ Ok image = ap (or_refused (λ f. OfImage f)) read in
    let same : gave.image ≡ image = same-read (or_refused (λ f. OfImage f) (image_of bytes)) gave.image image gave.image_is told in
    subst (λ i. AreEntries i (length i.starts) entries) same gave.entries_are

short-entry : (image : Image) (j : ℕ) (is : IsShort image j) → entry_of image j ≡ Ok (stored_recovered brr brr_format (get_or image.rates j 0) 0 is.track)
short-entry image j is = ap (λ r. or_refused (λ f. OfTrack f) r >>= (λ track. Ok (stored_recovered brr brr_format (get_or image.rates j 0) 0 track))) is.track_is

-- the first n entries come
pub record Come (image : Image) (n : ℕ) : Type 0 where
  pub list : List Recovered
  pub is : entries_of image n ≡ Ok list

entries-come : (image : Image) (n : ℕ) → ((j : ℕ) → j < n → IsShort image j) → Come image n
unfolding entries_of
entries-come image zero short = record { list = []; is = refl }
entries-come image (suc n) short =
    let before = entries-come image n (λ j h. short j (omega arith)) in
    let last = short n (omega arith) in
    let entry = stored_recovered brr brr_format (get_or image.rates n 0) 0 last.track in
    record {
      list = before.list ++ entry ∷ [];
      is = ap (λ r. r >>= (λ xs. entry_of image n >>= (λ x. Ok (xs ++ x ∷ [])))) before.is ∙ ap (λ r. r >>= (λ x. Ok (before.list ++ x ∷ []))) (short-entry image n last);
    }

pub image_comes : (bytes : List ℕ) (image : Image) → image_of bytes ≡ Ok image → ((j : ℕ) → j < length image.starts → IsShort image j) → (entries : List Recovered) × (decompiled Brr bytes ≡ Ok entries)
unfolding decompiled image_decompiled image_in
image_comes bytes image read short =
    let come = entries-come image (length image.starts) short in
    let none : first_where (is_long image) (length image.starts) ≡ None =
    none_found (is_long image) (length image.starts) (λ j h. let is = short j h in ap (λ r. is_much (blocks_in r) brr.samples) is.track_is ∙ is.few) in
    (come.list, ap (λ r. or_refused (λ f. OfImage f) r >>= (λ i. unless_long i (first_where (is_long i) (length i.starts)))) read ∙ ap (unless_long image) none ∙ come.is)

pub vag_comes : (bytes : List ℕ) (vag : VagFile) (t : Track) → vag_of bytes ≡ Ok vag → spu_track_of vag.blocks ≡ Ok t → is_much t.blocks spu.samples ≡ false
    → decompiled Vag bytes ≡ Ok (stored_recovered spu spu_format vag.rate (length vag.blocks - 16 * t.blocks) t ∷ [])
unfolding decompiled vag_recovered vag_track vag_in
vag_comes bytes vag t read track few =
    let entry : Track → Result Recovered DecompileFault = λ u. Ok (stored_recovered spu spu_format vag.rate (length vag.blocks - 16 * u.blocks) u) in
    let short : short_track t ≡ Ok t = ap (λ b. if b then Err (TooMuch t.blocks) else Ok t) few in
    ap (λ r. only (or_refused (λ f. OfVag f) r >>= (λ v. (or_refused (λ f. OfTrack f) (spu_track_of v.blocks) >>= short_track) >>= (λ u. Ok (stored_recovered spu spu_format v.rate (length v.blocks - 16 * u.blocks) u))))) read
    ∙ ap (λ r. only ((or_refused (λ f. OfTrack f) r >>= short_track) >>= entry)) track ∙ ap (λ r. only (r >>= entry)) short

pub ima_comes : (bytes : List ℕ) (file : ImaFile) (t : ImaSound) → ima_of bytes ≡ Ok file → ima_track_of (sound_of file) ≡ Ok t → is_much (blocks_of t) (samples_in file.align) ≡ false
    → decompiled Ima bytes ≡ Ok (sound_recovered file.rate file.at t ∷ [])
unfolding decompiled ima_recovered ima_track_in ima_in
ima_comes bytes file t read track few =
    let entry : ImaSound → Result Recovered DecompileFault = λ u. Ok (sound_recovered file.rate file.at u) in
    let same = ima_found (sound_of file) t (sym track) in
    let small : is_much (blocks_of (frames_of file)) (samples_in file.align) ≡ false = ap (λ (u : ImaSound). is_much (blocks_of u) (samples_in file.align)) (sym same) ∙ few in
    let short : short_sound (samples_in file.align) (frames_of file) ≡ Ok (frames_of file) = ap (λ b. if b then Err (TooMuch (blocks_of (frames_of file))) else Ok (frames_of file)) small in
    ap (λ r. only (or_refused (λ f. OfIma f) r >>= (λ v. (or_refused (λ f. OfTrack f) (ima_track_of (frames_of v)) >>= short_sound (samples_in v.align)) >>= (λ u. Ok (sound_recovered v.rate v.at u))))) read
    ∙ ap (λ r. only ((or_refused (λ f. OfTrack f) r >>= short_sound (samples_in file.align)) >>= entry)) (found_with (sound_of file) t file.frames None track)
    ∙ ap (λ r. only (r >>= entry)) short
    ∙ ap (λ (u : ImaSound). Ok (sound_recovered file.rate file.at u ∷ [])) (sym same)
