-- The entries of a file one by one, and what they sound as.
use Rattle.std.proofs.Common.{◌≡◌, ℕ, zero, suc, ◌+◌, ◌-◌, ◌*◌, ◌<◌, Bool, true, false, if◌then◌else◌, List, [], ◌∷◌, ◌++◌, length, get_or, refl, sym, ap, ◌∙◌, subst, arith, inl, inr}
use Rattle.std.specs.Prelude.{Option, Some, None, Result, Ok, Err}
use Rattle.std.proofs.lemmas.Bool.{cases_lt}
use Rattle.std.proofs.lemmas.List.{length-append, get_or_append_left, get_or-append-add}
use Rattle.adpcm_nums.specs.First.{first_where}
use Rattle.adpcm_nums.specs.Outcome.{◌>>=◌}
use Rattle.brr_machine.specs.Brr.{brr}
use Rattle.spu_machine.specs.Spu.{spu}
use Rattle.ima_machine.specs.Ima.{samples_in}
use Rattle.player_model.specs.BrrFormat.{brr_format}
use Rattle.player_model.specs.SpuFormat.{spu_format}
use Rattle.player_model.specs.SpuTrack.{spu_track_of}
use Rattle.player_model.specs.ImaTrack.{ImaSound, blocks_of, heard_ima, ima_track_of}
use Rattle.player_model.specs.Sound.{heard}
use Rattle.player_model.specs.Track.{Track}
use Rattle.snes_directory.specs.declared.image.Image.{Image}
use Rattle.decompile_core.specs.declared.form.Form.{Form}
use Rattle.decompile_core.specs.declared.form.Form.TheVariants.{Brr, Vag, Ima}
use Rattle.decompile_core.specs.declared.fault.DecompileFault.{DecompileFault}
use Rattle.decompile_core.specs.declared.fault.DecompileFault.TheVariants.{Track as OfTrack, TooMuch}
use Rattle.decompile_core.specs.declared.recovered.Recovered.{Recovered}
use Rattle.player_model.specs.Limit.{is_much}
use Rattle.decompile_core.specs.Recovered.{stored_recovered, sound_recovered}
use Rattle.snes_directory.specs.EntryTracks.{is_long, track_at}
use Rattle.decompile_core.specs.Decompiled.{or_refused, image_in, entries_of, entry_of, unless_long, image_decompiled, vag_in, short_track, vag_track, vag_recovered, ima_in, frames_of, short_sound, ima_track_in, ima_recovered, only, decompiled}
use Rattle.decompile_core.specs.Heard.{sound_of, player_of, IsHeard, AreEntries}
use Rattle.decompile_core.proofs.FileWays.{brr_shifts, brr_way, spu_shifts, spu_way}
use Rattle.decompile_core.proofs.ImaSteps.{found_with, ima_found, once_scaled}
use Rattle.decompile_core.proofs.Sounding.{stored_sounds}

-- two readings of which both gave something
pub record BothGave {X Y : Type 0} (r : Result X DecompileFault) (s : X → Result Y DecompileFault) (y : Y) : Type 0 where
  pub first : X
  pub first_is : r ≡ Ok first
  pub next_is : s first ≡ Ok y

pub both_gave : {X Y : Type 0} (r : Result X DecompileFault) (s : X → Result Y DecompileFault) (y : Y) → (r >>= s) ≡ Ok y → BothGave r s y
both_gave (Ok x) s y e = record { first = x; first_is = refl; next_is = e }
both_gave (Err f) s y e = absurd (let g : Err f ≡ Ok y = e in cc)

-- what was not refused was read
pub not_refused : {X E : Type 0} (fault : E → DecompileFault) (r : Result X E) (x : X) → or_refused fault r ≡ Ok x → r ≡ Ok x
not_refused fault (Ok y) x e = let same : y ≡ x = cc in ap (λ z. Ok z) same
not_refused fault (Err g) x e = absurd (let h : Err (fault g) ≡ Ok x = e in cc)

-- what was read
abbrev given : {X : Type 0} → X → Result X DecompileFault
given x = Ok x

ok-is : {X : Type 0} (x y : X) → given x ≡ Ok y → y ≡ x
ok-is x y e = cc

entry-more : (image : Image) (n : ℕ) (before : List Recovered) (entry : Recovered) → AreEntries image n before → entry_of image n ≡ Ok entry → AreEntries image (suc n) (before ++ entry ∷ [])
entry-more image n before entry are is = record {
  count = length-append before (entry ∷ []) ∙ omega (arith, are.count);
  each = λ j other h. elim (cases_lt j n) [
    | inl less ↦ are.each j other less ∙ ap (λ (x : Recovered). Ok x) (sym (get_or_append_left before (entry ∷ []) other j (omega (arith, are.count, less))))
    | inr last ↦ (let here : j ≡ n = omega (arith, h, last) in
        let place : length before + 0 ≡ j = omega (arith, here, are.count) in
        ap (entry_of image) here ∙ is ∙ ap (λ (x : Recovered). Ok x) (sym (ap (λ k. get_or (before ++ entry ∷ []) k other) (sym place) ∙ get_or-append-add before (entry ∷ []) 0 other)))
  ];
}

pub entries_each : (image : Image) (n : ℕ) (entries : List Recovered) → entries_of image n ≡ Ok entries → AreEntries image n entries
unfolding entries_of
entries_each image zero entries e =
    subst (AreEntries image 0) (sym (ok-is [] entries e)) (record { count = refl; each = λ j other h. absurd (omega arith) })
entries_each image (suc n) entries e =
    let outer = both_gave (entries_of image n) (λ before. entry_of image n >>= (λ entry. Ok (before ++ entry ∷ []))) entries e in
    let inner = both_gave (entry_of image n) (λ entry. Ok (outer.first ++ entry ∷ [])) entries outer.next_is in
    subst (AreEntries image (suc n)) (sym (ok-is (outer.first ++ inner.first ∷ []) entries inner.next_is)) (entry-more image n outer.first inner.first (entries_each image n outer.first outer.first_is) inner.first_is)

from-long : (image : Image) (o : Option ℕ) (entries : List Recovered) → unless_long image o ≡ Ok entries → entries_of image (length image.starts) ≡ Ok entries
from-long image None entries e = e
from-long image (Some i) entries e = absurd (let g : Err _ ≡ Ok entries = e in cc)

-- the image that was read, and its entries
pub record ReadImage (bytes : List ℕ) (entries : List Recovered) : Type 0 where
  pub image : Image
  pub image_is : image_in bytes ≡ Ok image
  pub entries_are : AreEntries image (length image.starts) entries

pub read_image : (bytes : List ℕ) (entries : List Recovered) → decompiled Brr bytes ≡ Ok entries → ReadImage bytes entries
unfolding decompiled image_decompiled
read_image bytes entries e =
    let read = both_gave (image_in bytes) (λ image. unless_long image (first_where (is_long image) (length image.starts))) entries e in
    record { image = read.first; image_is = read.first_is; entries_are = entries_each read.first _ entries (from-long read.first _ entries read.next_is) }

-- an entry of an image
brr-heard : (bytes : List ℕ) (entries : List Recovered) (j : ℕ) (other : Recovered) → decompiled Brr bytes ≡ Ok entries → j < length entries → IsHeard Brr bytes j (get_or entries j other)
unfolding player_of
brr-heard bytes entries j other e within =
    let read = read_image bytes entries e in
    let image = read.image in
    let is = read.entries_are.each j other (omega (arith, read.entries_are.count, within)) in
    let found = both_gave (or_refused (λ f. OfTrack f) (track_at image j)) (λ track. Ok (stored_recovered brr brr_format (get_or image.rates j 0) 0 track)) (get_or entries j other) is in
    let track = found.first in
    let way = brr_way image.memory (get_or image.starts j 0) (get_or image.agains j 0) track (not_refused (λ f. OfTrack f) (track_at image j) track found.first_is) in
    subst (IsHeard Brr bytes j) (sym (ok-is _ (get_or entries j other) found.next_is)) (record {
      output = heard brr brr_format track;
      player_is = ap (λ r. r >>= (λ i. or_refused (λ f. OfTrack f) (track_at i j) >>= (λ t. Ok (heard brr brr_format t)))) read.image_is
          ∙ ap (λ r. r >>= (λ t. Ok (heard brr brr_format t))) found.first_is;
      sounds = stored_sounds brr brr_format (get_or image.rates j 0) 0 track brr_shifts (omega arith) way;
    })

-- the only entry of a list
only-one : (entry : Recovered) (j : ℕ) (other : Recovered) → j < 1 → get_or (entry ∷ []) j other ≡ entry
only-one entry j other h = let first : j ≡ 0 = omega (arith, h) in ap (λ k. get_or (entry ∷ []) k other) first

short-is : (t u : Track) (b : Bool) → (if b then Err (TooMuch t.blocks) else Ok t) ≡ given u → u ≡ t
short-is t u true e = absurd (let g : Err (TooMuch t.blocks) ≡ Ok u = e in cc)
short-is t u false e = cc

-- the entry of a VAG file
vag-heard : (bytes : List ℕ) (entry : Recovered) → vag_recovered bytes ≡ Ok entry → IsHeard Vag bytes 0 entry
unfolding player_of vag_recovered vag_track
vag-heard bytes entry e =
    let read = both_gave (vag_in bytes) (λ vag. vag_track vag >>= (λ track. Ok (stored_recovered spu spu_format vag.rate (length vag.blocks - 16 * track.blocks) track))) entry e in
    let vag = read.first in
    let found = both_gave (vag_track vag) (λ track. Ok (stored_recovered spu spu_format vag.rate (length vag.blocks - 16 * track.blocks) track)) entry read.next_is in
    let walk = both_gave (or_refused (λ f. OfTrack f) (spu_track_of vag.blocks)) short_track found.first found.first_is in
    let track = walk.first in
    let same = short-is track found.first (is_much track.blocks spu.samples) walk.next_is in
    let way = spu_way vag.blocks track (not_refused (λ f. OfTrack f) (spu_track_of vag.blocks) track walk.first_is) in
    let whole = ok-is _ entry found.next_is ∙ ap (λ (t : Track). stored_recovered spu spu_format vag.rate (length vag.blocks - 16 * t.blocks) t) same in
    subst (IsHeard Vag bytes 0) (sym whole) (record {
      output = heard spu spu_format track;
      player_is = ap (λ r. r >>= (λ v. or_refused (λ f. OfTrack f) (spu_track_of v.blocks) >>= (λ t. Ok (heard spu spu_format t)))) read.first_is
          ∙ ap (λ r. r >>= (λ t. Ok (heard spu spu_format t))) walk.first_is;
      sounds = stored_sounds spu spu_format vag.rate (length vag.blocks - 16 * track.blocks) track spu_shifts (omega arith) way;
    })

short-sound-is : (t u : ImaSound) (b : Bool) → (if b then Err (TooMuch (blocks_of t)) else Ok t) ≡ given u → u ≡ t
short-sound-is t u true e = absurd (let g : Err (TooMuch (blocks_of t)) ≡ Ok u = e in cc)
short-sound-is t u false e = cc

-- the entry of a WAVE file of IMA ADPCM
ima-heard : (bytes : List ℕ) (entry : Recovered) → ima_recovered bytes ≡ Ok entry → IsHeard Ima bytes 0 entry
unfolding player_of ima_recovered ima_track_in
ima-heard bytes entry e =
    let read = both_gave (ima_in bytes) (λ file. ima_track_in file >>= (λ track. Ok (sound_recovered file.rate file.at track))) entry e in
    let file = read.first in
    let found = both_gave (ima_track_in file) (λ track. Ok (sound_recovered file.rate file.at track)) entry read.next_is in
    let walk = both_gave (or_refused (λ f. OfTrack f) (ima_track_of (frames_of file))) (short_sound (samples_in file.align)) found.first found.first_is in
    let plain = not_refused (λ f. OfTrack f) (ima_track_of (frames_of file)) walk.first walk.first_is in
    let same = short-sound-is walk.first found.first (is_much (blocks_of walk.first) (samples_in file.align)) walk.next_is ∙ ima_found (frames_of file) walk.first (sym plain) in
    let whole = ok-is _ entry found.next_is ∙ ap (λ (t : ImaSound). sound_recovered file.rate file.at t) same in
    subst (IsHeard Ima bytes 0) (sym whole) (record {
      output = heard_ima (sound_of file);
      player_is = ap (λ r. r >>= (λ v. or_refused (λ f. OfTrack f) (ima_track_of (sound_of v)) >>= (λ t. Ok (heard_ima t)))) read.first_is
          ∙ ap (λ r. or_refused (λ f. OfTrack f) r >>= (λ t. Ok (heard_ima t))) (found_with (frames_of file) walk.first file.frames file.at plain);
      sounds = λ settles i. sym (once_scaled (heard_ima (sound_of file) i));
    })

only-entry : (read : Result Recovered DecompileFault) (entries : List Recovered) (j : ℕ) (other : Recovered) → only read ≡ Ok entries → j < length entries → (entry : Recovered) × (read ≡ Ok entry) × (get_or entries j other ≡ entry) × (j ≡ 0)
only-entry read entries j other e within =
    let gave = both_gave read (λ entry. Ok (entry ∷ [])) entries e in
    let list = ok-is (gave.first ∷ []) entries gave.next_is in
    let one : j < 1 = omega (arith, within, ap length list) in
    (gave.first, gave.first_is, ap (λ (xs : List Recovered). get_or xs j other) list ∙ only-one gave.first j other one, omega (arith, one))

-- each entry sounds as its player
pub are_heard : (form : Form) (bytes : List ℕ) (entries : List Recovered) (j : ℕ) (other : Recovered) → decompiled form bytes ≡ Ok entries → j < length entries → IsHeard form bytes j (get_or entries j other)
unfolding decompiled
are_heard Brr bytes entries j other e within = brr-heard bytes entries j other e within
are_heard Vag bytes entries j other e within =
    let one = only-entry (vag_recovered bytes) entries j other e within in
    subst (λ k. IsHeard Vag bytes k (get_or entries j other)) (sym one.3) (subst (IsHeard Vag bytes 0) (sym one.2) (vag-heard bytes one.0 one.1))
are_heard Ima bytes entries j other e within =
    let one = only-entry (ima_recovered bytes) entries j other e within in
    subst (λ k. IsHeard Ima bytes k (get_or entries j other)) (sym one.3) (subst (IsHeard Ima bytes 0) (sym one.2) (ima-heard bytes one.0 one.1))
