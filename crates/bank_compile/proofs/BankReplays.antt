-- A stored bank replays its samples.
use Rattle.std.proofs.Common.{◌≡◌, ℕ, zero, suc, ◌≤◌, refl, sym, ap, ◌∙◌, subst, IsTrue, List, [], ◌∷◌, ◌++◌, length, Some, Result, Ok, Err, arith}
use Rattle.std.specs.Prelude.{slice_get}
use Rattle.std.specs.List.{All, AllByRecursion, flat_map}
use Rattle.std.proofs.lemmas.List.Elements.{recursion_from_All}
use Rattle.std.proofs.lemmas.Option.{slice_get_within, same_Some}
use Rattle.adpcm_nums.specs.Outcome.{◌>>=◌}
use Rattle.host_files.specs.declared.named_file.NamedFile.{NamedFile}
use Rattle.machine_core.specs.declared.state.Kind.{Kind}
use Rattle.machine_core.specs.declared.state.Kind.TheVariants.{Brr, Spu, Ima}
use Rattle.machine_core.specs.Blocks.{Blocks}
use Rattle.ima_machine.specs.Ima.{is_align}
use Rattle.brr_machine.specs.Brr.{brr}
use Rattle.spu_machine.specs.Spu.{spu}
use Rattle.player_model.specs.BrrFormat.{brr_format}
use Rattle.player_model.specs.SpuFormat.{spu_format}
use Rattle.loop_fit.specs.declared.fitted.Fitted.{Fitted}
use Rattle.loop_fit.specs.Fit.{points_of}
use Rattle.manifest_reader.specs.Stored.{first_pass_of, cert_name_of}
use Rattle.snes_directory.specs.declared.fault.LayFault.{LayFault}
use Rattle.bank_compile.specs.declared.sample.SampleOut.{SampleOut}
use Rattle.bank_kinds.specs.Codec.{Codec}
use Rattle.bank_kinds.specs.Kinds.{codec_for, brr_codec}
use Rattle.bank_kinds.specs.Laws.{is_codec_for}
use Rattle.bank_kinds.specs.Certified.{IsCertified}
use Rattle.bank_kinds.specs.Fits.{first_of, error_of}
use Rattle.manifest_reader.specs.declared.effort.Effort.{Effort}
use Rattle.bank_compile.specs.Sample.{IsCompiled, list_in, out_of}
use Rattle.bank_compile.specs.Bank.{IsOut, sound_file, sample_files, image_of, image_files, bank_of}
use Rattle.bank_kinds.specs.Replay.{Entry, IsHeld, InImage, InVag, InIma, StandsIn, Replays, SampleReplays, track_entry}
use Rattle.bank_compile.proofs.Replaying.{IsMade, made-of, made-in-image, made-in-vag}
use Rattle.bank_compile.proofs.ImaReplays.{made-in-ima}

-- what holds of two lists holds of each
all-front : {X : Type 0} (P : X → Type 0) (xs ys : List X) → AllByRecursion P (xs ++ ys) → AllByRecursion P xs
all-front P [] ys h = tt
all-front P (x ∷ xs) ys h = (h.0, all-front P xs ys h.1)

all-back : {X : Type 0} (P : X → Type 0) (xs ys : List X) → AllByRecursion P (xs ++ ys) → AllByRecursion P ys
all-back P [] ys h = h
all-back P (x ∷ xs) ys h = all-back P xs ys h.1

-- what holds of the pieces of all elements holds of those of one
all-pieces : {X Y : Type 0} (P : Y → Type 0) (f : X → List Y) (xs : List X) (j : ℕ) (x : X) → AllByRecursion P (flat_map f xs) → slice_get xs j ≡ Some x → AllByRecursion P (f x)
all-pieces P f [] j x h at = let within = slice_get_within [] j x at in absurd (omega arith)
all-pieces P f (y ∷ xs) zero x h at = subst (λ z. AllByRecursion P (f z)) (same_Some _ _ at) (all-front P (f y) (flat_map f xs) h)
all-pieces P f (y ∷ xs) (suc j) x h at = all-pieces P f xs j x (all-back P (f y) (flat_map f xs) h) at

-- the files of a bank: those of all blocks, and then those of each sample
record AreFiles (images : Result (List NamedFile) LayFault) (pieces : List NamedFile) (files : List NamedFile) : Type 0 where
  first : List NamedFile
  first_is : images ≡ Ok first
  files_are : first ++ pieces ≡ files

are-files : (images : Result (List NamedFile) LayFault) (pieces files : List NamedFile) → (images >>= (λ images. Ok (images ++ pieces))) ≡ Ok files → AreFiles images pieces files
are-files (Ok images) pieces files is = record { first = images; first_is = refl; files_are = cc }
are-files (Err fault) pieces files is = absurd (cc)

-- the image is one file
one-image : (image : Result (List ℕ) LayFault) (bank : List ℕ) (files : List NamedFile) → (image >>= (λ image. Ok (record { name = bank; bytes = image } ∷ []))) ≡ Ok files
    → (bytes : List ℕ) × (image ≡ Ok bytes) × (record { name = bank; bytes = bytes } ∷ [] ≡ files)
one-image (Ok bytes) bank files is = (bytes, refl, cc)
one-image (Err fault) bank files is = absurd (cc)

-- they are held
held-files : (content : List ℕ → List ℕ) (images : Result (List NamedFile) LayFault) (pieces files : List NamedFile) → (a : AreFiles images pieces files) → All (IsHeld content) files
    → AllByRecursion (IsHeld content) (a.first ++ pieces)
held-files content images pieces files a held = recursion_from_All (IsHeld content) _ (subst (λ (fs : List NamedFile). All (IsHeld content) fs) (sym a.files_are) held)

-- a bank, one of its samples, and what was made of that
record IsIn (kind : Kind) (block : ℕ) (content : List ℕ → List ℕ) (bank : List ℕ) (base : ℕ) (outs : List SampleOut) (j : ℕ) (out : SampleOut) (name : List ℕ) (rate : ℕ) (fitted : Fitted) : Type 0 where
  m : IsMade (codec_for kind block) out name rate fitted
  -- the files of all blocks are held, and so are those of the sample
  first : List NamedFile
  first_is : image_files kind bank base outs ≡ Ok first
  first_held : AllByRecursion (IsHeld content) first
  held : AllByRecursion (IsHeld content) (sample_files kind block bank (out_of (codec_for kind block) name rate fitted m.founds))

is-in : (kind : Kind) (block : ℕ) (content : List ℕ → List ℕ) (bank : List ℕ) (base : ℕ) (outs : List SampleOut) (files : List NamedFile) (j : ℕ) (out : SampleOut) (effort : Effort) (name : List ℕ) (rate : ℕ) (fitted : Fitted)
    → IsTrue (is_align block) → All (IsOut (codec_for kind block)) outs → bank_of kind block bank base outs ≡ Ok files → All (IsHeld content) files → slice_get outs j ≡ Some out
    → IsCompiled (codec_for kind block) effort name rate fitted out → IsIn kind block content bank base outs j out name rate fitted
unfolding bank_of
is-in kind block content bank base outs files j out effort name rate fitted fits are stored held at compiled =
    let pieces = flat_map (sample_files kind block bank) outs in
    let a = are-files (image_files kind bank base outs) pieces files stored in
    let all = held-files content (image_files kind bank base outs) pieces files a held in
    let m = made-of (codec_for kind block) effort outs j out name rate fitted (is_codec_for kind block fits) are at compiled in
    let made = out_of (codec_for kind block) name rate fitted m.founds in
    record {
      m = m;
      first = a.first;
      first_is = a.first_is;
      first_held = all-front (IsHeld content) a.first _ all;
      held = all-pieces (IsHeld content) (sample_files kind block bank) outs j made (all-back (IsHeld content) a.first _ all) (at ∙ ap (λ (o : SampleOut). Some o) m.made);
    }

-- the first pass of a sample
abbrev pass : Codec → ℕ → Fitted → Blocks → List ℕ
pass c rate fitted list = sound_file rate (first_of c fitted list) (points_of c.rules.decoder.samples fitted)

-- it replays where an entry stands for it, with its first pass
replays-held : (kind : Kind) (block : ℕ) (content : List ℕ → List ℕ) (bank : List ℕ) (j : ℕ) (out : SampleOut) (name : List ℕ) (rate : ℕ) (fitted : Fitted) (m : IsMade (codec_for kind block) out name rate fitted) (entry : Entry)
    → StandsIn kind block content bank name j fitted.frames entry → Replays (codec_for kind block) entry (pass (codec_for kind block) rate fitted (list_in m.founds)) rate fitted (error_of (codec_for kind block) fitted (list_in m.founds))
    → content (first_pass_of bank name) ≡ pass (codec_for kind block) rate fitted (list_in m.founds) → SampleReplays kind block content bank name j rate fitted out.report.error
replays-held kind block content bank j out name rate fitted m entry stands replays first =
    let c = codec_for kind block in
    let error : error_of c fitted (list_in m.founds) ≡ out.report.error = ap (λ (o : SampleOut). o.report.error) (sym m.made) in
    record {
      entry = entry;
      stands = stands;
      replays = subst (λ (b : List ℕ). Replays c entry b rate fitted out.report.error) (sym first)
          (subst (λ (e : ℕ). Replays c entry (pass c rate fitted (list_in m.founds)) rate fitted e) error replays);
    }

-- a sample of a bank with an image
in-image : (block : ℕ) (content : List ℕ → List ℕ) (bank : List ℕ) (base : ℕ) (outs : List SampleOut) (j : ℕ) (out : SampleOut) (name : List ℕ) (rate : ℕ) (fitted : Fitted)
    → length outs ≤ 64 → All (IsOut brr_codec) outs → slice_get outs j ≡ Some out → IsIn Brr block content bank base outs j out name rate fitted → SampleReplays Brr block content bank name j rate fitted out.report.error
in-image block content bank base outs j out name rate fitted few are at is =
    let image = one-image (image_of base outs) bank is.first is.first_is in
    let own = made-in-image base outs image.0 j out name rate fitted is.m few are image.1 at in
    let entry = track_entry brr brr_format rate own.0 in
    let front = subst (λ (fs : List NamedFile). AllByRecursion (IsHeld content) fs) (sym image.2) is.first_held in
    replays-held Brr block content bank j out name rate fitted is.m entry (subst (λ (b : List ℕ). InImage b j entry) (sym front.0) own.1) own.2 is.held.0

-- a sample of a bank of VAG files
in-vag : (block : ℕ) (content : List ℕ → List ℕ) (bank : List ℕ) (base : ℕ) (outs : List SampleOut) (j : ℕ) (out : SampleOut) (name : List ℕ) (rate : ℕ) (fitted : Fitted)
    → IsIn Spu block content bank base outs j out name rate fitted → SampleReplays Spu block content bank name j rate fitted out.report.error
in-vag block content bank base outs j out name rate fitted is =
    let own = made-in-vag out name rate fitted is.m in
    let entry = track_entry spu spu_format rate own.0 in
    replays-held Spu block content bank j out name rate fitted is.m entry (subst (λ (b : List ℕ). InVag b name entry) (sym is.held.0) own.1) own.2 is.held.1.0

-- a sample of a bank of WAVE files of IMA ADPCM
in-ima : (block : ℕ) (content : List ℕ → List ℕ) (bank : List ℕ) (base : ℕ) (outs : List SampleOut) (j : ℕ) (out : SampleOut) (name : List ℕ) (rate : ℕ) (fitted : Fitted)
    → IsTrue (is_align block) → IsIn Ima block content bank base outs j out name rate fitted → SampleReplays Ima block content bank name j rate fitted out.report.error
in-ima block content bank base outs j out name rate fitted fits is =
    let own = made-in-ima block fits out name rate fitted is.m in
    replays-held Ima block content bank j out name rate fitted is.m own.0 (subst (λ (b : List ℕ). InIma b block fitted.frames own.0) (sym is.held.0) own.1) own.2 is.held.1.0

-- sample j of a bank replays, whatever its format
pub bank-replays : (kind : Kind) (block : ℕ) (content : List ℕ → List ℕ) (bank : List ℕ) (base : ℕ) (outs : List SampleOut) (files : List NamedFile) (j : ℕ) (out : SampleOut) (effort : Effort) (name : List ℕ) (rate : ℕ) (fitted : Fitted)
    → IsTrue (is_align block) → length outs ≤ 64 → All (IsOut (codec_for kind block)) outs → bank_of kind block bank base outs ≡ Ok files
    → All (IsHeld content) files → slice_get outs j ≡ Some out → IsCompiled (codec_for kind block) effort name rate fitted out
    → SampleReplays kind block content bank name j rate fitted out.report.error
bank-replays Brr block content bank base outs files j out effort name rate fitted fits few are stored held at compiled =
    in-image block content bank base outs j out name rate fitted few are at (is-in Brr block content bank base outs files j out effort name rate fitted fits are stored held at compiled)
bank-replays Spu block content bank base outs files j out effort name rate fitted fits few are stored held at compiled =
    in-vag block content bank base outs j out name rate fitted (is-in Spu block content bank base outs files j out effort name rate fitted fits are stored held at compiled)
bank-replays Ima block content bank base outs files j out effort name rate fitted fits few are stored held at compiled =
    in-ima block content bank base outs j out name rate fitted fits (is-in Ima block content bank base outs files j out effort name rate fitted fits are stored held at compiled)

-- its certificate is held
cert-held : (kind : Kind) (block : ℕ) (content : List ℕ → List ℕ) (bank : List ℕ) (out : SampleOut) → AllByRecursion (IsHeld content) (sample_files kind block bank out) → content (cert_name_of bank out.name) ≡ out.cert
cert-held Brr block content bank out held = held.1.0
cert-held Spu block content bank out held = held.1.1.0
cert-held Ima block content bank out held = held.1.1.0

-- and shows the told bound
pub bank-certifies : (kind : Kind) (block : ℕ) (content : List ℕ → List ℕ) (bank : List ℕ) (base : ℕ) (outs : List SampleOut) (files : List NamedFile) (j : ℕ) (out : SampleOut) (effort : Effort) (name : List ℕ) (rate : ℕ) (fitted : Fitted)
    → IsTrue (is_align block) → All (IsOut (codec_for kind block)) outs → bank_of kind block bank base outs ≡ Ok files
    → All (IsHeld content) files → slice_get outs j ≡ Some out → IsCompiled (codec_for kind block) effort name rate fitted out
    → IsCertified (codec_for kind block) (content (cert_name_of bank name)) fitted out.report.bound out.report.levels
bank-certifies kind block content bank base outs files j out effort name rate fitted fits are stored held at compiled =
    let c = codec_for kind block in
    let is = is-in kind block content bank base outs files j out effort name rate fitted fits are stored held at compiled in
    let made = out_of c name rate fitted is.m.founds in
    let cert = cert-held kind block content bank made is.held in
    subst (λ (o : SampleOut). IsCertified c (content (cert_name_of bank name)) fitted o.report.bound o.report.levels) (sym is.m.made)
    (subst (λ (bytes : List ℕ). IsCertified c bytes fitted made.report.bound made.report.levels) (sym cert) is.m.certified)
