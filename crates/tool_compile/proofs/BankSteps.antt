-- The files of a bank, over plain variables.
use Rattle.std.proofs.Common.{◌≡◌, ℕ, zero, suc, ◌+◌, ◌*◌, ◌≤◌, List, [], ◌∷◌, ◌++◌, map, refl, sym, ap, subst, ◌∙◌, arith, get_or, Some, Ok, slice_get, All, length}
use Rattle.std.specs.List.{AllZip, IsDistinct, flat_map}
use Rattle.std.specs.Str.{bytes_eq}
use Rattle.std.proofs.lemmas.List.{length-append, map-append}
use Rattle.std.proofs.lemmas.List.Folds.{flat_map-map}
use Rattle.std.proofs.lemmas.Option.{slice_get_within, get_or_from_slice_get, slice_get-get_or}
use Rattle.adpcm_nums.proofs.OutcomeLaws.{went_on}
use Rattle.host_files.specs.Outside.{Files, content_of}
use Rattle.host_files.specs.declared.named_file.NamedFile.{NamedFile}
use Rattle.machine_core.specs.declared.state.Kind.{Kind}
use Rattle.machine_core.specs.declared.state.Kind.TheVariants.{Brr, Spu, Ima}
use Rattle.manifest_reader.specs.declared.manifest.SampleEntry.{SampleEntry}
use Rattle.manifest_reader.specs.Meaning.{Content}
use Rattle.manifest_reader.specs.Stored.{cert_name_of, joined, image_names, stored_endings, stored_names}
use Rattle.bank_kinds.specs.Kinds.{codec_for}
use Rattle.bank_compile.specs.declared.sample.SampleOut.{SampleOut}
use Rattle.bank_compile.specs.Bank.{bank_of, image_of, image_files, sample_files}
use Rattle.bank_kinds.specs.Replay.{IsHeld, SampleReplays}
use Rattle.bank_kinds.specs.Bound.{IsBound}
use Rattle.bank_kinds.specs.Certified.{IsCertified}
use Rattle.command_plan.specs.Plan.{names_in, all_stored}
use Rattle.command_plan.proofs.Kept.{kept_at}
use Rattle.tool_files.specs.declared.source.Source.{Source}
use Rattle.tool_compile.specs.Stored.{IsStored}
use Rattle.tool_compile.specs.Compile.{bank_names, IsMadeOf}

-- what holds of all elements, at one place
pub all_at : {X : Type 0} (P : X → Type 0) (xs : List X) (j : ℕ) (x : X) → All P xs → slice_get xs j ≡ Some x → P x
all_at P xs j x all e = subst P (get_or_from_slice_get xs j x x e) (all j x (slice_get_within xs j x e))

-- what stands at one place of both lists
pub zip_at : {X Y : Type 0} (R : X → Y → Type 0) (xs : List X) (ys : List Y) (j : ℕ) (x : X) (y : Y) → AllZip R xs ys → slice_get xs j ≡ Some x → slice_get ys j ≡ Some y → R x y
zip_at R [] ys j x y h p q = let w = slice_get_within [] j x p in let no : ⊥ = omega arith in absurd no
zip_at R (a ∷ xs) [] j x y h p q = absurd h
zip_at R (a ∷ xs) (b ∷ ys) zero x y h p q = let one : a ≡ x = cc in let two : b ≡ y = cc in subst (λ z. R z y) one (subst (λ z. R a z) two h.0)
zip_at R (a ∷ xs) (b ∷ ys) (suc j) x y h p q = zip_at R xs ys j x y h.1 p q

-- the files of a sample have its names
sample-names : (kind : Kind) (block : ℕ) (bank : List ℕ) (out : SampleOut) → names_in (sample_files kind block bank out) ≡ map (joined bank out.name) (stored_endings kind)
sample-names Brr block bank out = refl
sample-names Spu block bank out = refl
sample-names Ima block bank out = refl

-- and those of all samples have the names of the sources that they were made of
made-names : (m : Content) (sources : List Source) (outs : List SampleOut) → AllZip (IsMadeOf m) sources outs
    → names_in (flat_map (sample_files m.kind m.block m.bank) outs) ≡ flat_map (λ (s : Source). map (joined m.bank s.name) (stored_endings m.kind)) sources
made-names m [] [] h = refl
made-names m [] (o ∷ outs) h = absurd h
made-names m (s ∷ sources) [] h = absurd h
made-names m (s ∷ sources) (o ∷ outs) h =
    map-append (λ (f : NamedFile). f.name) (sample_files m.kind m.block m.bank o) (flat_map (sample_files m.kind m.block m.bank) outs)
    ∙ ap (λ ns. ns ++ names_in (flat_map (sample_files m.kind m.block m.bank) outs)) (sample-names m.kind m.block m.bank o ∙ ap (λ (x : SampleOut). map (joined m.bank x.name) (stored_endings m.kind)) h.0.compiled.made)
    ∙ ap (λ ns. map (joined m.bank s.name) (stored_endings m.kind) ++ ns) (made-names m sources outs h.1)

-- where two lists have one name after another alike, so have their files
named-alike : (f : List ℕ → List (List ℕ)) (sources : List Source) (entries : List SampleEntry) → map (λ (s : Source). s.name) sources ≡ map (λ (e : SampleEntry). e.name) entries
    → flat_map (λ (s : Source). f s.name) sources ≡ flat_map (λ (e : SampleEntry). f e.name) entries
named-alike f sources entries same =
    sym (flat_map-map f (λ (s : Source). s.name) sources) ∙ (ap (flat_map f) same ∙ flat_map-map f (λ (e : SampleEntry). e.name) entries)

-- the file of all blocks has the bank's name
image-names : (kind : Kind) (bank : List ℕ) (base : ℕ) (outs : List SampleOut) (images : List NamedFile) → image_files kind bank base outs ≡ Ok images
    → (names_in images ≡ image_names kind bank) × (length images ≤ 1)
image-names Brr bank base outs images e =
    let made = went_on (image_of base outs) (λ image. Ok (record { name = bank; bytes = image } ∷ [])) images e in
    let same : record { name = bank; bytes = made.0 } ∷ [] ≡ images = (let last = made.2 in cc) in
    (ap names_in (sym same), subst (λ (fs : List NamedFile). length fs ≤ 1) same (omega arith))
image-names Spu bank base outs images e = let same : [] ≡ images = cc in (ap names_in (sym same), subst (λ (fs : List NamedFile). length fs ≤ 1) same (omega arith))
image-names Ima bank base outs images e = let same : [] ≡ images = cc in (ap names_in (sym same), subst (λ (fs : List NamedFile). length fs ≤ 1) same (omega arith))

-- no sample has more than three files
sample-few : (kind : Kind) (block : ℕ) (bank : List ℕ) (out : SampleOut) → length (sample_files kind block bank out) ≤ 3
sample-few Brr block bank out = omega arith
sample-few Spu block bank out = omega arith
sample-few Ima block bank out = omega arith

samples-few : (kind : Kind) (block : ℕ) (bank : List ℕ) (outs : List SampleOut) → length (flat_map (sample_files kind block bank) outs) ≤ 3 * length outs
samples-few kind block bank [] = omega arith
samples-few kind block bank (o ∷ outs) =
    let here = sample-few kind block bank o in
    let later = samples-few kind block bank outs in
    let all = length-append (sample_files kind block bank o) (flat_map (sample_files kind block bank) outs) in
    omega (arith, here, later, all)

-- the files of a bank: what stands for all blocks, and then the files of each sample
pub record AreFiles (m : Content) (outs : List SampleOut) (writes : List NamedFile) : Type 0 where
  pub images : List NamedFile
  pub images_are : image_files m.kind m.bank m.base outs ≡ Ok images
  pub files_are : writes ≡ images ++ flat_map (sample_files m.kind m.block m.bank) outs

pub bank-files : (m : Content) (outs : List SampleOut) (writes : List NamedFile) → bank_of m.kind m.block m.bank m.base outs ≡ Ok writes → AreFiles m outs writes
unfolding bank_of
bank-files m outs writes e =
    let made = went_on (image_files m.kind m.bank m.base outs) (λ images. Ok (images ++ flat_map (sample_files m.kind m.block m.bank) outs)) writes e in
    record { images = made.0; images_are = made.1; files_are = (let same = made.2 in cc) }

-- so they have the names of a bank's files
pub names_stored : (m : Content) (sources : List Source) (outs : List SampleOut) (writes : List NamedFile) → map (λ (s : Source). s.name) sources ≡ map (λ (e : SampleEntry). e.name) m.samples
    → AllZip (IsMadeOf m) sources outs → AreFiles m outs writes → names_in writes ≡ bank_names m
unfolding stored_names
names_stored m sources outs writes named made files =
    ap names_in files.files_are
    ∙ map-append (λ (f : NamedFile). f.name) files.images (flat_map (sample_files m.kind m.block m.bank) outs)
    ∙ ap (λ ns. ns ++ names_in (flat_map (sample_files m.kind m.block m.bank) outs)) (image-names m.kind m.bank m.base outs files.images files.images_are).0
    ∙ ap (λ ns. image_names m.kind m.bank ++ ns) (made-names m sources outs made ∙ named-alike (λ n. map (joined m.bank n) (stored_endings m.kind)) sources m.samples named)

-- and there are few
pub few_files : (m : Content) (outs : List SampleOut) (writes : List NamedFile) → AreFiles m outs writes → length writes ≤ 1 + 3 * length outs
few_files m outs writes files =
    let image = (image-names m.kind m.bank m.base outs files.images files.images_are).1 in
    let samples = samples-few m.kind m.block m.bank outs in
    let all = ap (λ (fs : List NamedFile). length fs) files.files_are ∙ length-append files.images (flat_map (sample_files m.kind m.block m.bank) outs) in
    omega (arith, image, samples, all)

-- where they are stored, each is held under its name
pub files_held : (before after : Files) (writes : List NamedFile) → IsDistinct bytes_eq (names_in writes) → all_stored (Some before) writes ≡ Some after → All (IsHeld (content_of after)) writes
files_held before after writes once set = λ k d within. kept_at before after writes k (get_or writes k d) once (slice_get-get_or writes k d within) set

-- stored files that replay a source, and a certificate of a bound that holds, are what is promised of it
pub stored_sample : (m : Content) (content : List ℕ → List ℕ) (j : ℕ) (source : Source) (out : SampleOut) → IsMadeOf m source out
    → SampleReplays m.kind m.block content m.bank source.name j source.rate source.fitted out.report.error
    → IsCertified (codec_for m.kind m.block) (content (cert_name_of m.bank source.name)) source.fitted out.report.bound out.report.levels
    → IsBound (codec_for m.kind m.block) source.fitted out.report.bound → IsStored m content j source out.report
stored_sample m content j source out made replays certified bound = record {
  replays = replays;
  certified = certified;
  bound = bound;
  gap = subst (λ (n : ℕ). out.report.bound ≤ n) (sym replays.replays.error_is) (bound replays.entry.list replays.replays.legal);
  optimal = λ e. subst (IsBound (codec_for m.kind m.block) source.fitted) (sym e) bound;
  near_beam = made.near_beam;
  whole = made.whole;
}
