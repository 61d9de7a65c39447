-- The readings of a manifest and of a source, over plain variables.
use Rattle.std.proofs.Common.{◌≡◌, IsTrue, ℕ, ◌+◌, ◌≤◌, List, [], ◌∷◌, ◌++◌, length, take, refl, sym, ap, subst, ◌∙◌, map, All, arith, ℤ, Option, Some, None, Result, Ok, Err, nat_lt, slice_get}
use Rattle.std.specs.List.{AllZip}
use Rattle.std.specs.Option.{IfSome}
use Rattle.std.specs.Result.{IfOk}
use Rattle.std.proofs.lemmas.Grind.{common_steps}
use Rattle.std.proofs.lemmas.Bool.{and_from, eq-eqb, le-leb}
use Rattle.adpcm_nums.specs.Sample.{AreSamples}
use Rattle.adpcm_nums.specs.declared.loop_at.LoopAt.{LoopAt}
use Rattle.machine_core.specs.declared.state.Kind.{Kind}
use Rattle.machine_core.specs.declared.state.Kind.TheVariants.{Brr, Spu, Ima}
use Rattle.loop_fit.specs.declared.rule.FitRule.{FitRule}
use Rattle.loop_fit.specs.Source.{IsLoopIn, IsBlockOf, IsSource}
use Rattle.loop_fit.specs.Fit.{fit_of}
use Rattle.manifest_reader.specs.declared.manifest.SampleEntry.{SampleEntry}
use Rattle.manifest_reader.specs.Meaning.{manifest_of}
use Rattle.manifest_reader.specs.Ranges.{IsWithin}
use Rattle.ima_machine.specs.Ima.{is_align}
use Rattle.bank_kinds.specs.Kinds.{codec_for}
use Rattle.wave_form.specs.declared.wave.Wave.{Wave}
use Rattle.wave_form.specs.Reading.{read_of}
use Rattle.smpl_loops.specs.Loops.{first_loop_of}
use Rattle.command_faults.specs.declared.status.Status.{Status}
use Rattle.command_faults.specs.declared.status.Status.TheVariants.{Manifest, Input, Unfit}
use Rattle.command_faults.specs.declared.input_fault.InputFault.TheVariants.{Wave as WaveInput, Loop, FileLong}
use Rattle.command_plan.specs.Reading.{Declines}
use Rattle.command_plan.proofs.Fronts.{take-next}
use Rattle.tool_files.specs.declared.source.Source.{Source}
use Rattle.tool_files.specs.Ready.{IsReady, IsReadyBy}
use Rattle.command_plan.proofs.Telling.{told-declines, then-declines, test-declines}
use Rattle.tool_files.specs.Source.{manifest_in, sound_in, loop_in, fit_in, source_of}

-- a manifest is refused or read
pub manifest-declines : (own bytes : List ℕ) → Declines (manifest_in own bytes)
unfolding manifest_in
manifest-declines own bytes = told-declines (λ f. Manifest f) (manifest_of bytes own) (λ f. refl)

sound-declines : (entry : SampleEntry) (bytes : List ℕ) → Declines (sound_in entry bytes)
unfolding sound_in
sound-declines entry bytes =
    test-declines (nat_lt 4194304 (length bytes)) (Err (Input entry.name (FileLong 4194304))) _ refl (told-declines (λ f. Input entry.name (WaveInput f)) (read_of bytes entry.channel) (λ f. refl))

loop-declines : (entry : SampleEntry) (wave : Wave) → Declines (loop_in entry wave)
unfolding loop_in
loop-declines entry wave =
    test-declines entry.looped _ (Ok None) (told-declines (λ f. Input entry.name (Loop f)) (first_loop_of wave.sampler (length wave.samples)) (λ f. refl)) tt

fit-declines : (rule : FitRule) (entry : SampleEntry) (wave : Wave) (at : Option LoopAt) → Declines (fit_in rule entry wave at)
unfolding fit_in
fit-declines rule entry wave at = told-declines (λ f. Unfit entry.name f) (fit_of wave.samples at rule) (λ f. refl)

-- a source is refused or read
pub source-declines : (rule : FitRule) (entry : SampleEntry) (bytes : List ℕ) → Declines (source_of rule entry bytes)
unfolding source_of
source-declines rule entry bytes =
    then-declines (sound_in entry bytes) _ (sound-declines entry bytes)
    (λ wave. then-declines (loop_in entry wave) _ (loop-declines entry wave)
    (λ at. then-declines (fit_in rule entry wave at) _ (fit-declines rule entry wave at) (λ fitted. tt)))

-- blocks of a kind have the samples of its codec
pub block_of : (kind : Kind) (block samples : ℕ) → IsWithin 8 1024 4 block → samples ≡ (codec_for kind block).rules.decoder.samples → IsBlockOf kind samples
block_of Brr block samples within is = is
block_of Spu block samples within is = is
block_of Ima block samples within is = (block, record { words = within.multiple; at_least = within.least; at_most = within.most; samples_are = is })

-- the sizes of blocks that a manifest may say are those of IMA ADPCM
pub align_is : (block : ℕ) → IsWithin 8 1024 4 block → IsTrue (is_align block)
align_is block within = and_from _ _ (eq-eqb _ _ within.multiple) (and_from _ _ (le-leb 8 block within.least) (le-leb block 1024 within.most))

-- sources that a rule has fitted can be compiled to blocks of so many bytes as have its samples
pub ready_all : (rule : FitRule) (block : ℕ) (sources : List Source) → rule.block ≡ (codec_for rule.kind block).rules.decoder.samples → All (IsReadyBy rule) sources → All (IsReady rule.kind block) sources
ready_all rule block sources size all = λ k d within. all k d within block size

-- also where they are handed on
pub ready_kept : {V : Type 0} (items : V → List Source) (v : V) (r : Result V Status) (kind : Kind) (block : ℕ) → All (IsReady kind block) (items v) → IfOk r (λ w. w ≡ v) → IfOk r (λ w. All (IsReady kind block) (items w))
ready_kept items v (Ok w) kind block all same = subst (λ u. All (IsReady kind block) (items u)) (sym same) all
ready_kept items v (Err s) kind block all same = tt

-- a sound that was read can be fitted to blocks of a kind
pub is_source : (held samples : List ℤ) (at : Option LoopAt) (rule : FitRule) → samples ≡ held → length held ≤ 4194304 → AreSamples held → IfSome at (IsLoopIn (length held))
    → IsBlockOf rule.kind rule.block → IsSource samples at rule
is_source held samples at rule same count range inside block = subst (λ (xs : List ℤ). IsSource xs at rule) (sym same) (record {
  count = omega arith;
  range = range;
  loop = inside;
  block = block;
})

-- none yet
pub zip_none : {X Y : Type 0} (R : X → Y → Type 0) (ys : List Y) → ys ≡ [] → AllZip R [] ys
zip_none {X = X} {Y = Y} R ys e = subst (λ (zs : List Y). AllZip R [] zs) (sym e) tt

-- one more on both sides
pub zip_push : {X Y : Type 0} (R : X → Y → Type 0) (xs : List X) (ys : List Y) (x : X) (y : Y) → AllZip R xs ys → R x y → AllZip R (xs ++ x ∷ []) (ys ++ y ∷ [])
zip_push R [] [] x y h one = (one, tt)
zip_push R [] (b ∷ ys) x y h one = absurd h
zip_push R (a ∷ xs) [] x y h one = absurd h
zip_push R (a ∷ xs) (b ∷ ys) x y h one = (h.0, zip_push R xs ys x y h.1 one)

-- one more, counted
pub count_more : {Y : Type 0} (ys more : List Y) (k : ℕ) (y : Y) → more ≡ ys ++ y ∷ [] → length ys ≡ k → length more ≡ k + 1
count_more ys more k y e n = grind (arith, common_steps)

map_push : {Y Z : Type 0} (f : Y → Z) (ys : List Y) (y : Y) → map f (ys ++ y ∷ []) ≡ map f ys ++ f y ∷ []
map_push f [] y = refl
map_push f (z ∷ ys) y = ap (λ zs. f z ∷ zs) (map_push f ys y)

map_more : {X Y : Type 0} (g : X → Y) (xs : List X) (k : ℕ) (x : X) (ys : List Y) (y : Y) → slice_get xs k ≡ Some x → ys ≡ map g (take k xs) → y ≡ g x → ys ++ y ∷ [] ≡ map g (take (k + 1) xs)
map_more g xs k x ys y at e h = let next = take-next xs k x at in grind (arith, common_steps)

-- one more, seen alike in both lists
pub alike_more : {X Y Z : Type 0} (f : Y → Z) (g : X → Z) (xs : List X) (ys more : List Y) (k : ℕ) (x : X) (y : Y) → slice_get xs k ≡ Some x → more ≡ ys ++ y ∷ [] → map f ys ≡ map g (take k xs) → f y ≡ g x → map f more ≡ map g (take (k + 1) xs)
alike_more f g xs ys more k x y at e h one = ap (map f) e ∙ map_push f ys y ∙ map_more g xs k x (map f ys) (f y) at h one

-- lists that stand place by place are of one length
pub zip_length : {X Y : Type 0} (R : X → Y → Type 0) (xs : List X) (ys : List Y) → AllZip R xs ys → length ys ≡ length xs
zip_length R [] [] h = refl
zip_length R [] (y ∷ ys) h = absurd h
zip_length R (x ∷ xs) [] h = absurd h
zip_length R (x ∷ xs) (y ∷ ys) h = let n = zip_length R xs ys h.1 in omega (arith, n)

pub map_same : {X : Type 0} (xs : List X) → xs ≡ map (λ x. x) xs
map_same [] = refl
map_same (x ∷ xs) = ap (λ ys. x ∷ ys) (map_same xs)

-- nothing fails of no element
pub all_none : {X : Type 0} (P : X → Type 0) (xs : List X) → xs ≡ [] → All P xs
all_none P xs e = λ k d h. absurd (omega (arith, h, ap length e))
