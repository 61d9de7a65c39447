-- Samples, frame by frame.
use Rattle.std.proofs.Common.{◌≡◌, ℕ, zero, suc, ◌+◌, ◌/◌, ◌<◌, ◌≤◌, ℤ, List, [], ◌∷◌, ◌++◌, length, length-append, append_assoc, take, drop, refl, sym, ap, ◌∙◌, arith}
use Rattle.std.proofs.lemmas.List.{take_at, drop_at, append-nil}
use Rattle.std.proofs.Math.Nat.{add-div_left, div-eq_of_lt, div-le_self}
use Rattle.wave_form.specs.declared.format.Depth.{Depth}
use Rattle.wave_form.specs.declared.format.Depth.TheVariants.{Eight, Sixteen}
use Rattle.wave_form.specs.Format.{width_of}
use Rattle.wave_form.specs.Frames.{sample_of, samples_at}

-- one frame more is read
samples-frame : (size place : ℕ) (depth : Depth) (rest frame after : List ℕ) → 0 < size → rest ≡ frame ++ after → length frame ≡ size
    → samples_at size place depth (length rest / size) rest ≡ sample_of depth (drop place frame) ∷ samples_at size place depth (length after / size) after
unfolding samples_at
samples-frame size place depth rest frame after some is len =
    let long : length rest ≡ size + length after = ap length is ∙ (length-append frame after ∙ ap (λ n. n + length after) len) in
    let div : (size + length after) / size ≡ suc (length after / size) = add-div_left (length after) some ∙ omega arith in
    let count : length rest / size ≡ suc (length after / size) = ap (λ n. n / size) long ∙ div in
    let front : take size rest ≡ frame = ap (take size) is ∙ take_at frame after size len in
    let back : drop size rest ≡ after = ap (drop size) is ∙ drop_at frame after size len in
    ap (λ n. samples_at size place depth n rest) count ∙ rw (front, back) refl

-- a sample takes some bytes
some_width : (depth : Depth) → 1 ≤ width_of depth
some_width Eight = omega arith
some_width Sixteen = omega arith

-- one sample more, as it was pushed
pub samples_more : (size place : ℕ) (depth : Depth) (done more : List ℤ) (x : ℤ) (rest frame after : List ℕ) (total : List ℤ) → place + width_of depth ≤ size → rest ≡ frame ++ after → length frame ≡ size
    → x ≡ sample_of depth (drop place frame) → more ≡ done ++ x ∷ []
    → done ++ samples_at size place depth (length rest / size) rest ≡ total
    → more ++ samples_at size place depth (length after / size) after ≡ total
samples_more size place depth done more x rest frame after total fits is len here pushed so_far =
    let w = some_width depth in
    let one = samples-frame size place depth rest frame after (omega arith) is len in
    let y = sample_of depth (drop place frame) in
    let same : more ≡ done ++ y ∷ [] = pushed ∙ ap (λ z. done ++ z ∷ []) here in
    ap (λ m. m ++ samples_at size place depth (length after / size) after) same
    ∙ (append_assoc done (y ∷ []) _ ∙ (ap (λ xs. done ++ xs) (sym one) ∙ so_far))

-- a rest of a frame has no sample
pub samples_end : (size place : ℕ) (depth : Depth) (done : List ℤ) (rest : List ℕ) (total : List ℤ) → length rest < size
    → done ++ samples_at size place depth (length rest / size) rest ≡ total → total ≡ done
unfolding samples_at
samples_end size place depth done rest total short so_far =
    let count : length rest / size ≡ 0 = div-eq_of_lt short in
    let none : samples_at size place depth (length rest / size) rest ≡ [] = rw count refl in
    sym so_far ∙ (ap (λ xs. done ++ xs) none ∙ append-nil done)

-- one sample a frame
length-samples_at : (size place : ℕ) (depth : Depth) (count : ℕ) (bytes : List ℕ) → length (samples_at size place depth count bytes) ≡ count
unfolding samples_at
length-samples_at size place depth zero bytes = refl
length-samples_at size place depth (suc count) bytes = ap suc (length-samples_at size place depth count (drop size bytes))

-- there are no more samples than bytes
pub few_samples : (size place : ℕ) (depth : Depth) (bytes : List ℕ) → length (samples_at size place depth (length bytes / size) bytes) ≤ length bytes
few_samples size place depth bytes = omega (arith, length-samples_at size place depth (length bytes / size) bytes, div-le_self (length bytes) size)
