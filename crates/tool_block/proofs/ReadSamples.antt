use Rattle.std.proofs.lemmas.Grind.{common_steps}
use Rattle.std.proofs.Common.{below_more, take, drop, set, ◌-◌, slice_index, ◌≡◌, ℕ, zero, suc, ◌+◌, ◌*◌, ◌<◌, List, [], ◌∷◌, length, get_or, refl, sym, ap, subst, ◌∙◌, arith, ℤ, pos, negsuc, ◌≤ℤ◌}
use Rattle.std.specs.Int.{w16, cast_signed}
use Rattle.std.proofs.lemmas.List.{ext_get_or}
use Rattle.std.proofs.lemmas.List.Elements.{All-set}
use Rattle.adpcm_nums.specs.Sample.{IsSample, AreSamples}
use Rattle.tool_block.specs.Samples.{samples_of}

pub length-samples_of : (bs : List ℕ) (n : ℕ) → length bs ≡ 2 * n → length (samples_of bs) ≡ n
length-samples_of [] n e = omega (arith, e)
length-samples_of (b ∷ []) n e = absurd (omega (arith, e))
length-samples_of (b ∷ c ∷ bs) zero e = absurd (omega (arith, e))
length-samples_of (b ∷ c ∷ bs) (suc n) e = ap suc (length-samples_of bs n (omega (arith, e)))

pub get_or-samples_of : (bs : List ℕ) (k : ℕ) → 2 * k + 1 < length bs → get_or (samples_of bs) k (pos 0) ≡ cast_signed w16 (get_or bs (2 * k) 0 + 256 * get_or bs (2 * k + 1) 0)
get_or-samples_of [] k h = absurd (omega (arith, h))
get_or-samples_of (b ∷ []) k h = absurd (omega (arith, h))
get_or-samples_of (b ∷ c ∷ bs) zero h = refl
get_or-samples_of (b ∷ c ∷ bs) (suc k) h =
    let first : suc (suc (2 * k)) ≡ 2 * suc k = omega arith in
    let second : suc (suc (2 * k + 1)) ≡ 2 * suc k + 1 = omega arith in
    let P : ℕ → ℕ → Type 0 = λ i j. get_or (samples_of bs) k (pos 0) ≡ cast_signed w16 (get_or (b ∷ c ∷ bs) i 0 + 256 * get_or (b ∷ c ∷ bs) j 0) in
    subst (λ (j : ℕ). P (2 * suc k) j) second (subst (λ (i : ℕ). P i (suc (suc (2 * k + 1)))) first (get_or-samples_of bs k (omega (arith, h))))

pub same_samples : (bs : List ℕ) (xs : List ℤ) → length bs ≡ 32 → length xs ≡ 16 → ((k : ℕ) → k < 16 → get_or xs k (pos 0) ≡ cast_signed w16 (get_or bs (2 * k) 0 + 256 * get_or bs (2 * k + 1) 0)) → xs ≡ samples_of bs
same_samples bs xs m n each =
    let len : length (samples_of bs) ≡ 16 = length-samples_of bs 16 m in
    ext_get_or (pos 0) xs (samples_of bs) (omega (arith, len))
    (λ k h. each k (omega arith) ∙ sym (get_or-samples_of bs k (omega (arith, m))))

pub number_at : (bs : List ℕ) (i : ℕ) → 2 * i + 1 < length bs → slice_index (take (length bs - 2 * i) (drop (2 * i) bs)) 0 + 256 * (slice_index (take (length bs - 2 * i) (drop (2 * i) bs)) 1 + 0) ≡ get_or bs (2 * i) 0 + 256 * get_or bs (2 * i + 1) 0
number_at bs i h =
    let low : slice_index (take (length bs - 2 * i) (drop (2 * i) bs)) 0 ≡ get_or bs (2 * i) 0 = grind (arith, common_steps) in
    let high : slice_index (take (length bs - 2 * i) (drop (2 * i) bs)) 1 ≡ get_or bs (2 * i + 1) 0 = grind (arith, common_steps) in
    omega (arith, low, high)

pub samples_more : (xs : List ℤ) (i : ℕ) (v : ℤ) (f : ℕ → ℤ) → i < length xs → ((k : ℕ) → k < i → get_or xs k (pos 0) ≡ f k) → v ≡ f i → (k : ℕ) → k < i + 1 → get_or (set xs i v) k (pos 0) ≡ f k
samples_more xs i v f inside front is =
    below_more (λ k. get_or (set xs i v) k (pos 0) ≡ f k) i (λ k h. grind (arith, common_steps, front k h)) (grind (arith, common_steps))

pub range_kept : (xs : List ℤ) (i : ℕ) (v : ℤ) → AreSamples xs → negsuc 32767 ≤ℤ v → v ≤ℤ pos 32767 → AreSamples (set xs i v)
range_kept xs i v range low high = All-set IsSample xs i v (record { low = low; high = high }) range
