-- What a filter must predict to be clamped, and the ends that it gives to rows.
use Rattle.std.proofs.Common.{◌≡◌, arith, ap, ◌∙◌}
use Rattle.std.specs.Prelude.{ℤ, pos, negsuc, ◌-ℤ◌, ◌*ℤ◌, ◌≤ℤ◌}
use Rattle.std.proofs.Math.IntN.{*ℤ-zero}
use Rattle.std.proofs.lemmas.Int.{ints}
use Rattle.adpcm_nums.proofs.ProductLaws.{in-order}

-- the highest level of 16 bits
pub top-size : (step n : ℤ) → pos 1 ≤ℤ step → step ≤ℤ pos 4096 → pos 0 ≤ℤ n → n ≤ℤ pos 7 → (pos 0 ≤ℤ (step *ℤ n)) × ((step *ℤ n) ≤ℤ pos 28672)
top-size step n l h low high =
    let sign : pos 0 ≤ℤ step = omega (arith, ints, l) in
    let a = in-order step (pos 0) n sign low in
    let b = in-order step n (pos 7) sign high in
    let z = *ℤ-zero step in (omega (arith, ints, a, z), omega (arith, ints, b, h))

-- and the lowest
pub bottom-size : (step n : ℤ) → pos 1 ≤ℤ step → step ≤ℤ pos 4096 → negsuc 7 ≤ℤ n → n ≤ℤ pos 0 → (negsuc 32767 ≤ℤ (step *ℤ n)) × ((step *ℤ n) ≤ℤ pos 0)
bottom-size step n l h low high =
    let sign : pos 0 ≤ℤ step = omega (arith, ints, l) in
    let a = in-order step n (pos 0) sign high in
    let b = in-order step (negsuc 7) n sign low in
    let z = *ℤ-zero step in (omega (arith, ints, b, h), omega (arith, ints, a, z))

-- a level, as the code holds its parts
pub level-is : (level step n s' n' : ℤ) → level ≡ s' *ℤ n' → s' ≡ step → n' ≡ n → level ≡ step *ℤ n
level-is level step n s' n' e es en = e ∙ (ap (λ t. t *ℤ n') es ∙ ap (λ t. step *ℤ t) en)

-- no sample brings a lower prediction to the upper end
pub over-past : (e d s x step n high a reach t : ℤ) → pos 0 ≤ℤ d → pos 0 ≤ℤ s → pos 0 ≤ℤ step → n ≤ℤ high → a ≡ step *ℤ n → reach ≡ pos 32767 -ℤ step *ℤ high → t ≡ e -ℤ d *ℤ (s *ℤ reach -ℤ x)
    → (e -ℤ d *ℤ (s *ℤ (pos 32767 -ℤ a) -ℤ x)) ≤ℤ t
over-past e d s x step n high a reach t hd hs hstep h ea er et =
    let level = in-order step n high hstep h in
    let scaled = in-order s reach (pos 32767 -ℤ a) hs (omega (arith, ints, level, ea, er)) in
    let product = in-order d (s *ℤ reach -ℤ x) (s *ℤ (pos 32767 -ℤ a) -ℤ x) hd (omega (arith, ints, scaled)) in
    omega (arith, ints, product, et)

-- nor a higher one to the lower end
pub under-past : (e d s x step n low a reach t : ℤ) → pos 0 ≤ℤ d → pos 0 ≤ℤ s → pos 0 ≤ℤ step → low ≤ℤ n → a ≡ step *ℤ n → reach ≡ negsuc 32767 -ℤ step *ℤ low → t ≡ e -ℤ d *ℤ (s *ℤ reach -ℤ x)
    → t ≤ℤ (e -ℤ d *ℤ (s *ℤ (negsuc 32767 -ℤ a) -ℤ x))
under-past e d s x step n low a reach t hd hs hstep h ea er et =
    let level = in-order step low n hstep h in
    let scaled = in-order s (negsuc 32767 -ℤ a) reach hs (omega (arith, ints, level, ea, er)) in
    let product = in-order d (s *ℤ (negsuc 32767 -ℤ a) -ℤ x) (s *ℤ reach -ℤ x) hd (omega (arith, ints, scaled)) in
    omega (arith, ints, product, et)
