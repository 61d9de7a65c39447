-- The least miss is below that of every sample, wrap and rounding, and is that of one of them.
use Rattle.std.proofs.Common.{◌≡◌, ℕ, ◌+◌, ◌^◌, ◌<◌, ◌≤◌, min, subst, ap, sym, ◌∙◌, arith, ◌⊎◌, inl, inr, true, false, w32, to_z, of_z}
use Rattle.std.specs.Prelude.{ℤ, pos, negsuc, ◌+ℤ◌, ◌-ℤ◌, ◌*ℤ◌, ◌≤ℤ◌, unsigned_abs, Bool, if◌then◌else◌, List, length, get_or}
use Rattle.std.proofs.lemmas.Int.{ints}
use Rattle.std.proofs.lemmas.Bool.{cond-true, cond-false}
use Rattle.adpcm_nums.specs.Sample.{IsSample, AreSamples}
use Rattle.adpcm_nums.specs.Ranges.{IsWithin}
use Rattle.adpcm_nums.specs.LeastValue.{least, least_of}
use Rattle.window_floor.specs.Row.{Row}
use Rattle.window_floor.specs.Miss.{miss_of, rounded_miss, wrapped_miss, least_miss}
use Rattle.window_floor.specs.Outcome.{IsWrap, none, up, down}
use Rattle.adpcm_nums.proofs.LeastValueLaws.{least_of-below, least_of-reached, least_of-is, least_of-more}
use Rattle.adpcm_nums.proofs.ProductLaws.{mul-sub}

-- a scale is 1 or 2
pub one-or-two : (s : ℤ) → IsWithin s (pos 1) (pos 2) → (s ≡ pos 1) ⊎ (s ≡ pos 2)
one-or-two s h = let l = h.low in let k = h.high in grind (arith, ints)

-- a distance of the numbers as the code holds them
pub apart-is : (s y t y' t' z : ℤ) → y' ≡ y → t' ≡ t → z ≡ s *ℤ y' -ℤ t' → z ≡ s *ℤ y -ℤ t
apart-is s y t y' t' z p q e = e ∙ (ap (λ x. s *ℤ x -ℤ t') p ∙ ap (λ x. s *ℤ y -ℤ x) q)

-- a miss with its rounding on the other side
turned : (s v e r t : ℤ) → t ≡ s *ℤ v -ℤ r → unsigned_abs (r -ℤ s *ℤ (v -ℤ e)) ≡ unsigned_abs (s *ℤ e -ℤ t)
turned s v e r t q = let split = mul-sub s v e in let same : r -ℤ s *ℤ (v -ℤ e) ≡ s *ℤ e -ℤ t = omega (arith, ints, q, split) in ap unsigned_abs same

-- a miss as the distance of a multiple of the scale
miss-is : (w : Row) (rho a v t : ℤ) (e : ℕ) → v ≡ w.d *ℤ a +ℤ w.bias → t ≡ w.scale *ℤ v -ℤ rho → miss_of w rho a e ≡ unsigned_abs (w.scale *ℤ pos e -ℤ t)
unfolding miss_of
miss-is w rho a v t e p q = ap (λ z. unsigned_abs (rho -ℤ w.scale *ℤ (z -ℤ pos e))) (sym p) ∙ turned w.scale v (pos e) rho t q

-- a sample's size, with and without a wrap
pub lower-small : (a : ℤ) → IsSample a → unsigned_abs (a -ℤ pos 32768) ≤ 2 ^ 17
lower-small a h = let l = h.low in let u = h.high in grind (arith, ints)

-- nor does a wrap make it large
pub higher-small : (a : ℤ) → IsSample a → unsigned_abs (a +ℤ pos 32768) ≤ 2 ^ 17
higher-small a h = let l = h.low in let u = h.high in grind (arith, ints)

-- an element of a list of samples, as it is read
pub kept_value : (samples : List ℤ) (i : ℕ) → AreSamples samples → i < length samples → to_z w32 (of_z w32 (get_or samples i (pos 0))) ≡ get_or samples i (pos 0)
kept_value samples i all h =
    let is = all i (pos 0) h in let l = is.low in let u = is.high in omega (arith, ints)

-- which is a sample
pub kept_sample : (samples : List ℤ) (i : ℕ) → AreSamples samples → i < length samples → IsSample (to_z w32 (of_z w32 (get_or samples i (pos 0))))
kept_sample samples i all h = subst IsSample (sym (kept_value samples i all h)) (all i (pos 0) h)

-- a whole number from 0 on
natural : (y : ℤ) → pos 0 ≤ℤ y → y ≡ pos (unsigned_abs y)
natural y h = omega (arith, ints)

-- the distance that the code finds
pub rounded-is : (w : Row) (rho a v t errs : ℤ) (m : ℕ) → errs ≡ pos w.errs → v ≡ w.d *ℤ a +ℤ w.bias → t ≡ w.scale *ℤ v -ℤ rho
    → ((y : ℤ) → pos 0 ≤ℤ y → y ≤ℤ errs → m ≤ unsigned_abs (w.scale *ℤ y -ℤ t))
    → ((y : ℤ) × (pos 0 ≤ℤ y) × (y ≤ℤ errs) × (m ≡ unsigned_abs (w.scale *ℤ y -ℤ t)))
    → m ≡ rounded_miss w rho a
unfolding rounded_miss
rounded-is w rho a v t errs m l p q below there =
    let y = natural there.0 there.1 in let high = there.2 in
    least_of-is (miss_of w rho a) w.errs m (unsigned_abs there.0)
    (λ e h. (let b = below (pos e) (omega (arith, ints)) (omega (arith, ints, l)) in let is = miss-is w rho a v t e p q in omega (arith, b, is)))
    (omega (arith, ints, l, high, y))
    (there.3 ∙ ap (λ z. unsigned_abs (w.scale *ℤ z -ℤ t)) y ∙ sym (miss-is w rho a v t (unsigned_abs there.0) p q))

-- the least over the wraps, where there are some and where there are none
pub wrapped-is : (w : Row) (rho a lower higher : ℤ) (m x y z : ℕ) → w.wraps ≡ true → lower ≡ a -ℤ pos 32768 → higher ≡ a +ℤ pos 32768
    → x ≡ rounded_miss w rho lower → y ≡ rounded_miss w rho a → z ≡ rounded_miss w rho higher → m ≡ min x (min y z) → m ≡ wrapped_miss w rho a
unfolding wrapped_miss
wrapped-is w rho a lower higher m x y z h l u p q r e =
    e ∙ (ap (λ n. min n (min y z)) (p ∙ ap (rounded_miss w rho) l) ∙ (ap (λ n. min (rounded_miss w rho (a -ℤ pos 32768)) (min n z)) q ∙
    ap (λ n. min (rounded_miss w rho (a -ℤ pos 32768)) (min (rounded_miss w rho a) n)) (r ∙ ap (rounded_miss w rho) u))) ∙ sym (cond-true w.wraps _ _ h)

-- where there is none
pub unwrapped-is : (w : Row) (rho a : ℤ) (m : ℕ) → w.wraps ≡ false → m ≡ rounded_miss w rho a → m ≡ wrapped_miss w rho a
unfolding wrapped_miss
unwrapped-is w rho a m h e = e ∙ sym (cond-false w.wraps _ _ h)

-- the least miss of the samples up to i
unfoldable pub so_far : Row → ℤ → List ℤ → ℕ → ℕ
so_far w rho samples i = least_of (λ j. wrapped_miss w rho (get_or samples j (pos 0))) i

-- of the first sample
pub so_far-first : (w : Row) (rho : ℤ) (samples : List ℤ) (m : ℕ) → m ≡ wrapped_miss w rho (get_or samples 0 (pos 0)) → m ≡ so_far w rho samples 0
unfolding so_far least
so_far-first w rho samples m e = e

-- of one sample more
pub so_far-more : (w : Row) (rho : ℤ) (samples : List ℤ) (i m x y : ℕ) → x ≡ so_far w rho samples i → y ≡ wrapped_miss w rho (get_or samples (i + 1) (pos 0)) → m ≡ min x y → m ≡ so_far w rho samples (i + 1)
unfolding so_far
so_far-more w rho samples i m x y p q e = e ∙ (ap (λ n. min x n) q ∙ least_of-more (λ j. wrapped_miss w rho (get_or samples j (pos 0))) i x p)

-- of all sixteen
pub so_far-last : (w : Row) (rho : ℤ) (samples : List ℤ) (i m : ℕ) → m ≡ so_far w rho samples i → i ≡ 15 → m ≡ least_miss w rho samples
unfolding so_far least_miss
so_far-last w rho samples i m e h = e ∙ ap (λ n. least_of (λ j. wrapped_miss w rho (get_or samples j (pos 0))) n) h

-- the least of three numbers, or the second one alone
choice : Bool → ℕ → ℕ → ℕ → ℕ
choice b x y z = if b then min x (min y z) else y

-- it is at most the second
choice-below : (b : Bool) (x y z : ℕ) → choice b x y z ≤ y
unfolding choice
choice-below true x y z = omega arith
choice-below false x y z = omega arith

-- it is at most that of each wrap
wrap-below : (b : Bool) (k a : ℤ) (f : ℤ → ℕ) → IsWrap b k → choice b (f (a -ℤ pos 32768)) (f a) (f (a +ℤ pos 32768)) ≤ f (a -ℤ pos 32768 *ℤ k)
unfolding choice
wrap-below b k a f (none c) =
    let e : a ≡ a -ℤ pos 32768 *ℤ pos 0 = omega (arith, ints) in
    subst (λ (y : ℤ). choice c (f (a -ℤ pos 32768)) (f a) (f (a +ℤ pos 32768)) ≤ f y) e (choice-below c (f (a -ℤ pos 32768)) (f a) (f (a +ℤ pos 32768)))
wrap-below b k a f up =
    let e : a -ℤ pos 32768 ≡ a -ℤ pos 32768 *ℤ pos 1 = omega (arith, ints) in
    subst (λ (y : ℤ). min (f (a -ℤ pos 32768)) (min (f a) (f (a +ℤ pos 32768))) ≤ f y) e (omega arith)
wrap-below b k a f down =
    let e : a +ℤ pos 32768 ≡ a -ℤ pos 32768 *ℤ negsuc 0 = omega (arith, ints) in
    subst (λ (y : ℤ). min (f (a -ℤ pos 32768)) (min (f a) (f (a +ℤ pos 32768))) ≤ f y) e (omega arith)

-- the least of three is one of them
min-three : (x y z : ℕ) → (min x (min y z) ≡ x) ⊎ ((min x (min y z) ≡ y) ⊎ (min x (min y z) ≡ z))
min-three x y z = grind arith

-- and it is that of one of them
wrap-reached : (b : Bool) (a : ℤ) (f : ℤ → ℕ) → (k : ℤ) × IsWrap b k × (choice b (f (a -ℤ pos 32768)) (f a) (f (a +ℤ pos 32768)) ≡ f (a -ℤ pos 32768 *ℤ k))
unfolding choice
wrap-reached false a f =
    let e : a ≡ a -ℤ pos 32768 *ℤ pos 0 = omega (arith, ints) in (pos 0, none false, ap f e)
wrap-reached true a f =
    let at : a ≡ a -ℤ pos 32768 *ℤ pos 0 = omega (arith, ints) in
    let lower : a -ℤ pos 32768 ≡ a -ℤ pos 32768 *ℤ pos 1 = omega (arith, ints) in
    let higher : a +ℤ pos 32768 ≡ a -ℤ pos 32768 *ℤ negsuc 0 = omega (arith, ints) in
    elim (min-three (f (a -ℤ pos 32768)) (f a) (f (a +ℤ pos 32768))) as (λ _. (k : ℤ) × IsWrap true k × (min (f (a -ℤ pos 32768)) (min (f a) (f (a +ℤ pos 32768))) ≡ f (a -ℤ pos 32768 *ℤ k))) [
      | inl e ↦ (pos 1, up, e ∙ ap f lower)
      | inr o ↦ elim o as (λ _. (k : ℤ) × IsWrap true k × (min (f (a -ℤ pos 32768)) (min (f a) (f (a +ℤ pos 32768))) ≡ f (a -ℤ pos 32768 *ℤ k))) [
        | inl e ↦ (pos 0, none true, e ∙ ap f at)
        | inr e ↦ (negsuc 0, down, e ∙ ap f higher)
      ]
    ]

-- the least miss is at most that of each sample, wrap and rounding
pub miss-below : (w : Row) (rho : ℤ) (samples : List ℤ) (i e : ℕ) (k : ℤ) → i < 16 → e ≤ w.errs → IsWrap w.wraps k
    → least_miss w rho samples ≤ miss_of w rho (get_or samples i (pos 0) -ℤ pos 32768 *ℤ k) e
unfolding least_miss wrapped_miss rounded_miss choice
miss-below w rho samples i e k h l t =
    let a = get_or samples i (pos 0) in
    let sample = least_of-below (λ j. wrapped_miss w rho (get_or samples j (pos 0))) 15 i (omega arith) in
    let wrap = wrap-below w.wraps k a (rounded_miss w rho) t in
    let rounding = least_of-below (miss_of w rho (a -ℤ pos 32768 *ℤ k)) w.errs e l in
    omega (arith, sample, wrap, rounding)

-- and it is that of one of them
pub miss-reached : (w : Row) (rho : ℤ) (samples : List ℤ) → (i : ℕ) × (e : ℕ) × (k : ℤ) × (i < 16) × (e ≤ w.errs) × IsWrap w.wraps k
    × (least_miss w rho samples ≡ miss_of w rho (get_or samples i (pos 0) -ℤ pos 32768 *ℤ k) e)
unfolding least_miss wrapped_miss rounded_miss choice
miss-reached w rho samples =
    let sample = least_of-reached (λ j. wrapped_miss w rho (get_or samples j (pos 0))) 15 in
    let wrap = wrap-reached w.wraps (get_or samples sample.0 (pos 0)) (rounded_miss w rho) in
    let rounding = least_of-reached (miss_of w rho (get_or samples sample.0 (pos 0) -ℤ pos 32768 *ℤ wrap.0)) w.errs in
    (sample.0, rounding.0, wrap.0, omega (arith, sample.1), rounding.1, wrap.1, sample.2 ∙ (wrap.2 ∙ rounding.2))
