-- The least miss over the levels of a quantizer is that of the last level up to the aim, or of the next one.
use Rattle.std.proofs.Common.{◌≡◌, ℕ, ◌≤◌, min, arith, ap, sym, subst, ◌∙◌, ◌⊎◌, inl, inr, true, false}
use Rattle.std.specs.Prelude.{ℤ, pos, negsuc, ◌+ℤ◌, ◌-ℤ◌, ◌*ℤ◌, ◌≤ℤ◌, ◌<ℤ◌, Bool, List}
use Rattle.std.specs.Int.Signed.{≤ℤ_refl}
use Rattle.std.proofs.lemmas.Int.{ints}
use Rattle.std.proofs.lemmas.Bool.{true≢false}
use Rattle.window_floor.specs.Row.{Row}
use Rattle.window_floor.specs.Miss.{miss_of, rounded_miss, least_miss}
use Rattle.window_floor.specs.Outcome.{IsWrap, none, up, down}
use Rattle.window_floor.specs.Quantizer.{AreLevels, IsAim, IsLevelMiss}
use Rattle.adpcm_nums.proofs.LeastValueLaws.{min-is, least_of-below, least_of-reached}
use Rattle.window_floor.proofs.MissLaws.{miss-below, miss-reached}
use Rattle.adpcm_nums.proofs.OrderLaws.{le-or-gt}
use Rattle.adpcm_nums.proofs.ProductLaws.{in-order}
use Rattle.window_floor.proofs.AimLaws.{under-aim, over-aim}

-- n is the number of the last level that is not above x, or of the lowest level
pub record IsUnder (step low high x n : ℤ) : Type 0 where
  pub least : low ≤ℤ n
  pub most : n ≤ℤ high
  pub below : (n ≡ low) ⊎ ((step *ℤ n) ≤ℤ x)
  pub above : (n ≡ high) ⊎ (x <ℤ (step *ℤ (n +ℤ pos 1)))

-- a level up to that one is as far from the aim or farther, and so is a level from the next one on
before : (w : Row) (rho aim step low high wrap x n i : ℤ) → pos 0 ≤ℤ w.scale → pos 0 ≤ℤ w.d → pos 0 ≤ℤ step → IsAim w rho aim → x ≡ aim +ℤ wrap → IsUnder step low high x n
    → low ≤ℤ i → i ≤ℤ n → rounded_miss w rho (step *ℤ n -ℤ wrap) ≤ rounded_miss w rho (step *ℤ i -ℤ wrap)
before w rho aim step low high wrap x n i s d p is e under l h =
    elim (under.below) [
      | inl first ↦ (let same : n ≡ i = omega (arith, ints) in subst (λ (z : ℤ). rounded_miss w rho (step *ℤ n -ℤ wrap) ≤ rounded_miss w rho (step *ℤ z -ℤ wrap)) same (omega arith))
      | inr below ↦ (let order = in-order step i n p h in under-aim w rho aim (step *ℤ i -ℤ wrap) (step *ℤ n -ℤ wrap) s d is (omega (arith, ints, order)) (omega (arith, ints, below, e)))
    ]

-- and so is a level from the next one on
after : (w : Row) (rho aim step low high wrap x n i : ℤ) → pos 0 ≤ℤ w.scale → pos 0 ≤ℤ w.d → pos 0 ≤ℤ step → IsAim w rho aim → x ≡ aim +ℤ wrap → IsUnder step low high x n
    → i ≤ℤ high → n <ℤ i → rounded_miss w rho (step *ℤ (n +ℤ pos 1) -ℤ wrap) ≤ rounded_miss w rho (step *ℤ i -ℤ wrap)
after w rho aim step low high wrap x n i s d p is e under l h =
    elim (under.above) [
      | inl last ↦ absurd (omega (arith, ints, last, l, h))
      | inr above ↦ (
          let order = in-order step (n +ℤ pos 1) i p (omega (arith, ints)) in
          over-aim w rho aim (step *ℤ i -ℤ wrap) (step *ℤ (n +ℤ pos 1) -ℤ wrap) s d is (omega (arith, ints, order)) (omega (arith, ints, above, e)))
    ]

-- the miss of a level, as the code computes it
pub level-miss : (w : Row) (rho step n k level a t : ℤ) (m : ℕ) → level ≡ step *ℤ n → a ≡ level -ℤ pos 32768 *ℤ k → t ≡ rho → m ≡ rounded_miss w t a
    → m ≡ rounded_miss w rho (step *ℤ n -ℤ pos 32768 *ℤ k)
level-miss w rho step n k level a t m p q r e = e ∙ (ap (λ z. rounded_miss w z a) r ∙ ap (rounded_miss w rho) (q ∙ ap (λ z. z -ℤ pos 32768 *ℤ k) p))

-- two numbers that are at most each other are the same
one-number : (k j : ℤ) → k ≤ℤ j → j ≤ℤ k → k ≡ j
one-number k j h l = omega (arith, ints)

-- the lesser miss of the two levels
pub copy-is : (w : Row) (rho aim step low high k x n next : ℤ) (m here there : ℕ) → pos 0 ≤ℤ w.scale → pos 0 ≤ℤ w.d → pos 0 ≤ℤ step → IsAim w rho aim
    → x ≡ aim +ℤ pos 32768 *ℤ k → IsUnder step low high x n
    → (next ≡ n +ℤ pos 1) ⊎ (n ≡ high) → low ≤ℤ next → next ≤ℤ high
    → here ≡ rounded_miss w rho (step *ℤ n -ℤ pos 32768 *ℤ k) → there ≡ rounded_miss w rho (step *ℤ next -ℤ pos 32768 *ℤ k) → m ≡ min here there
    → IsLevelMiss w rho step low high k k m
copy-is w rho aim step low high k x n next m here there s d p is e under which l h at then both =
    let least : (i : ℤ) → low ≤ℤ i → i ≤ℤ high → m ≤ rounded_miss w rho (step *ℤ i -ℤ pos 32768 *ℤ k) = λ i a b. elim (le-or-gt i n) [
      | inl up_to ↦ (let best = before w rho aim step low high (pos 32768 *ℤ k) x n i s d p is e under a up_to in omega (arith, best, at, both))
      | inr beyond ↦ elim which [
        | inl one ↦ (
            let best = after w rho aim step low high (pos 32768 *ℤ k) x n i s d p is e under b beyond in
            let same : there ≡ rounded_miss w rho (step *ℤ (n +ℤ pos 1) -ℤ pos 32768 *ℤ k) = then ∙ ap (λ z. rounded_miss w rho (step *ℤ z -ℤ pos 32768 *ℤ k)) one in
            omega (arith, best, same, both))
        | inr last ↦ absurd (omega (arith, ints, last, b, beyond))
      ]
    ] in
    record {
      least = λ i j a b c f. subst (λ (z : ℤ). m ≤ rounded_miss w rho (step *ℤ i -ℤ pos 32768 *ℤ z)) (one-number k j c f) (least i a b);
      reached = elim (min-is here there) as (λ _. (i : ℤ) × (j : ℤ) × (low ≤ℤ i) × (i ≤ℤ high) × (k ≤ℤ j) × (j ≤ℤ k) × (m ≡ rounded_miss w rho (step *ℤ i -ℤ pos 32768 *ℤ j))) [
        | inl e ↦ (n, k, under.least, under.most, ≤ℤ_refl k, ≤ℤ_refl k, both ∙ e ∙ at)
        | inr e ↦ (next, k, l, h, ≤ℤ_refl k, ≤ℤ_refl k, both ∙ e ∙ then)
      ];
    }

-- a number of 0..1 is 1 or at most 0
zero-or-one : (k : ℤ) → pos 0 ≤ℤ k → k ≤ℤ pos 1 → (pos 1 ≡ k) ⊎ (k ≤ℤ pos 0)
zero-or-one k h l = grind (arith, ints)

-- with the levels less a wrap
pub lower-is : (w : Row) (rho step low high : ℤ) (m x y : ℕ) → IsLevelMiss w rho step low high (pos 0) (pos 0) x → IsLevelMiss w rho step low high (pos 1) (pos 1) y
    → m ≡ min x y → IsLevelMiss w rho step low high (pos 0) (pos 1) m
lower-is w rho step low high m x y plain lower e =
    let a = plain.reached in let b = lower.reached in
    record {
      least = λ n k l u c f. elim (zero-or-one k c f) [
        | inl one ↦ (let p = lower.least n k l u (omega (arith, ints, one)) f in omega (arith, p, e))
        | inr zero ↦ (let p = plain.least n k l u c zero in omega (arith, p, e))
      ];
      reached = elim (min-is x y) as (λ _. (n : ℤ) × (k : ℤ) × (low ≤ℤ n) × (n ≤ℤ high) × (pos 0 ≤ℤ k) × (k ≤ℤ pos 1) × (m ≡ rounded_miss w rho (step *ℤ n -ℤ pos 32768 *ℤ k))) [
        | inl q ↦ (a.0, a.1, a.2, a.3, a.4, (let f = a.5 in omega (arith, ints, f)), e ∙ q ∙ a.6)
        | inr q ↦ (b.0, b.1, b.2, b.3, (let f = b.4 in omega (arith, ints, f)), b.5, e ∙ q ∙ b.6)
      ];
    }

-- which are no nearer where the lowest level lies between them and the aim
pub lower-skipped : (w : Row) (rho aim step low high : ℤ) (m : ℕ) → pos 0 ≤ℤ w.scale → pos 0 ≤ℤ w.d → pos 0 ≤ℤ step → low ≤ℤ high → IsAim w rho aim
    → (step *ℤ high) ≤ℤ (step *ℤ low +ℤ pos 32768) → (step *ℤ low) ≤ℤ aim → IsLevelMiss w rho step low high (pos 0) (pos 0) m → IsLevelMiss w rho step low high (pos 0) (pos 1) m
lower-skipped w rho aim step low high m s d p o is narrow under plain =
    let a = plain.reached in
    record {
      least = λ n k l u c f. elim (zero-or-one k c f) [
        | inl one ↦ (
            let order = in-order step n high p u in
            let best = plain.least low (pos 0) (≤ℤ_refl low) o (≤ℤ_refl (pos 0)) (≤ℤ_refl (pos 0)) in
            let near = under-aim w rho aim (step *ℤ n -ℤ pos 32768 *ℤ k) (step *ℤ low -ℤ pos 32768 *ℤ pos 0) s d is (omega (arith, ints, order, narrow, one)) (omega (arith, ints, under)) in
            omega (arith, best, near))
        | inr zero ↦ plain.least n k l u c zero
      ];
      reached = (a.0, a.1, a.2, a.3, a.4, (let f = a.5 in omega (arith, ints, f)), a.6);
    }

-- a number of -1..1 is -1 or at least 0
less-or-more : (k : ℤ) → negsuc 0 ≤ℤ k → k ≤ℤ pos 1 → (negsuc 0 ≡ k) ⊎ (pos 0 ≤ℤ k)
less-or-more k h l = grind (arith, ints)

-- and with the levels and a wrap
pub upper-is : (w : Row) (rho step low high : ℤ) (m x y : ℕ) → IsLevelMiss w rho step low high (pos 0) (pos 1) x → IsLevelMiss w rho step low high (negsuc 0) (negsuc 0) y
    → m ≡ min x y → IsLevelMiss w rho step low high (negsuc 0) (pos 1) m
upper-is w rho step low high m x y lower upper e =
    let a = lower.reached in let b = upper.reached in
    record {
      least = λ n k l u c f. elim (less-or-more k c f) [
        | inl less ↦ (let p = upper.least n k l u c (omega (arith, ints, less)) in omega (arith, p, e))
        | inr more ↦ (let p = lower.least n k l u more f in omega (arith, p, e))
      ];
      reached = elim (min-is x y) as (λ _. (n : ℤ) × (k : ℤ) × (low ≤ℤ n) × (n ≤ℤ high) × (negsuc 0 ≤ℤ k) × (k ≤ℤ pos 1) × (m ≡ rounded_miss w rho (step *ℤ n -ℤ pos 32768 *ℤ k))) [
        | inl q ↦ (a.0, a.1, a.2, a.3, (let f = a.4 in omega (arith, ints, f)), a.5, e ∙ q ∙ a.6)
        | inr q ↦ (b.0, b.1, b.2, b.3, b.4, (let f = b.5 in omega (arith, ints, f)), e ∙ q ∙ b.6)
      ];
    }

-- which are no nearer where the highest level lies between them and the aim
pub upper-skipped : (w : Row) (rho aim step low high : ℤ) (m : ℕ) → pos 0 ≤ℤ w.scale → pos 0 ≤ℤ w.d → pos 0 ≤ℤ step → low ≤ℤ high → IsAim w rho aim
    → (step *ℤ high) ≤ℤ (step *ℤ low +ℤ pos 32768) → aim <ℤ (step *ℤ high) → IsLevelMiss w rho step low high (pos 0) (pos 1) m → IsLevelMiss w rho step low high (negsuc 0) (pos 1) m
upper-skipped w rho aim step low high m s d p o is narrow above lower =
    let a = lower.reached in
    record {
      least = λ n k l u c f. elim (less-or-more k c f) [
        | inl less ↦ (
            let order = in-order step low n p l in
            let best = lower.least high (pos 0) o (≤ℤ_refl high) (≤ℤ_refl (pos 0)) (omega (arith, ints)) in
            let near = over-aim w rho aim (step *ℤ n -ℤ pos 32768 *ℤ k) (step *ℤ high -ℤ pos 32768 *ℤ pos 0) s d is (omega (arith, ints, order, narrow, less)) (omega (arith, ints, above)) in
            omega (arith, best, near))
        | inr more ↦ lower.least n k l u more f
      ];
      reached = (a.0, a.1, a.2, a.3, (let f = a.4 in omega (arith, ints, f)), a.5, a.6);
    }

-- the least miss over sixteen samples that are the levels, where first to last are the wraps
pub miss-is : (w : Row) (rho step low high first last : ℤ) (samples : List ℤ) (m : ℕ)
    → ((k : ℤ) → IsWrap w.wraps k → (first ≤ℤ k) × (k ≤ℤ last)) → ((k : ℤ) → first ≤ℤ k → k ≤ℤ last → IsWrap w.wraps k)
    → AreLevels step low high samples → IsLevelMiss w rho step low high first last m → m ≡ least_miss w rho samples
unfolding rounded_miss
miss-is w rho step low high first last samples m within wraps levels is =
    let one = miss-reached w rho samples in
    let level = levels.are one.0 one.3 in
    let wrap = within one.2 one.5 in
    let sample = ap (λ z. miss_of w rho (z -ℤ pos 32768 *ℤ one.2) one.1) level.3 in
    let least = is.least level.0 one.2 level.1 level.2 wrap.0 wrap.1 in
    let rounding = least_of-below (miss_of w rho (step *ℤ level.0 -ℤ pos 32768 *ℤ one.2)) w.errs one.1 one.4 in
    let two = is.reached in
    let there = levels.all two.0 two.2 two.3 in
    let error = least_of-reached (miss_of w rho (step *ℤ two.0 -ℤ pos 32768 *ℤ two.1)) w.errs in
    let below = miss-below w rho samples there.0 error.0 two.1 there.1 error.1 (wraps two.1 two.4 two.5) in
    let same = ap (λ z. miss_of w rho (z -ℤ pos 32768 *ℤ two.1) error.0) there.2 in
    omega (arith, one.6, sample, least, rounding, two.6, error.2, below, same)

-- where there are no wraps
no-wrap : (b : Bool) (k : ℤ) → b ≡ false → IsWrap b k → (pos 0 ≤ℤ k) × (k ≤ℤ pos 0)
no-wrap b k h (none c) = (omega (arith, ints), omega (arith, ints))
no-wrap b k h up = absurd (true≢false h)
no-wrap b k h down = absurd (true≢false h)

-- where there is none
plain-wrap : (b : Bool) (k : ℤ) → pos 0 ≤ℤ k → k ≤ℤ pos 0 → IsWrap b k
plain-wrap b k h l = subst (λ (z : ℤ). IsWrap b z) (one-number (pos 0) k h l) (none b)

-- without wraps
pub plain-is : (w : Row) (rho step low high : ℤ) (samples : List ℤ) (m : ℕ) → w.wraps ≡ false → AreLevels step low high samples
    → IsLevelMiss w rho step low high (pos 0) (pos 0) m → m ≡ least_miss w rho samples
plain-is w rho step low high samples m h levels is =
    miss-is w rho step low high (pos 0) (pos 0) samples m (λ k t. no-wrap w.wraps k h t) (λ k a b. plain-wrap w.wraps k a b) levels is

-- where there are
some-wrap : (b : Bool) (k : ℤ) → IsWrap b k → (negsuc 0 ≤ℤ k) × (k ≤ℤ pos 1)
some-wrap b k (none c) = (omega (arith, ints), omega (arith, ints))
some-wrap b k up = (omega (arith, ints), omega (arith, ints))
some-wrap b k down = (omega (arith, ints), omega (arith, ints))

-- each of the three is one
any-wrap : (b : Bool) (k : ℤ) → b ≡ true → negsuc 0 ≤ℤ k → k ≤ℤ pos 1 → IsWrap b k
any-wrap b k h c f =
    elim (less-or-more k c f) [
      | inl less ↦ subst (λ (z : ℤ). IsWrap b z) less (subst (λ (v : Bool). IsWrap v (negsuc 0)) (sym h) down)
      | inr more ↦ elim (zero-or-one k more f) [
        | inl one ↦ subst (λ (z : ℤ). IsWrap b z) one (subst (λ (v : Bool). IsWrap v (pos 1)) (sym h) up)
        | inr zero ↦ plain-wrap b k more zero
      ]
    ]

-- with wraps
pub wrapped-is : (w : Row) (rho step low high : ℤ) (samples : List ℤ) (m : ℕ) → w.wraps ≡ true → AreLevels step low high samples
    → IsLevelMiss w rho step low high (negsuc 0) (pos 1) m → m ≡ least_miss w rho samples
wrapped-is w rho step low high samples m h levels is =
    miss-is w rho step low high (negsuc 0) (pos 1) samples m (λ k t. some-wrap w.wraps k t) (λ k c f. any-wrap w.wraps k h c f) levels is
