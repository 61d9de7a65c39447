-- Steps from layer to layer and from segment to segment.
use Rattle.std.proofs.Common.{◌≡◌, ℕ, zero, suc, ◌+◌, ◌-◌, ◌*◌, ◌<◌, ◌≤◌, List, [], ◌∷◌, length, drop, arith, refl, ap, sym, ◌∙◌, subst, Some}
use Rattle.std.specs.Prelude.{slice_get}
use Rattle.std.proofs.lemmas.List.{drop-drop}
use Rattle.bound_cert.specs.Content.{Segment}
use Rattle.bound_cert.specs.Places.{u32_at, layer_end, layers_at, layers_end, segment_at, segment_end, segments_at, Fit, AllStand}

pub past-one : (bytes : List ℕ) (at n i k : ℕ) → i < n → k ≡ u32_at bytes (at + 6) → Fit bytes at (n - i)
    → (layers_end bytes (at + 10 + 12 * k) (n - (i + 1)) ≡ layers_end bytes at (n - i)) × Fit bytes (at + 10 + 12 * k) (n - (i + 1))
past-one bytes at n i k h e f =
    let q : n - i ≡ suc (n - (i + 1)) = omega arith in
    let a : at + 10 + 12 * k ≡ layer_end bytes at = ap (λ z. at + 10 + 12 * z) e in
    let f' = subst (λ z. Fit bytes at z) q f in (
      ap (λ z. layers_end bytes z (n - (i + 1))) a ∙ sym (ap (layers_end bytes at) q),
      subst (λ z. Fit bytes z (n - (i + 1))) (sym a) f'.1,
    )

drop-one : (k : ℕ) (xs : List Segment) → drop 1 (drop k xs) ≡ drop (k + 1) xs
drop-one k xs = drop-drop 1 k xs

tail-of : (x : Segment) (ys zs : List Segment) → (x ∷ ys) ≡ zs → ys ≡ drop 1 zs
tail-of x ys zs h = ap (drop 1) h

-- what is left from a place on begins with the segment there
pub get-head : (k : ℕ) (xs : List Segment) (x : Segment) (ys : List Segment) → (x ∷ ys) ≡ drop k xs → slice_get xs k ≡ Some x
get-head zero xs x ys h = ap (λ z. slice_get z 0) (sym h)
get-head (suc k) [] x ys h = absurd (cc)
get-head (suc k) (z ∷ xs) x ys h = get-head k xs x ys h

-- and goes on with what is left from the next place on
pub tail-drop : (k : ℕ) (xs ys : List Segment) (x : Segment) → (x ∷ ys) ≡ drop k xs → ys ≡ drop (k + 1) xs
tail-drop k xs ys x h = tail-of x ys (drop k xs) h ∙ drop-one k xs

pub length-segments : (bytes : List ℕ) (at n : ℕ) → length (segments_at bytes at n) ≡ n
length-segments bytes at zero = refl
length-segments bytes at (suc n) = let e = length-segments bytes (segment_end bytes at) n in omega arith

pub length-layers : (bytes : List ℕ) (at n : ℕ) → length (layers_at bytes at n) ≡ n
length-layers bytes at zero = refl
length-layers bytes at (suc n) = let e = length-layers bytes (layer_end bytes at) n in omega arith

pub segment-one : (bytes : List ℕ) (at n k end : ℕ) (xs : List Segment) → k < n → end ≡ segment_end bytes at → segments_at bytes at (n - k) ≡ drop k xs → AllStand bytes at (n - k)
    → (segments_at bytes end (n - (k + 1)) ≡ drop (k + 1) xs) × AllStand bytes end (n - (k + 1))
segment-one bytes at n k end xs h e d s =
    let q : n - k ≡ suc (n - (k + 1)) = omega arith in
    let s' = subst (λ z. AllStand bytes at z) q s in (
      ap (λ z. segments_at bytes z (n - (k + 1))) e ∙ tail-drop k xs _ (segment_at bytes at) (sym (ap (segments_at bytes at) q) ∙ d),
      subst (λ z. AllStand bytes z (n - (k + 1))) (sym e) s'.2,
    )

pub segment-there : (bytes : List ℕ) (at n k : ℕ) (xs : List Segment) → k < n → segments_at bytes at (n - k) ≡ drop k xs → slice_get xs k ≡ Some (segment_at bytes at)
segment-there bytes at n k xs h d =
    let q : n - k ≡ suc (n - (k + 1)) = omega arith in
    get-head k xs (segment_at bytes at) _ (sym (ap (segments_at bytes at) q) ∙ d)

within : (bytes : List ℕ) (at n : ℕ) → AllStand bytes at n → at ≤ length bytes
within bytes at zero h = h
within bytes at (suc n) h = let a = h.0 in omega arith

pub one-stands : (bytes : List ℕ) (at n k : ℕ) → k < n → AllStand bytes at (n - k) → AllStand bytes at 1
one-stands bytes at n k h s =
    let q : n - k ≡ suc (n - (k + 1)) = omega arith in
    let s' = subst (λ z. AllStand bytes at z) q s in
    (s'.0, s'.1, within bytes (segment_end bytes at) (n - (k + 1)) s'.2)

-- where some segments are left there is a number of them
pub some-left : (bytes : List ℕ) (at n : ℕ) (xs : List Segment) → segments_at bytes at n ≡ xs → 0 < length xs → 0 < n
some-left bytes at n xs d h =
    let e = length-segments bytes at n in
    let same = ap (λ (z : List Segment). length z) d in omega (arith, e, same)

-- and the first of them lies there
pub first-stands : (bytes : List ℕ) (at n : ℕ) → 0 < n → AllStand bytes at n → AllStand bytes at 1
first-stands bytes at zero h s = absurd (omega arith)
first-stands bytes at (suc n) h s = (s.0, s.1, within bytes (segment_end bytes at) n s.2)
