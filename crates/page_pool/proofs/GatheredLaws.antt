-- Items that are gathered from pages: how many, which, and what writing, cutting and growing does to them.
use Rattle.std.proofs.Common.{◌≡◌, refl, sym, ap, subst, ◌∙◌, arith, ℕ, zero, suc, ◌+◌, ◌-◌, ◌*◌, ◌<◌, ◌≤◌, List, [], ◌∷◌, ◌++◌, length, inl, inr}
use Rattle.std.specs.Prelude.{take, drop, min, max, replicate, slice_index_or, slice_set}
use Rattle.std.proofs.lemmas.List.{get_or-take, get_or-drop, length-append, length-take-le, append-nil, take_all, take-take, take-append-le}
use Rattle.std.proofs.Math.Seq.{take-append-add, drop-append-add}
use Rattle.std.proofs.lemmas.Bool.{cases_lt}
use native.Mathlib.Nat.{suc-mul, zero-mul}
use Rattle.page_pool.specs.Pages.{gathered, AreFilled}
use Rattle.page_pool.specs.Written.{written}
use Rattle.page_pool.proofs.WrittenLaws.{take-written, written_left, written_right, length-written}

-- pages with nothing written have their share of nothing
empty-filled : (T : Type 0) (w k n : ℕ) → n ≡ 0 → let none : List T = [] in AreFilled w (replicate k none) n
unfolding AreFilled
empty-filled T w zero n e = e
empty-filled T w (suc k) n e = (omega (arith, e), empty-filled T w k (n - w) (omega (arith, e)))

module _ {T : Type 0} (w : ℕ) where
  gathered-none : (pages : List (List T)) (n : ℕ) → n ≡ 0 → gathered w pages n ≡ []
  unfolding gathered
  gathered-none [] n e = refl
  gathered-none (p ∷ pages) n e =
      let none : min n w ≡ 0 = omega (arith, e) in ap (λ k. take k p ++ gathered w pages (n - w)) none ∙ gathered-none pages (n - w) (omega (arith, e))

  pub length-gathered : (pages : List (List T)) (n : ℕ) → AreFilled w pages n → length (gathered w pages n) ≡ n
  unfolding AreFilled gathered
  length-gathered [] n f = sym f
  length-gathered (p ∷ pages) n f =
      length-append (take (min n w) p) (gathered w pages (n - w)) ∙ omega (arith, length-take-le (min n w) p f.0, length-gathered pages (n - w) f.1)

  -- there is a place for each item
  pub places-enough : (pages : List (List T)) (n : ℕ) → AreFilled w pages n → n ≤ w * length pages
  unfolding AreFilled
  places-enough [] n f = omega (arith, f)
  places-enough (p ∷ pages) n f = omega (arith, places-enough pages (n - w) f.1)

  -- a page has its share
  pub share : (pages : List (List T)) (n k : ℕ) (q : List T) → AreFilled w pages n → k < length pages → min (n - k * w) w ≤ length (slice_index_or pages k q)
  unfolding AreFilled
  share [] n k q f h = absurd (omega (arith, h))
  share (p ∷ pages) n zero q f h = omega (arith, f.0, zero-mul w)
  share (p ∷ pages) n (suc k) q f h = omega (arith, share pages (n - w) k q f.1 (omega (arith, h)), suc-mul k w)

  -- the items of a page are those from its first place on
  pub page-items : (pages : List (List T)) (n k i : ℕ) (q : List T) → AreFilled w pages n → k < length pages → i ≡ k * w → i < n
      → take w (drop i (gathered w pages n)) ≡ take (min (n - i) w) (slice_index_or pages k q)
  unfolding AreFilled gathered
  page-items [] n k i q f h e b = absurd (omega (arith, h))
  page-items (p ∷ pages) n zero i q f h e b =
      let A = take (min n w) p in let B = gathered w pages (n - w) in
      let at : i ≡ 0 = e ∙ zero-mul w in
      let long : length A ≡ min n w = length-take-le (min n w) p f.0 in
      let front : take w (A ++ B) ≡ take w A = elim (cases_lt n w) [
        | inl less ↦ ap (λ l. take w (A ++ l)) (gathered-none pages (n - w) (omega (arith, less))) ∙ ap (λ l. take w l) (append-nil A)
        | inr more ↦ take-append-le w A B (omega (arith, long, more))
      ] in
      let same : n ≡ n - i = omega (arith, at) in
      ap (λ j. take w (drop j (A ++ B))) at ∙ front ∙ take_all w A (omega (arith, long)) ∙ ap (λ j. take (min j w) p) same
  page-items (p ∷ pages) n (suc k) i q f h e b =
      let A = take (min n w) p in let B = gathered w pages (n - w) in
      let step : suc k * w ≡ w + k * w = suc-mul k w ∙ omega arith in
      let long : length A ≡ w = length-take-le (min n w) p f.0 ∙ omega (arith, step, e, b) in
      let at : i ≡ length A + k * w = omega (arith, step, e, long) in
      let same : n - w - k * w ≡ n - i = omega (arith, step, e) in
      ap (λ j. take w (drop j (A ++ B))) at ∙ ap (λ l. take w l) (drop-append-add A B (k * w))
      ∙ page-items pages (n - w) k (k * w) q f.1 (omega (arith, h)) refl (omega (arith, step, e, b)) ∙ ap (λ j. take (min j w) (slice_index_or pages k q)) same

  -- an item is the one of its page that stands in its place there
  pub item-of-page : (pages : List (List T)) (n k r i : ℕ) (q : List T) (d : T) → AreFilled w pages n → k < length pages → r < w → i ≡ k * w + r → i < n
      → slice_index_or (gathered w pages n) i d ≡ slice_index_or (slice_index_or pages k q) r d
  item-of-page pages n k r i q d f h low e b =
      let G = gathered w pages n in
      ap (λ j. slice_index_or G j d) e ∙ sym (get_or-drop (k * w) G r d) ∙ sym (get_or-take w (drop (k * w) G) r d low)
      ∙ ap (λ l. slice_index_or l r d) (page-items pages n k (k * w) q f h refl (omega (arith, e, b))) ∙ get_or-take (min (n - k * w) w) (slice_index_or pages k q) r d (omega (arith, e, b, low))

  pub gathered-put : (pages : List (List T)) (n m k r i : ℕ) (q : List T) (x : T) → AreFilled w pages n → k < length pages → r < w → i ≡ k * w + r → i ≤ n → m ≡ max n (i + 1)
      → gathered w (slice_set pages k (written (slice_index_or pages k q) r x)) m ≡ written (gathered w pages n) i x
  unfolding AreFilled gathered
  gathered-put [] n m k r i q x f h low e b g = absurd (omega (arith, h))
  gathered-put (p ∷ pages) n m zero r i q x f h low e b g =
      let A = take (min n w) p in let B = gathered w pages (n - w) in
      let at : i ≡ r = e ∙ omega (arith, zero-mul w) in
      let long : length A ≡ min n w = length-take-le (min n w) p f.0 in
      let rest : m - w ≡ n - w = omega (arith, at, g, low) in
      ap (λ j. take (min m w) (written p r x) ++ gathered w pages j) rest
      ∙ ap (λ l. l ++ B) (take-written p (min n w) (min m w) r x (omega (arith, at, b, low)) f.0 (omega (arith, at, g, low, b)))
      ∙ sym (written_left A B r x (omega (arith, long, at, b, low)) (λ k. gathered-none pages (n - w) (omega (arith, long, k, low))))
      ∙ ap (λ j. written (A ++ B) j x) (sym at)
  gathered-put (p ∷ pages) n m (suc k) r i q x f h low e b g =
      let A = take (min n w) p in let B = gathered w pages (n - w) in
      let step : suc k * w ≡ w + k * w = suc-mul k w ∙ omega arith in
      let long : length A ≡ w = length-take-le (min n w) p f.0 ∙ omega (arith, step, e, b) in
      let front : min m w ≡ min n w = omega (arith, step, e, b, g) in
      ap (λ j. take j p ++ gathered w (slice_set pages k (written (slice_index_or pages k q) r x)) (m - w)) front
      ∙ ap (λ l. A ++ l) (gathered-put pages (n - w) (m - w) k r (k * w + r) q x f.1 (omega (arith, h)) low refl (omega (arith, step, e, b)) (omega (arith, step, e, b, g)))
      ∙ sym (written_right A B i (k * w + r) x (omega (arith, step, e, long)))

  pub filled-put : (pages : List (List T)) (n m k r i : ℕ) (q : List T) (x : T) → AreFilled w pages n → k < length pages → r < w → i ≡ k * w + r → i ≤ n → m ≡ max n (i + 1)
      → AreFilled w (slice_set pages k (written (slice_index_or pages k q) r x)) m
  unfolding AreFilled
  filled-put [] n m k r i q x f h low e b g = absurd (omega (arith, h))
  filled-put (p ∷ pages) n m zero r i q x f h low e b g =
      let at : i ≡ r = e ∙ omega (arith, zero-mul w) in
      let rest : n - w ≡ m - w = omega (arith, at, g, low) in
      (omega (arith, length-written p r x (omega (arith, at, b, low, f.0)), at, g, f.0), subst (AreFilled w pages) rest f.1)
  filled-put (p ∷ pages) n m (suc k) r i q x f h low e b g =
      let step : suc k * w ≡ w + k * w = suc-mul k w ∙ omega arith in
      (omega (arith, f.0, step, e, b), filled-put pages (n - w) (m - w) k r (k * w + r) q x f.1 (omega (arith, h)) low refl (omega (arith, step, e, b)) (omega (arith, step, e, b, g)))

  -- fewer items
  pub gathered-cut : (pages : List (List T)) (n m : ℕ) → AreFilled w pages n → m ≤ n → gathered w pages m ≡ take m (gathered w pages n)
  unfolding AreFilled gathered
  gathered-cut [] n m f h = sym (take_all m [] (omega arith))
  gathered-cut (p ∷ pages) n m f h =
      let A = take (min n w) p in let B = gathered w pages (n - w) in
      let long : length A ≡ min n w = length-take-le (min n w) p f.0 in
      elim (cases_lt w m) [
        | inl more ↦ (
            let front : min m w ≡ min n w = omega (arith, more, h) in
            let at : length A + (m - w) ≡ m = omega (arith, long, more, h) in
            ap (λ j. take j p ++ gathered w pages (m - w)) front ∙ ap (λ l. A ++ l) (gathered-cut pages (n - w) (m - w) f.1 (omega (arith, h)))
            ∙ sym (take-append-add A B (m - w)) ∙ ap (λ j. take j (A ++ B)) at)
        | inr less ↦ (
            let all : min m w ≡ m = omega (arith, less) in
            ap (λ l. take (min m w) p ++ l) (gathered-none pages (m - w) (omega (arith, less))) ∙ append-nil (take (min m w) p) ∙ ap (λ j. take j p) all
            ∙ sym (take-take m (min n w) p (omega (arith, less, h))) ∙ sym (take-append-le m A B (omega (arith, long, less, h))))
      ]

  pub filled-cut : (pages : List (List T)) (n m : ℕ) → AreFilled w pages n → m ≤ n → AreFilled w pages m
  unfolding AreFilled
  filled-cut [] n m f h = omega (arith, f, h)
  filled-cut (p ∷ pages) n m f h = (omega (arith, f.0, h), filled-cut pages (n - w) (m - w) f.1 (omega (arith, h)))

  -- more pages
  empty-pages : (k n : ℕ) → gathered {T = T} w (replicate k []) n ≡ []
  unfolding gathered
  empty-pages zero n = refl
  empty-pages (suc k) n = ap (λ l. l ++ gathered w (replicate k []) (n - w)) (take_all (min n w) [] (omega arith)) ∙ empty-pages k (n - w)

  pub gathered-grow : (pages : List (List T)) (k n : ℕ) → gathered w (pages ++ replicate k []) n ≡ gathered w pages n
  unfolding gathered
  gathered-grow [] k n = empty-pages k n
  gathered-grow (p ∷ pages) k n = ap (λ l. take (min n w) p ++ l) (gathered-grow pages k (n - w))

  pub filled-grow : (pages : List (List T)) (k n : ℕ) → AreFilled w pages n → AreFilled w (pages ++ replicate k []) n
  unfolding AreFilled
  filled-grow [] k n f = empty-filled T w k n f
  filled-grow (p ∷ pages) k n f = (f.0, filled-grow pages k (n - w) f.1)
