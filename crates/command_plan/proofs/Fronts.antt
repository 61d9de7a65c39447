-- Fronts of lists, and what has been said.
use Rattle.std.proofs.Common.{◌≡◌, ℕ, zero, suc, ◌+◌, ◌<◌, ◌≤◌, min, List, [], ◌∷◌, ◌++◌, length, take, refl, sym, ap, ◌∙◌, arith, append-nil, Option, Some, None, slice_get}
use Rattle.std.proofs.lemmas.Grind.{common_steps}
use Rattle.std.proofs.lemmas.List.{length-take, take_all, take_more}
use Rattle.std.proofs.lemmas.Option.{slice_get_within, get_or_from_slice_get}
use Rattle.host_files.specs.Outside.{grown, GrowsByFront}

-- what has been said stays where nothing is said
pub grown_none : (o : Option (List ℕ)) → grown o [] ≡ o
grown_none None = refl
grown_none (Some xs) = ap Some (append-nil xs)

-- nothing said is a front of any line
pub front_none : (a b : Option (List ℕ)) (line : List ℕ) → b ≡ a → GrowsByFront a b line
front_none a b line e = (0, e ∙ sym (grown_none a))

-- a front said after a moment up to which nothing was said
pub front_of : (a n b : Option (List ℕ)) (line : List ℕ) → n ≡ a → GrowsByFront n b line → GrowsByFront a b line
front_of a n b line e f = (f.0, f.1 ∙ ap (λ o. grown o (take f.0 line)) e)

-- one list after another is as long as both
pub length-append : {X : Type 0} (xs ys : List X) → length (xs ++ ys) ≡ length xs + length ys
length-append xs ys = grind (arith, common_steps)

-- the first k elements and the next one
pub take-next : {X : Type 0} (xs : List X) (k : ℕ) (x : X) → slice_get xs k ≡ Some x → take (k + 1) xs ≡ take k xs ++ x ∷ []
take-next xs k x e = take_more xs k x (slice_get_within xs k x e) ∙ ap (λ y. take k xs ++ y ∷ []) (get_or_from_slice_get xs k x x e)

-- there are k elements before it
pub length-front : {X : Type 0} (xs : List X) (k : ℕ) (x : X) → slice_get xs k ≡ Some x → length (take k xs) ≡ k
length-front xs k x e = let h = slice_get_within xs k x e in let l = length-take k xs in omega arith

-- how long a front of a file is, of at most n bytes
length-fetched : (n : ℕ) (xs ys : List ℕ) → ys ≡ take n xs → length ys ≡ min (length xs) n
length-fetched n xs ys e = ap length e ∙ (let l = length-take n xs in omega arith)

-- where a front of n + 1 bytes is longer than n, so is the file
pub longer : (n : ℕ) (xs ys : List ℕ) → ys ≡ take (n + 1) xs → n < length ys → n < length xs
longer n xs ys e h = let l = length-fetched (n + 1) xs ys e in omega arith

-- where it is no longer than n, the file is no longer
pub as_long : (n : ℕ) (xs ys : List ℕ) → ys ≡ take (n + 1) xs → length ys ≤ n → length xs ≤ n
as_long n xs ys e h = let l = length-fetched (n + 1) xs ys e in omega arith

-- and then it is all of the file
pub whole : (n : ℕ) (xs ys : List ℕ) → ys ≡ take (n + 1) xs → length ys ≤ n → ys ≡ xs
whole n xs ys e h = let s = as_long n xs ys e h in e ∙ take_all (n + 1) xs (omega arith)

-- an element keeps its place where another list comes behind
pub slice_get-front : {X : Type 0} (xs ys : List X) (i : ℕ) (x : X) → slice_get xs i ≡ Some x → slice_get (xs ++ ys) i ≡ Some x
slice_get-front [] ys i x e = let h = slice_get_within [] i x e in let no : ⊥ = omega arith in absurd no
slice_get-front (z ∷ xs) ys zero x e = e
slice_get-front (z ∷ xs) ys (suc i) x e = slice_get-front xs ys i x e

slice_get-at : {X : Type 0} (xs ys : List X) (i n : ℕ) (x : X) → n ≡ length xs + i → slice_get ys i ≡ Some x → slice_get (xs ++ ys) n ≡ Some x
slice_get-at [] ys i n x h e = let same : n ≡ i = omega arith in ap (slice_get ys) same ∙ e
slice_get-at (z ∷ xs) ys i zero x h e = let no : ⊥ = omega arith in absurd no
slice_get-at (z ∷ xs) ys i (suc n) x h e = slice_get-at xs ys i n x (omega arith) e

-- and stands so much later where another list comes before
pub slice_get-past : {X : Type 0} (xs ys : List X) (i : ℕ) (x : X) → slice_get ys i ≡ Some x → slice_get (xs ++ ys) (length xs + i) ≡ Some x
slice_get-past xs ys i x e = slice_get-at xs ys i (length xs + i) x refl e
