-- What a pool is seen as, from its pages and its number of items.
use Rattle.std.proofs.Common.{◌≡◌, sym, ap, ◌∙◌, arith, inl, inr, ℕ, ◌+◌, ◌-◌, ◌*◌, List, length}
use Rattle.std.specs.Prelude.{take, min}
use Rattle.std.proofs.lemmas.Bool.{cases_lt}
use Rattle.std.proofs.lemmas.List.{take_all}
use Rattle.page_pool.specs.Pages.{gathered, AreFilled, Pooled}
use Rattle.page_pool.proofs.GatheredLaws.{length-gathered, places-enough}

-- how a pool is seen
abbrev pub seen_of : {T : Type 0} → List (List T) → ℕ → Pooled T
seen_of pages n = record { items = gathered 1024 pages n; spare = 1024 * length pages - n }

-- its items are counted
pub counted : {T : Type 0} (pages : List (List T)) (n : ℕ) (pool : Pooled T) → AreFilled 1024 pages n → seen_of pages n ≡ pool → n ≡ length pool.items
counted pages n pool f seen = sym (length-gathered 1024 pages n f) ∙ ap (λ p. length p.items) seen

-- items and spare fill the pages
pub full : {T : Type 0} (pages : List (List T)) (n : ℕ) (pool : Pooled T) → AreFilled 1024 pages n → seen_of pages n ≡ pool → pool.spare + length pool.items ≡ 1024 * length pages
full pages n pool f seen = omega (arith, counted pages n pool f seen, ap (λ p. p.spare) (sym seen), places-enough 1024 pages n f)

-- the least of two numbers is as good a place to cut as the one that was asked for
pub take-least : {T : Type 0} (xs : List T) (n m count : ℕ) → length xs ≡ n → m ≡ min n count → take m xs ≡ take count xs
take-least xs n m count long e =
    elim (cases_lt n count) [
      | inl less ↦ take_all m xs (omega (arith, long, e, less)) ∙ sym (take_all count xs (omega (arith, long, less)))
      | inr more ↦ (let same : m ≡ count = omega (arith, e, more) in ap (λ k. take k xs) same)
    ]
