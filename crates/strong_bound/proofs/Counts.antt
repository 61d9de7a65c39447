-- What a window counts, one sample after another.
use Rattle.std.proofs.Common.{◌≡◌, ℕ, zero, suc, ◌+◌, ◌*◌, arith, refl, true, false, Bool}
use Rattle.std.proofs.lemmas.Bool.Decides.{nat_tests}
use Rattle.row_bound.specs.Windows.{sum_from, half_from}
use Rattle.block_bounds.specs.Outputs.{weight_of}
use Rattle.strong_bound.specs.Counted.{own_count}

late-weight : (n : ℕ) → weight_of true (suc (suc n)) ≡ 2
unfolding weight_of
late-weight n = grind (arith, nat_tests)

-- the first of some samples and the rest
pub count-more : (leaving : Bool) (f : ℕ → ℕ) (i n : ℕ) → own_count leaving f i (suc n) ≡ weight_of leaving n * f i + own_count leaving f (suc i) n
unfolding own_count sum_from half_from weight_of
count-more true f i zero = omega arith
count-more true f i (suc zero) = omega arith
count-more true f i (suc (suc n)) = let w = late-weight n in rw w refl
count-more false f i n = omega arith

-- no samples count nothing
pub count-none : (leaving : Bool) (f : ℕ → ℕ) (i : ℕ) → 0 ≡ own_count leaving f i 0
unfolding own_count sum_from half_from
count-none true f i = refl
count-none false f i = refl
