-- What begins at a place, from what the code's parts give.
use Rattle.std.proofs.Common.{◌≡◌, ◌≢◌, ℕ, zero, suc, ◌+◌, ◌-◌, ◌%◌, ◌≤◌, max, arith, ap, sym, ◌∙◌, inl, inr, [], ◌∷◌}
use Rattle.std.specs.Prelude.{ℤ, pos, ◌*ℤ◌, ◌-ℤ◌, ◌≤ℤ◌, unsigned_abs, List, get_or}
use Rattle.std.proofs.lemmas.Int.{ints}
use Rattle.std.proofs.Math.Nat.{mul-le-mul}
use Rattle.adpcm_nums.specs.Sample.{IsSample, AreSamples}
use Rattle.adpcm_nums.proofs.LeastValueLaws.{least_of-is}
use Rattle.window_floor.specs.Row.{Row, size_of}
use Rattle.adpcm_nums.specs.Ranges.{IsWithin}
use Rattle.window_floor.specs.Floor.{output_cost, window_floor}
use Rattle.window_floor.specs.Quantizer.{AreLevels}
use Rattle.window_floor.specs.Windows.{Windows, target_at, single_floor, sample_floor, one_window, two_window, three_window, window_at, own_at}
use Rattle.window_floor.proofs.CutLaws.{own-single}
use Rattle.window_floor.proofs.MissLaws.{one-or-two}

-- a place alone, where outputs count once and where they count twice
pub single-once : (w : Row) (t : ℤ) → w.scale ≡ pos 1 → 0 ≡ single_floor w t
unfolding single_floor
single-once w t e = let one : unsigned_abs t % unsigned_abs w.scale ≡ unsigned_abs t % 1 = ap (λ z. unsigned_abs t % unsigned_abs z) e in omega (arith, one)

-- and where they count twice
pub single-twice : (w : Row) (t : ℤ) → IsWithin w.scale (pos 1) (pos 2) → w.scale ≢ pos 1 → unsigned_abs t % 2 ≡ single_floor w t
unfolding single_floor
single-twice w t within other =
    elim (one-or-two w.scale within) [
      | inl once ↦ absurd (other once)
      | inr twice ↦ ap (λ z. unsigned_abs t % unsigned_abs z) (sym twice)
    ]

-- the level that is nearest costs what the nearest sample costs
pub sample-is : (w : Row) (step low high m y t : ℤ) (samples : List ℤ) (n : ℕ) → AreLevels step low high samples → low ≤ℤ m → m ≤ℤ high
    → ((i : ℤ) → low ≤ℤ i → i ≤ℤ high → unsigned_abs (w.scale *ℤ (step *ℤ m) -ℤ t) ≤ unsigned_abs (w.scale *ℤ (step *ℤ i) -ℤ t))
    → y ≡ step *ℤ m → n ≡ output_cost w y t → n ≡ sample_floor w samples t
unfolding sample_floor
sample-is w step low high m y t samples n levels l h near is cost =
    let there = levels.all m l h in
    let whole : n ≡ output_cost w (step *ℤ m) t = cost ∙ ap (λ z. output_cost w z t) is in
    least_of-is (λ i. output_cost w (get_or samples i (pos 0)) t) 15 n there.0
    (λ j within. (let here = levels.are j (omega arith) in
    let close = near here.0 here.1 here.2 in
    let least : output_cost w (step *ℤ m) t ≤ output_cost w (step *ℤ here.0) t = mul-le-mul close close in
    let same = ap (λ z. output_cost w z t) here.3 in omega (arith, whole, least, same)))
    (let inside = there.1 in omega (arith, inside)) (whole ∙ ap (λ z. output_cost w z t) (sym there.2))

-- windows of one, two and three places
pub one-is : (b : Windows) (x : ℤ) (floor alone n : ℕ) → floor ≡ sample_floor b.row b.samples x → alone ≡ single_floor b.row x → n ≡ max floor alone → n ≡ one_window b x
unfolding one_window
one-is b x floor alone n f s e = e ∙ ap (λ z. max z alone) f ∙ ap (λ z. max (sample_floor b.row b.samples x) z) s

-- a window of two places
pub two-is : (b : Windows) (o x : ℤ) (floor first second n : ℕ) → floor ≡ window_floor b.row b.samples b.first b.second (pos 0) o x
    → first ≡ single_floor b.row o → second ≡ single_floor b.row x → n ≡ max floor (first + second) → n ≡ two_window b o x
unfolding two_window
two-is b o x floor first second n f s t e = rw (sym f, sym s, sym t) e

-- a window of three places
pub three-is : (b : Windows) (r o x : ℤ) (floor first second third n : ℕ) → floor ≡ window_floor b.row b.samples b.first b.second r o x
    → first ≡ single_floor b.row r → second ≡ single_floor b.row o → third ≡ single_floor b.row x → n ≡ max floor (first + second + third) → n ≡ three_window b r o x
unfolding three_window
three-is b r o x floor first second third n f s t u e = rw (sym f, sym s, sym t, sym u) e

-- a window of a size that is known
pub at-one : (b : Windows) (size p n : ℕ) (targets : List ℤ) (x : ℤ) → size ≡ 1 → x ≡ target_at targets p → n ≡ one_window b x → n ≡ window_at b size targets p
unfolding window_at
at-one b size p n targets x s e h = h ∙ ap (one_window b) e ∙ ap (λ z. window_at b z targets p) (sym s)

-- a window of two places
pub at-two : (b : Windows) (size p n : ℕ) (targets : List ℤ) (o x : ℤ) → size ≡ 2 → o ≡ target_at targets p → x ≡ target_at targets (p + 1)
    → n ≡ two_window b o x → n ≡ window_at b size targets p
unfolding window_at
at-two b size p n targets o x s e f h = h ∙ ap (λ z. two_window b z x) e ∙ ap (two_window b (target_at targets p)) f ∙ ap (λ z. window_at b z targets p) (sym s)

-- a window of three places
pub at-three : (b : Windows) (size p n : ℕ) (targets : List ℤ) (r o x : ℤ) → size ≡ 3 → r ≡ target_at targets p → o ≡ target_at targets (p + 1) → x ≡ target_at targets (p + 2)
    → n ≡ three_window b r o x → n ≡ window_at b size targets p
unfolding window_at
at-three b size p n targets r o x s e f g h =
    h ∙ ap (λ z. three_window b z o x) e ∙ ap (λ z. three_window b (target_at targets p) z x) f ∙ ap (three_window b (target_at targets p) (target_at targets (p + 1))) g ∙
    ap (λ z. window_at b z targets p) (sym s)

-- what begins at a place that is left over
pub left-is : (b : Windows) (size p n : ℕ) (targets : List ℤ) (t : ℤ) → size ≡ size_of b.row → b.places - b.places % size ≤ p → t ≡ target_at targets p → n ≡ single_floor b.row t → n ≡ own_at b targets p
unfolding own_at
left-is b size p n targets t s h e is =
    let left : b.places - b.places % size_of b.row ≤ p = rw (sym s) h in
    is ∙ ap (single_floor b.row) e ∙ sym (own-single b.places (size_of b.row) (window_at b (size_of b.row) targets) (λ q. single_floor b.row (target_at targets q)) p left)

-- three samples in a list
pub three-samples : (r o x : ℤ) → IsSample r → IsSample o → IsSample x → AreSamples (r ∷ o ∷ x ∷ [])
three-samples r o x p q s zero d h = p
three-samples r o x p q s (suc zero) d h = q
three-samples r o x p q s (suc (suc zero)) d h = s
three-samples r o x p q s (suc (suc (suc k))) d h = absurd (omega arith)

-- 0 is a sample
pub no-sample : IsSample (pos 0)
no-sample = record { low = omega (arith, ints); high = omega (arith, ints) }
