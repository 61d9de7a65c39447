-- Playings of a loop one after another, over plain variables.
use Rattle.std.proofs.Common.{◌≡◌, ℕ, zero, suc, ◌+◌, ◌*◌, ◌<◌, ◌≤◌, Bool, true, false, if◌then◌else◌, inl, inr, List, [], ◌∷◌, ◌++◌, length, take, get_or, refl, sym, ap, ◌∙◌, arith}
use Rattle.std.specs.Prelude.{ℤ, pos, negsuc, ◌*ℤ◌, ◌/◌, unsigned_abs, not, Option, Some, None, is_none}
use Rattle.std.specs.Ordering.{int_eq}
use Rattle.std.proofs.lemmas.Bool.{cases_Bool}
use Rattle.std.specs.Cmp.{both_ways}
use Rattle.std.proofs.Math.Nat.{mul-div_cancel_left}
use Rattle.std.proofs.lemmas.Int.{ints, unsigned_abs-mul}
use Rattle.std.proofs.lemmas.Bool.Decides.{Decides-int_eq}
use Rattle.std.proofs.lemmas.List.FromFn.{get_or-map-range_with_len, length-map-range_with_len, take-map-range_with_len, map-range_with_len_more}
use Rattle.adpcm_nums.specs.First.{first_where, or_first}
use Rattle.adpcm_nums.specs.declared.loop_at.LoopAt.{LoopAt}
use Rattle.adpcm_nums.proofs.FirstLaws.{first_found}
use Rattle.player_model.specs.Track.{Track}
use Rattle.player_model.specs.Sound.{Playing}
use Rattle.decompile_core.specs.Playings.{differs, end_of, is_again, length_of, samples_of, settled, settles_at}

-- the samples of n outputs, each a place
pub sample_at : (scale : ℕ) (output : ℕ → ℤ) (n i : ℕ) → i < n → get_or (samples_of scale output n) i (pos 0) ≡ pos scale *ℤ output i
sample_at scale output n i within = get_or-map-range_with_len (λ k. pos scale *ℤ output k) 0 n i i (pos 0) within (omega arith)

pub samples_long : (scale : ℕ) (output : ℕ → ℤ) (n : ℕ) → length (samples_of scale output n) ≡ n
samples_long scale output n = length-map-range_with_len (λ k. pos scale *ℤ output k) 0 n

-- one sample more
pub samples_more : (scale : ℕ) (output : ℕ → ℤ) (xs ys : List ℤ) (sample : ℤ) (n m : ℕ) → xs ≡ samples_of scale output n → sample ≡ pos scale *ℤ output n → ys ≡ xs ++ sample ∷ [] → m ≡ n + 1
    → ys ≡ samples_of scale output m
samples_more scale output xs ys sample n m before is pushed more =
    pushed ∙ ap (λ (zs : List ℤ). zs ++ sample ∷ []) before ∙ ap (λ (x : ℤ). samples_of scale output n ++ x ∷ []) is
    ∙ sym (map-range_with_len_more (λ k. pos scale *ℤ output k) 0 n n (omega arith)) ∙ ap (samples_of scale output) (sym more)

-- the player goes on
pub player_more : (p next : Playing) (track : Track) (n m : ℕ) → p ≡ record { track = track; count = n } → next ≡ record { track = p.track; count = p.count + 1 } → m ≡ n + 1
    → next ≡ record { track = track; count = m }
player_more p next track n m is on more =
    on ∙ ap (λ (q : Playing). record { track = q.track; count = q.count + 1 }) is ∙ ap (λ (k : ℕ). record { track = track; count = k }) (sym more)

-- the first of them
pub samples_cut : (scale : ℕ) (output : ℕ → ℤ) (xs ys : List ℤ) (n k m : ℕ) → xs ≡ samples_of scale output n → ys ≡ take m xs → m ≡ k → k ≤ n → ys ≡ samples_of scale output k
samples_cut scale output xs ys n k m before cut same few =
    cut ∙ ap (take m) before ∙ ap (λ (i : ℕ). take i (samples_of scale output n)) same ∙ take-map-range_with_len (λ i. pos scale *ℤ output i) 0 n k few

-- a playing of which an output is another is not given again
pub not_again : (output : ℕ → ℤ) (at len k : ℕ) → k < len → first_where (differs output at len) k ≡ None → (output (at + k) ≡ output (at + len + k) → ⊥)
    → false ≡ is_again output at len
unfolding is_again
not_again output at len k within none other =
    let here : differs output at len k ≡ true = elim (cases_Bool (int_eq (output (at + k)) (output (at + len + k)))) [
      | inl same ↦ absurd (other ((Decides-int_eq (output (at + k)) (output (at + len + k))).0 same))
      | inr unlike ↦ ap not unlike
    ] in
    sym (ap (λ (o : Option ℕ). is_none o) (first_found (differs output at len) len k within none here))

-- tests that are the same find the same
first_same : (p q : ℕ → Bool) (n : ℕ) → ((k : ℕ) → k < n → p k ≡ q k) → first_where p n ≡ first_where q n
unfolding first_where
first_same p q zero same = refl
first_same p q (suc n) same =
    ap (λ (o : Option ℕ). or_first o (if p n then Some n else None)) (first_same p q n (λ k h. same k (omega arith)))
    ∙ ap (λ (b : Bool). or_first (first_where q n) (if b then Some n else None)) (same n (omega arith))

-- outputs are equal just where they are times a scale
product-cancels : (scale m n : ℕ) → 0 < scale → scale * m ≡ scale * n → m ≡ n
product-cancels scale m n some e = sym (mul-div_cancel_left m some) ∙ ap (λ (x : ℕ). x / scale) e ∙ mul-div_cancel_left n some

abs-of : (scale : ℕ) (x : ℤ) → unsigned_abs (pos scale *ℤ x) ≡ scale * unsigned_abs x
abs-of scale x = unsigned_abs-mul (pos scale) x

pub scaled_cancels : (scale : ℕ) (x y : ℤ) → 0 < scale → pos scale *ℤ x ≡ pos scale *ℤ y → x ≡ y
scaled_cancels scale (pos a) (pos b) some e = ap (λ (n : ℕ). pos n) (product-cancels scale a b some (sym (abs-of scale (pos a)) ∙ ap unsigned_abs e ∙ abs-of scale (pos b)))
scaled_cancels scale (negsuc a) (negsuc b) some e =
    let same = product-cancels scale (suc a) (suc b) some (sym (abs-of scale (negsuc a)) ∙ ap unsigned_abs e ∙ abs-of scale (negsuc b)) in
    let less : a ≡ b = omega (arith, same) in ap (λ (n : ℕ). negsuc n) less
scaled_cancels zero (pos a) (negsuc b) some e = absurd (omega arith)
scaled_cancels (suc s) (pos a) (negsuc b) some e = absurd (omega (arith, ints, e))
scaled_cancels zero (negsuc a) (pos b) some e = absurd (omega arith)
scaled_cancels (suc s) (negsuc a) (pos b) some e = absurd (omega (arith, ints, e))

tests_same : (a b c d : ℤ) → (a ≡ b → c ≡ d) → (c ≡ d → a ≡ b) → int_eq a b ≡ int_eq c d
tests_same a b c d on back =
    both_ways (int_eq a b) (int_eq c d)
    (λ h. (Decides-int_eq c d).1 (on ((Decides-int_eq a b).0 h)))
    (λ h. (Decides-int_eq a b).1 (back ((Decides-int_eq c d).0 h)))

-- samples are given again just where the outputs are
pub again_scaled : (scale : ℕ) (output : ℕ → ℤ) (samples : List ℤ) (n at len : ℕ) → 0 < scale → samples ≡ samples_of scale output n → at + len + len ≤ n
    → is_again (λ i. get_or samples i (pos 0)) at len ≡ is_again output at len
unfolding is_again
again_scaled scale output samples n at len some is room =
    ap (λ (o : Option ℕ). is_none o) (first_same (differs (λ i. get_or samples i (pos 0)) at len) (differs output at len) len (λ k h.
    let first : get_or samples (at + k) (pos 0) ≡ pos scale *ℤ output (at + k) = ap (λ (xs : List ℤ). get_or xs (at + k) (pos 0)) is ∙ sample_at scale output n (at + k) (omega arith) in
    let next : get_or samples (at + len + k) (pos 0) ≡ pos scale *ℤ output (at + len + k) = ap (λ (xs : List ℤ). get_or xs (at + len + k) (pos 0)) is ∙ sample_at scale output n (at + len + k) (omega arith) in
    ap not (tests_same _ _ _ _
    (λ e. scaled_cancels scale (output (at + k)) (output (at + len + k)) some (sym first ∙ e ∙ next))
    (λ e. first ∙ ap (λ (x : ℤ). pos scale *ℤ x) e ∙ sym next))))

-- one playing more
pub end_more : (points : LoopAt) (m : ℕ) → end_of points m + length_of points ≡ end_of points (m + 1)
end_more points m = omega arith

-- two playings end where the samples do
pub playing_room : (points : LoopAt) (m : ℕ) → points.start ≤ points.end → points.start + m * length_of points + length_of points + length_of points ≤ end_of points (m + 1)
playing_room points m ordered = omega arith

-- a player that gave so many outputs
pub player_at : (p : Playing) (n : ℕ) → p.count ≡ n → p ≡ record { track = p.track; count = n }
player_at p n is = ap (λ (k : ℕ). record { track = p.track; count = k }) is

-- the first playing that is given again
pub settled_here : (output : ℕ → ℤ) (points : LoopAt) (m : ℕ) → m < 64 → first_where (settles_at output points) m ≡ None → settles_at output points m ≡ true → Some m ≡ settled output points
unfolding settled
settled_here output points m within none here = sym (first_found (settles_at output points) 64 m within none here)

-- and none
pub settled_none : (output : ℕ → ℤ) (points : LoopAt) (m : ℕ) → m ≡ 64 → first_where (settles_at output points) m ≡ None → None ≡ settled output points
unfolding settled
settled_none output points m all none = sym none ∙ ap (first_where (settles_at output points)) all

-- later playings end behind earlier ones
pub end_later : (points : LoopAt) (m : ℕ) → end_of points m ≤ end_of points (m + 1)
end_later points m = omega arith

pub end_first : (points : LoopAt) (m : ℕ) → end_of points 0 ≤ end_of points m
end_first points m = omega arith
