-- Steps in order, each once.
use Rattle.std.proofs.Common.{◌≡◌, ℕ, ◌+◌, ◌-◌, ◌*◌, ◌/◌, ◌%◌, ◌<◌, ◌≤◌, arith, ap, ◌∙◌, sym, refl, ◌⊎◌, inl, inr, true, false}
use Rattle.std.specs.Prelude.{ℤ, pos, negsuc, ◌+ℤ◌, ◌-ℤ◌, ◌*ℤ◌, ◌≤ℤ◌, unsigned_abs, Bool, List, length, take, get_or, slice_set}
use Rattle.std.proofs.lemmas.Int.{ints}
use Rattle.std.proofs.lemmas.List.{get_or-set_same, get_or-set_other, get_or-take, length-take}
use Rattle.window_floor.specs.declared.block.BlockWindows.{BlockWindows}
use Rattle.window_floor.specs.Numbers.{StandFor, windows_of}
use Rattle.window_floor.specs.Outcome.{IsWrap, none, up, down}
use Rattle.block_bounds.specs.Covers.{AreSteps}
use Rattle.block_bounds.specs.Steps.{top_wrap, number_at, moved_by, step_value}

-- the first n of the steps are among the first `count` of a list
pub record Hold (b : BlockWindows) (steps : List ℤ) (count n : ℕ) : Type 0 where
  pub all : (i : ℕ) → i < n → (j : ℕ) × (j < count) × (get_or steps j (pos 0) ≡ step_value b i)

pub hold-none : (b : BlockWindows) (steps : List ℤ) (count : ℕ) → Hold b steps count 0
hold-none b steps count = record { all = λ i h. absurd (omega (arith, h)) }

last-or : (j i : ℕ) → j < i + 1 → (j < i) ⊎ (j ≡ i)
last-or j i h = grind arith

value-as : (b : BlockWindows) (s : ℤ) (i n : ℕ) → i ≡ n → s ≡ step_value b n → s ≡ step_value b i
value-as b s i n e h = rw e h

-- the next step is put behind
pub hold-more : (b : BlockWindows) (steps : List ℤ) (count n : ℕ) (s : ℤ) → count < length steps → s ≡ step_value b n → Hold b steps count n → Hold b (slice_set steps count s) (count + 1) (n + 1)
hold-more b steps count n s h e old = record {
  all = λ i k. elim (last-or i n k) [
    | inl under ↦ (let o = old.all i under in let less = o.1 in (o.0, omega (arith, less), get_or-set_other steps count o.0 s (pos 0) (λ q. absurd (omega (arith, q, less))) ∙ o.2))
    | inr same ↦ (count, omega arith, value-as b _ i n same (get_or-set_same steps count s (pos 0) h ∙ e))
  ];
}

-- or it is the last one already
pub hold-same : (b : BlockWindows) (steps : List ℤ) (count n : ℕ) (s : ℤ) → 0 < count → get_or steps (count - 1) (pos 0) ≡ s → s ≡ step_value b n → Hold b steps count n → Hold b steps count (n + 1)
hold-same b steps count n s h at e old = record {
  all = λ i k. elim (last-or i n k) [
    | inl under ↦ old.all i under
    | inr same ↦ (count - 1, omega (arith, h), value-as b _ i n same (at ∙ e))
  ];
}

-- what moves a row, as the code holds its parts
pub moved-is : (b : BlockWindows) (n k whole part lower level s' d' t' n' k' l' p' q' : ℤ) → s' ≡ b.row.scale → d' ≡ b.row.d → t' ≡ b.levels.step → n' ≡ n → k' ≡ k → l' ≡ level → p' ≡ lower → q' ≡ part
    → level ≡ t' *ℤ n' → lower ≡ l' -ℤ pos 32768 *ℤ k' → part ≡ d' *ℤ p' → whole ≡ s' *ℤ q' → whole ≡ moved_by b n k
unfolding moved_by
moved-is b n k whole part lower level s' d' t' n' k' l' p' q' es ed et en ek el ep eq hl hp hq hw =
    let level-is : level ≡ b.levels.step *ℤ n = hl ∙ (ap (λ a. a *ℤ n') et ∙ ap (λ a. b.levels.step *ℤ a) en) in
    let lower-is : lower ≡ b.levels.step *ℤ n -ℤ pos 32768 *ℤ k = hp ∙ (ap (λ a. a -ℤ pos 32768 *ℤ k') (el ∙ level-is) ∙ ap (λ a. b.levels.step *ℤ n -ℤ pos 32768 *ℤ a) ek) in
    let part-is : part ≡ b.row.d *ℤ (b.levels.step *ℤ n -ℤ pos 32768 *ℤ k) = hq ∙ (ap (λ a. a *ℤ p') ed ∙ ap (λ a. b.row.d *ℤ a) (ep ∙ lower-is)) in
    hw ∙ (ap (λ a. a *ℤ q') es ∙ ap (λ a. b.row.scale *ℤ a) (eq ∙ part-is))

-- the i-th number, where it is a level's
number-is : (b : BlockWindows) (i : ℕ) (n : ℤ) → b.levels.low ≤ℤ n → n ≤ℤ b.levels.high → pos (i % 16) -ℤ pos 8 ≡ n → number_at b i ≡ n
number-is b i n l h e = rw e (grind (arith, ints))

at-index : (b : BlockWindows) (samples : List ℤ) (steps : List ℤ) (count total i : ℕ) (n k a : ℤ) → Hold b steps count total → count ≤ length steps → i < total → b.levels.low ≤ℤ n → n ≤ℤ b.levels.high
    → pos (i % 16) -ℤ pos 8 ≡ n → top_wrap b.row.wraps -ℤ pos (i / 16) ≡ k → a ≡ b.levels.step *ℤ n
    → (j : ℕ) × (j < length (take count steps)) × (get_or (take count steps) j (pos 0) ≡ b.row.scale *ℤ (b.row.d *ℤ (a -ℤ pos 32768 *ℤ k)))
unfolding moved_by
at-index b samples steps count total i n k a hold within h low high en ek ea =
    let o = hold.all i h in
    let less = o.1 in
    let len = length-take count steps in
    let num = number-is b i n low high en in
    let one : step_value b i ≡ moved_by b n k = ap (λ t. moved_by b t (top_wrap b.row.wraps -ℤ pos (i / 16))) num ∙ ap (moved_by b n) ek in
    let two : moved_by b n k ≡ b.row.scale *ℤ (b.row.d *ℤ (a -ℤ pos 32768 *ℤ k)) = ap (λ t. b.row.scale *ℤ (b.row.d *ℤ (t -ℤ pos 32768 *ℤ k))) (sym ea) in
    (o.0, omega (arith, len, within, less), get_or-take count steps o.0 (pos 0) less ∙ (o.2 ∙ (one ∙ two)))

-- sixteen numbers a wrap
block-of : (t m : ℕ) → m < 16 → ((t * 16 + m) % 16 ≡ m) × ((t * 16 + m) / 16 ≡ t)
block-of t m h = (omega (arith, h), omega (arith, h))

code-place : (b : BlockWindows) (n : ℤ) → b.levels.low ≤ℤ n → n ≤ℤ b.levels.high → (m : ℕ) × (m < 16) × (pos m ≡ n +ℤ pos 8)
code-place b n low high =
    let l = b.levels.low_is.low in let h = b.levels.high_is.high in
    (unsigned_abs (n +ℤ pos 8), omega (arith, ints, l, h, low, high), omega (arith, ints, l, low))

-- the number of wraps k is t below the greatest
at-wraps : (b : BlockWindows) (samples steps : List ℤ) (count total t : ℕ) (n k a : ℤ) → Hold b steps count total → count ≤ length steps → t * 16 + 16 ≤ total → b.levels.low ≤ℤ n → n ≤ℤ b.levels.high
    → top_wrap b.row.wraps -ℤ pos t ≡ k → a ≡ b.levels.step *ℤ n
    → (j : ℕ) × (j < length (take count steps)) × (get_or (take count steps) j (pos 0) ≡ b.row.scale *ℤ (b.row.d *ℤ (a -ℤ pos 32768 *ℤ k)))
at-wraps b samples steps count total t n k a hold within room low high ek ea =
    let m = code-place b n low high in
    let small = m.1 in let is = m.2 in
    let parts = block-of t m.0 small in
    let rest = parts.0 in let turn = parts.1 in
    let en : pos ((t * 16 + m.0) % 16) -ℤ pos 8 ≡ n = (let q : pos ((t * 16 + m.0) % 16) ≡ pos m.0 = ap pos rest in omega (arith, ints, q, is)) in
    let eturn : top_wrap b.row.wraps -ℤ pos ((t * 16 + m.0) / 16) ≡ k = ap (λ z. top_wrap b.row.wraps -ℤ pos z) turn ∙ ek in
    at-index b samples steps count total (t * 16 + m.0) n k a hold within (omega (arith, room, small)) low high en eturn ea

with-wrap : (b : BlockWindows) (samples steps : List ℤ) (count total : ℕ) (w : Bool) (n k a : ℤ) → Hold b steps count total → count ≤ length steps → b.row.wraps ≡ w → (w ≡ true → 48 ≤ total) → (w ≡ false → 16 ≤ total) → IsWrap w k
    → b.levels.low ≤ℤ n → n ≤ℤ b.levels.high → a ≡ b.levels.step *ℤ n
    → (j : ℕ) × (j < length (take count steps)) × (get_or (take count steps) j (pos 0) ≡ b.row.scale *ℤ (b.row.d *ℤ (a -ℤ pos 32768 *ℤ k)))
with-wrap b samples steps count total true n k a hold within ew long short (none _) low high ea =
    let big = long refl in at-wraps b samples steps count total 1 n (pos 0) a hold within (omega (arith, big)) low high (ap (λ z. top_wrap z -ℤ pos 1) ew) ea
with-wrap b samples steps count total true n k a hold within ew long short up low high ea =
    let big = long refl in at-wraps b samples steps count total 0 n (pos 1) a hold within (omega (arith, big)) low high (ap (λ z. top_wrap z -ℤ pos 0) ew) ea
with-wrap b samples steps count total true n k a hold within ew long short down low high ea =
    let big = long refl in at-wraps b samples steps count total 2 n (negsuc 0) a hold within (omega (arith, big)) low high (ap (λ z. top_wrap z -ℤ pos 2) ew) ea
with-wrap b samples steps count total false n k a hold within ew long short (none _) low high ea =
    let some = short refl in at-wraps b samples steps count total 0 n (pos 0) a hold within (omega (arith, some)) low high (ap (λ z. top_wrap z -ℤ pos 0) ew) ea

pub are-steps : (b : BlockWindows) (samples steps : List ℤ) (count total : ℕ) → StandFor b samples → Hold b steps count total → count ≤ length steps → (b.row.wraps ≡ true → 48 ≤ total) → (b.row.wraps ≡ false → 16 ≤ total)
    → AreSteps (windows_of b samples) (take count steps)
are-steps b samples steps count total stand hold within long short = record {
  all = λ i k h wrap.
      let n = stand.are i h in
      with-wrap b samples steps count total b.row.wraps n.0 k (get_or samples i (pos 0)) hold within refl long short wrap n.1 n.2 n.3;
}

-- the same steps, and as many
pub hold-as : (b : BlockWindows) (steps list : List ℤ) (count number n : ℕ) → list ≡ steps → number ≡ count → Hold b steps count n → Hold b list number n
hold-as b steps list count number n e f h = rw (e, f) h
