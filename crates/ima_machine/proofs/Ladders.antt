-- The first of eight rising distances that comes nearest to a gap, and the first of two such ladders.
use Rattle.std.proofs.Common.{◌≡◌, ℕ, zero, suc, ◌+◌, ◌-◌, ◌*◌, ◌<◌, ◌≤◌, ◌⊎◌, inl, inr, arith, ap, sym, ◌∙◌, subst, min}
use Rattle.std.proofs.lemmas.Bool.{cases_lt}
use Rattle.std.proofs.Math.Nat.{mul-le-mul}
use Rattle.adpcm_nums.specs.Least.{IsFirstLeast}
use Rattle.ima_machine.specs.Nearest.{miss_toward, miss_away}
use Rattle.ima_machine.specs.Ladder.{IsLastWithin}

-- each of eight distances is below the next
pub record Rises (d : ℕ → ℕ) : Type 0 where
  pub next : (k : ℕ) → suc k < 8 → d k < d (suc k)

rises-to : (d : ℕ → ℕ) → Rises d → (j k : ℕ) → j < k → k < 8 → d j < d k
rises-to d up j zero before fits = absurd (omega arith)
rises-to d up j (suc k) before fits = elim (cases_lt j k) [
  | inl less ↦ (let far = rises-to d up j k less (omega arith) in let near = up.next k fits in omega arith)
  | inr same ↦ (let e : j ≡ k = omega arith in let near = up.next k fits in omega (arith, ap d e))
]

rises-up : (d : ℕ → ℕ) → Rises d → (j k : ℕ) → j ≤ k → k < 8 → d j ≤ d k
rises-up d up j k order fits = elim (cases_lt j k) [
  | inl less ↦ (let far = rises-to d up j k less fits in omega arith)
  | inr same ↦ (let e : j ≡ k = omega arith in omega (arith, ap d e))
]

-- past the gap a longer distance misses by no less, before it by less
past : (gap room x y : ℕ) → gap ≤ x → x ≤ y → miss_toward gap room x ≤ miss_toward gap room y
past gap room x y h k = omega arith

before-it : (gap room x y : ℕ) → x < y → y ≤ gap → miss_toward gap room y < miss_toward gap room x
before-it gap room x y h k = omega arith

-- no place up to the last within the gap misses by less than that one
below-last : (d : ℕ → ℕ) (gap room c k : ℕ) → Rises d → IsLastWithin d gap c → k < c → miss_toward gap room (d c) < miss_toward gap room (d k)
below-last d gap room c k up last less = before-it gap room (d k) (d c) (rises-to d up k c less last.range) (last.within (omega arith))

above-last : (d : ℕ → ℕ) (gap room c k : ℕ) → Rises d → IsLastWithin d gap c → c < k → k < 8 → miss_toward gap room (d (c + 1)) ≤ miss_toward gap room (d k)
above-last d gap room c k up last more fits =
    let beyond = last.last (omega arith) in
    past gap room (d (c + 1)) (d k) (omega arith) (rises-up d up (c + 1) k (omega arith) fits)

order : (k c : ℕ) → (k < c) ⊎ (k ≡ c) ⊎ (c < k)
order k c = grind arith

-- the last within the gap comes nearest, where the one after it is not nearer
pub stays-nearest : (d : ℕ → ℕ) (gap room c : ℕ) → Rises d → IsLastWithin d gap c → (c < 7 → miss_toward gap room (d c) ≤ miss_toward gap room (d (c + 1)))
    → IsFirstLeast (λ k. miss_toward gap room (d k)) 8 c
stays-nearest d gap room c up last next = record {
  within = last.range;
  least = λ k fits. elim (order k c) [
    | inl less ↦ (let far = below-last d gap room c k up last less in omega arith)
    | inr rest ↦ elim rest [
      | inl same ↦ omega (arith, ap (λ i. miss_toward gap room (d i)) same)
      | inr more ↦ (let far = above-last d gap room c k up last more fits in let here = next (omega arith) in omega (arith, far, here))
    ]
  ];
  first = λ k less. below-last d gap room c k up last less;
}

-- else the one after it does
pub moves-nearest : (d : ℕ → ℕ) (gap room c : ℕ) → Rises d → IsLastWithin d gap c → c < 7 → miss_toward gap room (d (c + 1)) < miss_toward gap room (d c)
    → IsFirstLeast (λ k. miss_toward gap room (d k)) 8 (c + 1)
moves-nearest d gap room c up last fits next = record {
  within = omega arith;
  least = λ k within. elim (order k c) [
    | inl less ↦ (let far = below-last d gap room c k up last less in omega arith)
    | inr rest ↦ elim rest [
      | inl same ↦ omega (arith, next, ap (λ i. miss_toward gap room (d i)) same)
      | inr more ↦ above-last d gap room c k up last more within
    ]
  ];
  first = λ k less. elim (order k c) [
    | inl before ↦ (let far = below-last d gap room c k up last before in omega arith)
    | inr rest ↦ elim rest [
      | inl same ↦ omega (arith, next, ap (λ i. miss_toward gap room (d i)) same)
      | inr more ↦ absurd (omega arith)
    ]
  ];
}

-- away from the target the first distance misses least
pub away-first : (d : ℕ → ℕ) (gap room : ℕ) → Rises d → IsFirstLeast (λ k. miss_away gap room (d k)) 8 0
away-first d gap room up = record {
  within = omega arith;
  least = λ k fits. (let more = rises-up d up 0 k (omega arith) fits in omega arith);
  first = λ k less. absurd (omega arith);
}

-- two halves of sixteen: the first is better where the second has none that is less
pub first-half : (f : ℕ → ℕ) (i j : ℕ) → IsFirstLeast f 8 i → IsFirstLeast (λ k. f (8 + k)) 8 j → f i ≤ f (8 + j) → IsFirstLeast f 16 i
first-half f i j low high h = let within = low.within in record {
  within = omega arith;
  least = λ k fits. elim (cases_lt k 8) [
    | inl less ↦ low.least k less
    | inr more ↦ (let e : 8 + (k - 8) ≡ k = omega arith in let far = high.least (k - 8) (omega arith) in omega (arith, h, far, ap f e))
  ];
  first = low.first;
}

pub second-half : (f : ℕ → ℕ) (i j : ℕ) → IsFirstLeast f 8 i → IsFirstLeast (λ k. f (8 + k)) 8 j → f (8 + j) < f i → IsFirstLeast f 16 (8 + j)
second-half f i j low high h = let within = high.within in record {
  within = omega arith;
  least = λ k fits. elim (cases_lt k 8) [
    | inl less ↦ (let far = low.least k less in omega (arith, h, far))
    | inr more ↦ (let e : 8 + (k - 8) ≡ k = omega arith in let far = high.least (k - 8) (omega arith) in omega (arith, far, ap f e))
  ];
  first = λ k less. elim (cases_lt k 8) [
    | inl below ↦ (let far = low.least k below in omega (arith, h, far))
    | inr more ↦ (let e : 8 + (k - 8) ≡ k = omega arith in let far = high.first (k - 8) (omega arith) in omega (arith, far, ap f e))
  ];
}

-- what is least is least where it is squared
square-less : (a b : ℕ) → a < b → a * a < b * b
square-less a b h = let next : a + 1 ≤ b = omega arith in let more : (a + 1) * (a + 1) ≤ b * b = mul-le-mul next next in omega arith

pub squared-least : (f g : ℕ → ℕ) (n i : ℕ) → ((k : ℕ) → k < n → g k ≡ f k * f k) → IsFirstLeast f n i → IsFirstLeast g n i
squared-least f g n i e p = let within = p.within in record {
  within = within;
  least = λ k fits. (let square = mul-le-mul (p.least k fits) (p.least k fits) in omega (arith, e i within, e k fits, square));
  first = λ k less. (let square = square-less (f i) (f k) (p.first k less) in let fits : k < n = omega arith in omega (arith, e i within, e k fits, square));
}

-- and where the values are the same
pub same-least : (f g : ℕ → ℕ) (n i : ℕ) → ((k : ℕ) → k < n → g k ≡ f k) → IsFirstLeast f n i → IsFirstLeast g n i
same-least f g n i e p = let within = p.within in record {
  within = within;
  least = λ k fits. (let le = p.least k fits in omega (arith, e i within, e k fits, le));
  first = λ k less. (let lt = p.first k less in let fits : k < n = omega arith in omega (arith, e i within, e k fits, lt));
}
