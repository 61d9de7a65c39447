-- Spans by their ends. A span carries the order of its ends, so the lemmas that make spans stand here.
use Rattle.std.proofs.Common.{◌≡◌, ℕ, arith, ap, subst}
use Rattle.std.specs.Prelude.{ℤ, pos, ◌+ℤ◌, ◌≤ℤ◌}
use Rattle.std.specs.Int.{int_max}
use Rattle.std.proofs.lemmas.Int.{ints}
use Rattle.std.proofs.Math.Dec.{T_prop}
use Rattle.adpcm_nums.specs.declared.span.Span.{Span}

-- the span of these ends
abbrev pub span_of : (lo hi : ℤ) → lo ≤ℤ hi → Span
span_of lo hi order = record { lo = lo; hi = hi; order = order }

pub le-self : (x : ℤ) → x ≤ℤ x
le-self x = omega (arith, ints)

-- the span of one number
abbrev pub point_span : ℤ → Span
point_span x = span_of x x (le-self x)

pub width-rises : (x : ℤ) (n : ℕ) → x ≤ℤ (x +ℤ pos n)
width-rises x n = omega (arith, ints)

-- x and the n numbers after it
abbrev pub span_from : ℤ → ℕ → Span
span_from x n = span_of x (x +ℤ pos n) (width-rises x n)

pub max-first : (x y : ℤ) → x ≤ℤ int_max x y
max-first x y = grind (arith, ints)

-- the numbers from lo to hi, or lo alone where hi is below it
abbrev pub span_to : ℤ → ℤ → Span
span_to lo hi = span_of lo (int_max lo hi) (max-first lo hi)

-- the order is no further information: spans of the same ends are the same
le-prop : (x y : ℤ) (p q : x ≤ℤ y) → p ≡ q
le-prop x y p q = let prop : IsProp (x ≤ℤ y) = hlevel T_prop in prop p q

same-order : (lo hi : ℤ) (p q : lo ≤ℤ hi) → span_of lo hi p ≡ span_of lo hi q
same-order lo hi p q = ap (span_of lo hi) (le-prop lo hi p q)

same-high : (lo hi hi' : ℤ) → hi ≡ hi' → (p : lo ≤ℤ hi) (q : lo ≤ℤ hi') → span_of lo hi p ≡ span_of lo hi' q
same-high lo hi hi' e p = subst (λ (z : ℤ). (q : lo ≤ℤ z) → span_of lo hi p ≡ span_of lo z q) e (λ q. same-order lo hi p q)

span-same : (lo hi lo' hi' : ℤ) → lo ≡ lo' → hi ≡ hi' → (p : lo ≤ℤ hi) (q : lo' ≤ℤ hi') → span_of lo hi p ≡ span_of lo' hi' q
span-same lo hi lo' hi' e f p = subst (λ (z : ℤ). (q : z ≤ℤ hi') → span_of lo hi p ≡ span_of z hi' q) e (λ q. same-high lo hi hi' f p q)

pub spans-are : (s t : Span) → s.lo ≡ t.lo → s.hi ≡ t.hi → s ≡ t
spans-are s t a b = span-same s.lo s.hi t.lo t.hi a b s.order t.order
