-- Products of whole numbers: over sums and differences, with their factors swapped, and in their order.
use Rattle.std.proofs.Common.{◌≡◌, ℕ, zero, suc, arith, ap, sym, ◌∙◌}
use Rattle.std.specs.Prelude.{ℤ, pos, negsuc, ◌+ℤ◌, ◌-ℤ◌, ◌*ℤ◌, ◌≤ℤ◌}
use Rattle.std.proofs.Math.IntN.{suc_ℤ-*ℤ, pred_ℤ-*ℤ, zero-*ℤ, *ℤ-zero}
use Rattle.std.proofs.lemmas.Int.{ints}

-- one factor more
next-product : (n : ℕ) (x : ℤ) → (pos (suc n) *ℤ x) ≡ (pos n *ℤ x +ℤ x)
next-product n x = suc_ℤ-*ℤ (pos n) x

-- the factor -1
minus-one : (x : ℤ) → (negsuc 0 *ℤ x) ≡ (pos 0 -ℤ x)
minus-one x = omega (arith, ints)

-- one factor less
last-product : (n : ℕ) (x : ℤ) → (negsuc (suc n) *ℤ x) ≡ (negsuc n *ℤ x -ℤ x)
last-product n x = pred_ℤ-*ℤ (negsuc n) x

-- a sum goes on by both parts
sum-next : (p q r a b p' q' r' : ℤ) → p' ≡ p +ℤ (a +ℤ b) → q' ≡ q +ℤ a → r' ≡ r +ℤ b → p ≡ q +ℤ r → p' ≡ q' +ℤ r'
sum-next p q r a b p' q' r' h k l e = omega (arith, ints)

-- and back
sum-last : (p q r a b p' q' r' : ℤ) → p' ≡ p -ℤ (a +ℤ b) → q' ≡ q -ℤ a → r' ≡ r -ℤ b → p ≡ q +ℤ r → p' ≡ q' +ℤ r'
sum-last p q r a b p' q' r' h k l e = omega (arith, ints)

-- a factor over a sum
pub mul-add : (k a b : ℤ) → k *ℤ (a +ℤ b) ≡ k *ℤ a +ℤ k *ℤ b
mul-add (pos zero) a b = omega (arith, ints)
mul-add (pos (suc n)) a b = sum-next _ _ _ a b _ _ _ (next-product n (a +ℤ b)) (next-product n a) (next-product n b) (mul-add (pos n) a b)
mul-add (negsuc zero) a b = omega (arith, ints)
mul-add (negsuc (suc n)) a b = sum-last _ _ _ a b _ _ _ (last-product n (a +ℤ b)) (last-product n a) (last-product n b) (mul-add (negsuc n) a b)

-- a factor over a difference
pub mul-sub : (k a b : ℤ) → k *ℤ (a -ℤ b) ≡ k *ℤ a -ℤ k *ℤ b
mul-sub k a b =
    let back : a -ℤ b +ℤ b ≡ a = omega (arith, ints) in
    let sum : k *ℤ a ≡ k *ℤ (a -ℤ b) +ℤ k *ℤ b = ap (λ x. k *ℤ x) (sym back) ∙ mul-add k (a -ℤ b) b in omega (arith, ints, sum)

-- two factors in their other order
pub mul-swap : (a b c : ℤ) → a *ℤ (b *ℤ c) ≡ b *ℤ (a *ℤ c)
mul-swap (pos zero) b c = let z : b *ℤ (pos 0 *ℤ c) ≡ pos 0 = ap (λ x. b *ℤ x) (zero-*ℤ c) ∙ *ℤ-zero b in zero-*ℤ (b *ℤ c) ∙ sym z
mul-swap (pos (suc n)) b c =
    let i = mul-swap (pos n) b c in let s = ap (λ x. b *ℤ x) (next-product n c) ∙ mul-add b (pos n *ℤ c) c in
    next-product n (b *ℤ c) ∙ (ap (λ x. x +ℤ b *ℤ c) i ∙ sym s)
mul-swap (negsuc zero) b c =
    let s = ap (λ x. b *ℤ x) (minus-one c) ∙ mul-sub b (pos 0) c in let z = *ℤ-zero b in
    minus-one (b *ℤ c) ∙ (ap (λ x. x -ℤ b *ℤ c) (sym z) ∙ sym s)
mul-swap (negsuc (suc n)) b c =
    let i = mul-swap (negsuc n) b c in let s = ap (λ x. b *ℤ x) (last-product n c) ∙ mul-sub b (negsuc n *ℤ c) c in
    last-product n (b *ℤ c) ∙ (ap (λ x. x -ℤ b *ℤ c) i ∙ sym s)

-- a product of two numbers from 0 on
natural-product : (k a : ℤ) → pos 0 ≤ℤ k → pos 0 ≤ℤ a → pos 0 ≤ℤ (k *ℤ a)
natural-product (pos k) (pos a) h l = omega (arith, ints)
natural-product (pos k) (negsuc a) h l = absurd (omega (arith, ints))
natural-product (negsuc k) a h l = absurd (omega (arith, ints))

-- a factor from 0 on keeps the order
pub in-order : (k a b : ℤ) → pos 0 ≤ℤ k → a ≤ℤ b → (k *ℤ a) ≤ℤ (k *ℤ b)
in-order k a b h l = let p = natural-product k (b -ℤ a) h (omega (arith, ints)) in let s = mul-sub k b a in omega (arith, ints, p, s)
