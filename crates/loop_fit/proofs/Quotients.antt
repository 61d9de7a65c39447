-- A loop is repeated as often as a block has samples, divided by what that number and the loop's length have in common.
use Rattle.std.proofs.Common.{◌≡◌, ℕ, ◌+◌, ◌*◌, ◌/◌, ◌%◌, ◌<◌, ◌≤◌, sym, ap, ◌∙◌, arith, inl, inr}
use Rattle.std.specs.Int.{IsGcd}
use Rattle.std.proofs.lemmas.Bool.{cases_lt}
use Rattle.std.proofs.lemmas.Nat.{div-add-mod', mod_below, mul-le}
use Rattle.std.proofs.lemmas.Nat.Gcd.{le_of_dvd, mod-eq-zero_of_dvd, dvd_of_mod-eq-zero}
use Rattle.std.proofs.Math.Nat.{mul-add-mod_self_right, mul-mod_left, div-mul_cancel, eq_of_mul-eq-mul_left}
use Rattle.loop_fit.specs.Align.{unroll_of}
use Rattle.loop_fit.proofs.Unrolling.{whole_rounds, unroll_of-some, unroll_of-whole, unroll_of-least}

-- what is left of whole rounds, less some rounds that are whole, is whole
rest_whole : (block len u m : ℕ) → (u * len) % block ≡ 0 → (m * len) % block ≡ 0 → (m % u * len) % block ≡ 0
rest_whole block len u m p q =
    let rounds : u * len ≡ u * len / block * block = omega (arith, p, div-add-mod' (u * len) block) in
    let split : m * len ≡ m / u * (u * len) + m % u * len = (let d = div-add-mod' m u in ap (λ n. n * len) (sym d) ∙ omega arith) in
    let apart : m * len ≡ m / u * (u * len / block) * block + m % u * len = split ∙ (ap (λ n. m / u * n + m % u * len) rounds ∙ omega arith) in
    sym (ap (λ n. n % block) apart ∙ mul-add-mod_self_right (m / u * (u * len / block)) block (m % u * len)) ∙ q

-- so as many rounds as are whole are a multiple of the least such number
multiple : (block len m : ℕ) → 0 < block → (m * len) % block ≡ 0 → m % unroll_of block len ≡ 0
multiple block len m some whole =
    let u = unroll_of block len in
    let below : m % u < u = mod_below m u (unroll_of-some block len) in
    elim (cases_lt 0 (m % u)) [
      | inl rest ↦ absurd (omega (arith, below, unroll_of-least block len (m % u) rest (rest_whole block len u m (unroll_of-whole block len some) whole)))
      | inr none ↦ omega (arith, none)
    ]

-- a common divisor is no greater than the rounds leave it
at_most : (block len g : ℕ) → 0 < block → len % g ≡ 0 → block % g ≡ 0 → 0 < g → unroll_of block len * g ≤ block
at_most block len g some p q pos_g =
    let a : len ≡ len / g * g = omega (arith, p, div-add-mod' len g) in
    let b : block ≡ block / g * g = omega (arith, q, div-add-mod' block g) in
    let few : 1 ≤ block / g = elim (cases_lt 0 (block / g)) [ inl yes' ↦ yes' | inr no' ↦ (let e : block / g ≡ 0 = omega arith in absurd (let z : block ≡ 0 = b ∙ (ap (λ n. n * g) e ∙ omega arith) in omega arith)) ] in
    let turned : block / g * len ≡ len / g * block = ap (λ n. block / g * n) a ∙ (let c : block / g * (len / g * g) ≡ len / g * (block / g * g) = omega arith in c ∙ ap (λ n. len / g * n) (sym b)) in
    let whole : (block / g * len) % block ≡ 0 = ap (λ n. n % block) turned ∙ mul-mod_left (len / g) block in
    let least : unroll_of block len ≤ block / g = unroll_of-least block len (block / g) few whole in
    omega (arith, mul-le (unroll_of block len) g (block / g) g least (omega arith), b)

-- and the rounds leave a common divisor
leaves : (block len : ℕ) → 0 < block → ((block / unroll_of block len) * unroll_of block len ≡ block) × (len % (block / unroll_of block len) ≡ 0)
leaves block len some =
    let u = unroll_of block len in
    let h = block / u in
    let b : h * u ≡ block = (let m = multiple block len block some (whole_rounds block len) in omega (arith, m, div-add-mod' block u)) in
    let k = u * len / block in
    let r : u * len ≡ k * block = (let w = unroll_of-whole block len some in omega (arith, w, div-add-mod' (u * len) block)) in
    let turned : u * len ≡ u * (k * h) = r ∙ (ap (λ n. k * n) (sym b) ∙ omega arith) in
    let l : len ≡ k * h = eq_of_mul-eq-mul_left u (unroll_of-some block len) len (k * h) turned in
    (b, ap (λ n. n % h) l ∙ mul-mod_left k h)

-- so the rounds times the greatest common divisor are the block's samples
pub unroll_of-quotient : (block len g : ℕ) → 0 < block → IsGcd len block g → unroll_of block len * g ≡ block
unroll_of-quotient block len g some gcd =
    let u = unroll_of block len in
    let h = block / u in
    let left = leaves block len some in
    let p : len % g ≡ 0 = mod-eq-zero_of_dvd g gcd.0 in
    let q : block % g ≡ 0 = mod-eq-zero_of_dvd g gcd.1 in
    let b : block / g * g ≡ block = div-mul_cancel g gcd.1 in
    let pos_g : 0 < g = elim (cases_lt 0 g) [ inl yes' ↦ yes' | inr no' ↦ (let e : g ≡ 0 = omega arith in absurd (let z : block ≡ 0 = sym b ∙ (ap (λ n. block / g * n) e ∙ omega arith) in omega arith)) ] in
    let divides : block % h ≡ 0 = ap (λ n. n % h) (sym left.0 ∙ omega arith) ∙ mul-mod_left u h in
    let common : h ≤ g = le_of_dvd pos_g (gcd.2 h (dvd_of_mod-eq-zero h left.1) (dvd_of_mod-eq-zero h divides)) in
    let low : u * g ≤ block = at_most block len g some p q pos_g in
    let high : h * u ≤ g * u = mul-le h u g u common (omega arith) in
    omega (arith, low, high, left.0)
