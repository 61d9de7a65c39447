-- More laws of the least value of a function.
use Rattle.std.proofs.Common.{◌≡◌, ℕ, zero, suc, ◌<◌, ◌≤◌, arith, refl, min, ◌⊎◌, inl, inr}
use Rattle.adpcm_nums.specs.LeastValue.{least}
use Rattle.adpcm_nums.proofs.LeastValueLaws.{least-above, least-below, least-glb}
use Rattle.machine_core.specs.Floors.{top}

-- what is above the greatest number changes nothing
pub least-capped : (n : ℕ) (f g : ℕ → ℕ) (above : ℕ) → ((k : ℕ) → min above (f k) ≡ min above (g k)) → least n f above ≡ least n g above
unfolding least
least-capped zero f g above e = refl
least-capped (suc n) f g above e =
    let i = least-capped n f g above e in let j = e n in let a = least-above n f above in let b = least-above n g above in omega arith

-- where every value is v or `above`, and one is v
pub least-alike : (n : ℕ) (f : ℕ → ℕ) (above v k : ℕ) → ((j : ℕ) → j < n → (f j ≡ v) ⊎ (f j ≡ above)) → v ≤ above → k < n → f k ≡ v → least n f above ≡ v
least-alike n f above v k each h lt is =
    let a = least-below n f above k lt in
    let b = least-glb n f above v (λ j l. (elim (each j l) [ inl e ↦ omega arith | inr e ↦ omega arith ])) h in
    omega arith

-- where every value is the greatest
pub all-top : (n : ℕ) (f : ℕ → ℕ) → ((k : ℕ) → k < n → f k ≡ top) → top ≡ least n f top
all-top n f h = let a = least-above n f top in let b = least-glb n f top top (λ k l. (let e = h k l in omega arith)) (omega arith) in omega arith
