use Rattle.std.proofs.Common.{◌≡◌, ℕ, ◌+◌, ◌-◌, ◌*◌, ◌<◌, ◌≤◌, ℤ, List, length, take, drop, sym, ◌∙◌, ap, arith, subst, inl, inr, ◌⊎◌}
use borrow.Rule.Slice.PartMut.{put_mid}
use Rattle.std.proofs.lemmas.List.{drop-take}
use Rattle.std.proofs.lemmas.Slice.{take-put_mid_below, between-put_mid}
use Rattle.std.proofs.Math.Nat.{mul-le-mul_right, eq-or-lt_of_le}
use Rattle.machine_core.specs.Rules.{Rules, HoldsFloors}
use Rattle.block_steps.specs.Tables.{row, HoldFirst, IsLeader}

row-is : (rows : List ℕ) (len h : ℕ) → row rows len h ≡ drop (h * len) (take (h * len + len) rows)
row-is rows len h = let e : h * len + len - h * len ≡ len = omega arith in ap (λ z. take z (drop (h * len) rows)) e ∙ sym (drop-take (h * len) len rows)

row-below : (rows new : List ℕ) (len h head : ℕ) → h < head → head * len ≤ length rows → row (put_mid (head * len) (head * len + len - head * len) rows new) len h ≡ row rows len h
row-below rows new len h head lt fits =
    let lt' : h + 1 ≤ head = omega arith in
    let m : (h + 1) * len ≤ head * len = mul-le-mul_right len lt' in
    row-is _ len h ∙ (ap (drop (h * len)) (take-put_mid_below (head * len) (head * len + len - head * len) rows new (h * len + len) (omega arith) fits) ∙ sym (row-is rows len h))

pub rows-more : (m : Rules) (targets : List ℤ) (rows new : List ℕ) (len head heads : ℕ) → len ≡ m.floor_len → head < heads → length rows ≡ heads * len → length new ≡ len
    → HoldFirst m targets rows head → HoldsFloors m head targets new → HoldFirst m targets (put_mid (head * len) (head * len + len - head * len) rows new) (head + 1)
rows-more m targets rows new len head heads e lt count size old here h below leads =
    let le : head * len ≤ heads * len = mul-le-mul_right len (omega arith) in
    let at : (l : ℕ) → len ≡ l → HoldsFloors m h targets (row (put_mid (head * len) (head * len + len - head * len) rows new) len h) → HoldsFloors m h targets (row (put_mid (head * len) (head * len + len - head * len) rows new) l h)
    = λ l q. subst (λ (z : ℕ). HoldsFloors m h targets (row (put_mid (head * len) (head * len + len - head * len) rows new) z h)) q in
    at m.floor_len e (elim (eq-or-lt_of_le {n = h} {m = head} (omega arith)) [
      | inl same ↦ (
          let b = between-put_mid (head * len) (head * len + len - head * len) rows new (head * len + len) (omega arith) (omega arith) in
          subst (λ (z : ℕ). HoldsFloors m z targets (row (put_mid (head * len) (head * len + len - head * len) rows new) len z)) (sym same)
          (subst (λ (z : List ℕ). HoldsFloors m head targets z) (sym b) here))
      | inr less ↦ (let o = subst (λ (z : ℕ). HoldsFloors m h targets (row rows z h)) (sym e) (old h less leads) in
          subst (λ (z : List ℕ). HoldsFloors m h targets z) (sym (row-below rows new len h head less (omega arith))) o)
    ])

-- the next head leads no lane
pub rows-same : (m : Rules) (targets : List ℤ) (rows : List ℕ) (head : ℕ) → HoldFirst m targets rows head → (IsLeader m head → ⊥) → HoldFirst m targets rows (head + 1)
rows-same m targets rows head old never h below leads =
    elim (eq-or-lt_of_le {n = h} {m = head} (omega arith)) as (λ _. HoldsFloors m h targets (row rows m.floor_len h)) [ inl same ↦ absurd (never (subst (λ (z : ℕ). IsLeader m z) same leads)) | inr less ↦ old h less leads ]
