-- Cells and layers by their number.
use Rattle.std.proofs.Common.{◌≡◌, ℕ, zero, suc, ◌+◌, ◌-◌, ◌*◌, ◌<◌, List, length, arith, refl, ap, sym, ◌∙◌, subst, Some, None}
use Rattle.box_layers.specs.Cells.{nth}
use Rattle.bound_cert.specs.Places.{cells_at, value_at, layers_at, layer_at, layer_end, here_at, u32_at, count_at, StandHere}
use Rattle.bound_cert.specs.Content.{Here, next_of, end_of}

pub length-cells : (bytes : List ℕ) (at n : ℕ) → length (cells_at bytes at n) ≡ n
length-cells bytes at zero = refl
length-cells bytes at (suc n) = let e = length-cells bytes (at + 12) n in omega arith

pub nth-cells : (bytes : List ℕ) (at n i : ℕ) → i < n → nth (cells_at bytes at n) i ≡ value_at bytes (at + 12 * i)
nth-cells bytes at zero i h = absurd (omega arith)
nth-cells bytes at (suc n) zero h = let e : at ≡ at + 12 * 0 = omega arith in ap (value_at bytes) e
nth-cells bytes at (suc n) (suc i) h =
    let e : at + 12 + 12 * i ≡ at + 12 * suc i = omega arith in
    nth-cells bytes (at + 12) n i (omega arith) ∙ ap (value_at bytes) e

at-next : (bytes : List ℕ) (at k : ℕ) → Some (here_at bytes (layer_end bytes at) k) ≡ next_of (here_at bytes at (suc k))
at-next bytes at k =
    let mk : ℕ → Here = λ z. record { at = z; layer = layer_at bytes (layer_end bytes at); later = layers_at bytes (layer_end bytes (layer_end bytes at)) k } in
    ap (λ z. Some (mk z)) (ap (end_of at) (sym (length-cells bytes (at + 10) (count_at bytes at))))

-- the layer after a layer
pub next-is : (bytes : List ℕ) (at left n : ℕ) (h : Here) → (left ≡ 0 → ⊥) → n ≡ u32_at bytes (at + 6) → here_at bytes at left ≡ h
    → Some (here_at bytes (at + 10 + 12 * n) (left - 1)) ≡ next_of h
next-is bytes at zero n h z e v = absurd (z refl)
next-is bytes at (suc k) n h z e v =
    let l : suc k - 1 ≡ k = omega arith in
    let a : at + 10 + 12 * n ≡ layer_end bytes at = ap (λ z. at + 10 + 12 * z) e in
    ap (λ z. Some (here_at bytes (at + 10 + 12 * n) z)) l ∙ (ap (λ z. Some (here_at bytes z k)) a ∙ (at-next bytes at k ∙ ap next_of v))

pub later-stands : (bytes : List ℕ) (at left n : ℕ) → (left ≡ 0 → ⊥) → n ≡ u32_at bytes (at + 6) → StandHere bytes at left → StandHere bytes (at + 10 + 12 * n) (left - 1)
later-stands bytes at zero n z e s = absurd (z refl)
later-stands bytes at (suc k) n z e s =
    let l : k ≡ suc k - 1 = omega arith in
    let a : layer_end bytes at ≡ at + 10 + 12 * n = ap (λ z. at + 10 + 12 * z) (sym e) in
    let h : StandHere bytes (layer_end bytes at) k = record { within = s.later.0; later = s.later.1; sorted = s.sorted.3 } in
    subst (λ z. StandHere bytes (at + 10 + 12 * n) z) l (subst (λ z. StandHere bytes z k) a h)

pub last-is : (bytes : List ℕ) (at left : ℕ) (h : Here) → left ≡ 0 → here_at bytes at left ≡ h → None ≡ next_of h
last-is bytes at left h z v = ap (λ k. next_of (here_at bytes at k)) (sym z) ∙ ap next_of v
