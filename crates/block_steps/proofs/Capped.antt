-- The least as far as a bound.
use Rattle.std.proofs.Common.{◌≡◌, ℕ, zero, suc, ◌+◌, ◌-◌, ◌%◌, ◌<◌, ◌≤◌, pos, List, [], ◌∷◌, get_or, arith, refl, ap, sym, ◌∙◌, min, subst, inl, inr, ◌⊎◌, add-one}
use Rattle.machine_core.specs.Cells.{cell_box}
use Rattle.std.specs.List.{Contains}
use Rattle.machine_core.specs.declared.boxes.Cell.{Cell}
use Rattle.machine_core.specs.declared.pieces.Piece.{Piece}
use Rattle.machine_core.specs.Rules.{Rules, IsMachine, grid}
use Rattle.box_layers.specs.Certificates.{least_piece, Certificate, by_symbol, by_head, way, look_ahead, lane_at}
use Rattle.machine_core.specs.Floors.{top}
use Rattle.adpcm_nums.specs.LeastValue.{least}
use Rattle.adpcm_nums.proofs.LeastValueLaws.{least-above}
use Rattle.block_steps.specs.declared.spots.Spot.{Spot}
use Rattle.block_steps.specs.declared.plan.Plan.{Plan}
use Rattle.block_steps.specs.Plans.{IsFrom}
use Rattle.box_layers.proofs.Seeing.{least-split}
use Rattle.machine_core.specs.Boxed.{IsBoxed, IsMove}
use Rattle.block_steps.proofs.Steps.{place-fits, target-fits}

omega-part : (a cap x : ℕ) → a ≤ cap → min a (min cap x) ≡ min a x
omega-part a cap x h = omega arith

cut : (a x cap : ℕ) → a ≤ cap → cap ≤ x → min a x ≡ a
cut a x cap h g = omega arith

way-above : (cost more slack : ℕ) → slack < cost → slack + 1 ≤ cost + more
way-above cost more slack h = omega arith

pub capped_more : (n : ℕ) (f : ℕ → ℕ) (cap best v : ℕ) → best ≡ least n f cap → v ≡ min cap (f n) → min best v ≡ least (n + 1) f cap
unfolding least
capped_more n f cap best v e p = let a = least-above n f cap in ap (λ z. min z v) e ∙ (ap (λ z. min (least n f cap) z) p ∙ (omega-part (least n f cap) cap (f n) a ∙ ap (λ z. least z f cap) (sym (add-one n))))

pub least-rest : (d n : ℕ) (f : ℕ → ℕ) (cap : ℕ) → ((j : ℕ) → n ≤ j → j < d + n → cap ≤ f j) → least (d + n) f cap ≡ least n f cap
unfolding least
least-rest zero n f cap h = let e : zero + n ≡ n = omega arith in ap (λ z. least z f cap) e
least-rest (suc d) n f cap h =
    let e : suc d + n ≡ suc (d + n) = omega arith in
    let i = least-rest d n f cap (λ j a b. h j a (omega arith)) in
    let a = least-above (d + n) f cap in
    let c = h (d + n) (omega arith) (omega arith) in
    ap (λ z. least z f cap) e ∙ (cut (least (d + n) f cap) (f (d + n)) cap a c ∙ i)

pub least-to : (n k : ℕ) (f : ℕ → ℕ) (cap : ℕ) → n ≤ k → ((j : ℕ) → n ≤ j → j < k → cap ≤ f j) → least k f cap ≡ least n f cap
least-to n k f cap l h =
    let e : k ≡ (k - n) + n = omega arith in
    ap (λ z. least z f cap) e ∙ least-rest (k - n) n f cap (λ j a b. h j a (omega arith))

pub least-start : (n : ℕ) (f : ℕ → ℕ) (cap : ℕ) → ((j : ℕ) → j < n → cap ≤ f j) → cap ≡ least n f cap
unfolding least
least-start n f cap h = sym (least-to 0 n f cap (omega arith) (λ j a b. h j b))

pieces-above : (qs : List Piece) (f : Piece → ℕ) (above cap : ℕ) → cap ≤ above → ((q : Piece) → Contains qs q → cap ≤ f q) → cap ≤ least_piece qs f above
pieces-above [] f above cap h g = h
pieces-above (q ∷ qs) f above cap h g =
    let a = g q (0, omega arith, refl) in
    pieces-above qs f (min above (f q)) cap (omega arith) (λ x c. g x (suc c.0, omega (arith, c.1), c.2))

-- a symbol outside the range costs more
pub outside : (m : Rules) → IsMachine m → IsBoxed m → (p : Plan) (at : Spot) (c : Certificate) (cell : Cell) (head s slack : ℕ) → IsFrom m p at cell → c.level ≡ p.level → head < m.decoder.heads → s < m.decoder.symbols at.place → slack < top
    → (s < m.first_symbol at.place (get_or p.targets.now at.index (pos 0)) slack) ⊎ (m.last_symbol at.place (get_or p.targets.now at.index (pos 0)) slack < s)
    → slack + 1 ≤ by_symbol m p.targets.now c at.index cell head s
outside m laws boxed p at c cell head s slack from level hl sl small out =
    let place = from.current.spot.place in
    let t = get_or p.targets.now at.index (pos 0) in
    let move : IsMove m head at.place s = record { head_fits = hl; place_fits = place-fits m laws at from.current.spot; symbol_fits = sl } in
    let pieces = m.image head (at.index % m.decoder.samples) s (cell_box (grid m) c.level cell) t in
    let same : m.image head at.place s (cell_box (grid m) p.level cell) t ≡ pieces = ap (λ z. m.image head z s (cell_box (grid m) p.level cell) t) place ∙ ap (λ z. m.image head (at.index % m.decoder.samples) s (cell_box (grid m) z cell) t) (sym level) in
    pieces-above pieces (way m p.targets.now c at.index head) top (slack + 1) (omega arith) (λ q there.
    (let cost = boxed.spanned head at.place s (cell_box (grid m) p.level cell) t slack q move (boxed.cells_fit p.level at.place cell from.plan.level (place-fits m laws at from.current.spot) from.cell_fits) (target-fits m p at from.plan from.current) out
    (subst (λ (z : List Piece). Contains z q) (sym same) there) in
    way-above q.cost (look_ahead m p.targets.now c (suc at.index) (lane_at m head (suc at.index)) q.bx) slack cost))

pub capped-top : (slack f : ℕ) → slack < top → f ≡ top → slack + 1 ≡ min (slack + 1) f
capped-top slack f h e = omega arith

pub capped-all : (n : ℕ) (f : ℕ → ℕ) (slack best : ℕ) → slack < top → best ≡ least n f (slack + 1) → best ≡ min (slack + 1) (least n f top)
capped-all n f slack best h e = e ∙ least-split n f (slack + 1) top (omega arith)

pub symbols-init : (m : Rules) → IsMachine m → IsBoxed m → (p : Plan) (at : Spot) (c : Certificate) (cell : Cell) (head slack first : ℕ) → IsFrom m p at cell → c.level ≡ p.level → head < m.decoder.heads → slack < top
    → first ≡ m.first_symbol at.place (get_or p.targets.now at.index (pos 0)) slack
    → (slack + 1 ≡ least first (by_symbol m p.targets.now c at.index cell head) (slack + 1)) × (first ≤ m.decoder.symbols at.place)
symbols-init m laws boxed p at c cell head slack first from level hl small e =
    let t = get_or p.targets.now at.index (pos 0) in
    let spans = boxed.spans at.place t slack (place-fits m laws at from.current.spot) (target-fits m p at from.plan from.current) in
    let low = spans.0 in let high = spans.1 in
    let w : first ≤ m.decoder.symbols at.place = omega arith in (
      least-start first (by_symbol m p.targets.now c at.index cell head) (slack + 1) (λ j h. outside m laws boxed p at c cell head j slack from level hl (omega arith) small (inl (omega arith))),
      w,
    )

pub symbols-done : (m : Rules) → IsMachine m → IsBoxed m → (p : Plan) (at : Spot) (c : Certificate) (cell : Cell) (head slack end s best : ℕ) → IsFrom m p at cell → c.level ≡ p.level → head < m.decoder.heads → slack < top
    → end ≡ suc (m.last_symbol at.place (get_or p.targets.now at.index (pos 0)) slack) → end ≤ s → s ≤ m.decoder.symbols at.place → best ≡ least s (by_symbol m p.targets.now c at.index cell head) (slack + 1)
    → best ≡ min (slack + 1) (by_head m p.targets.now c at.index cell head)
symbols-done m laws boxed p at c cell head slack end s best from level hl small e past within is =
    let f = by_symbol m p.targets.now c at.index cell head in
    let r = least-to s (m.decoder.symbols at.place) f (slack + 1) within (λ j a b. outside m laws boxed p at c cell head j slack from level hl b small (inr (omega arith))) in
    capped-all (m.decoder.symbols at.place) f slack best small (is ∙ sym r) ∙ ap (λ z. min (slack + 1) (least (m.decoder.symbols z) f top)) from.current.spot.place
