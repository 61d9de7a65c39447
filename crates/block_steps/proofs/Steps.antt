-- A sample, its target, and what a step from it leads to.
use Rattle.std.proofs.Common.{◌≡◌, ℕ, suc, ◌%◌, ◌/◌, ◌+◌, ◌*◌, ◌<◌, List, [], ◌∷◌, get_or, pos, sym, ◌∙◌, ap, refl, arith, subst, cond, min, IsTrue, Option}
use Rattle.std.specs.Prelude.{nat_eq, ℤ}
use Rattle.std.specs.List.{Contains}
use Rattle.std.proofs.Math.Nat.{mod-lt}
use Rattle.adpcm_nums.specs.Sample.{IsSample}
use Rattle.adpcm_nums.proofs.LeastValueLaws.{least-same}
use Rattle.machine_core.specs.declared.boxes.Cell.{Cell}
use Rattle.machine_core.specs.declared.pieces.Piece.{Piece}
use Rattle.machine_core.specs.Blocks.{first_only}
use Rattle.machine_core.specs.Boxed.{place_after, IsBoxed, IsMove}
use Rattle.machine_core.specs.Cells.{cell_box}
use Rattle.machine_core.specs.Floors.{top, rest}
use Rattle.machine_core.specs.Rules.{Rules, IsMachine, grid}
use Rattle.machine_core.proofs.States.{is-sample-at}
use Rattle.box_layers.specs.Certificates.{least_piece, lane_at, Certificate, way, by_symbol, by_head}
use Rattle.box_layers.specs.Looking.{look_over}
use Rattle.box_layers.specs.declared.key.Key.{Key}
use Rattle.box_layers.proofs.Sound.{place-is}
use Rattle.block_steps.specs.declared.ahead.After.{After}
use Rattle.block_steps.specs.declared.plan.Plan.{Plan}
use Rattle.block_steps.specs.declared.spots.Spot.{Spot}
use Rattle.block_steps.specs.Plans.{IsPlan, IsCurrent, IsFrom}
use Rattle.block_steps.specs.Tables.{IsSpot}
use Rattle.block_steps.specs.Ways.{AllBoxes, IsAfter, key_for, key_of}

pub place-fits : (m : Rules) → IsMachine m → (at : Spot) → IsSpot m at → at.place < m.decoder.samples
place-fits m laws at s = let p = mod-lt at.index laws.some_samples in let q = s.place in omega arith

-- the target of the sample in work
pub target-fits : (m : Rules) (p : Plan) (at : Spot) → IsPlan m p → IsCurrent m p at → IsSample (get_or p.targets.now at.index (pos 0))
target-fits m p at plan cur = is-sample-at p.targets.now plan.range at.index (let c = plan.count in let w = cur.within in omega arith)

-- a step's pieces are boxes
pub boxes-of : (m : Rules) → IsMachine m → IsBoxed m → (p : Plan) (at : Spot) (cell : Cell) (head sym : ℕ) (ps : List Piece) → IsFrom m p at cell
    → head < m.decoder.heads → sym < m.decoder.symbols at.place → ps ≡ m.image head at.place sym (cell_box (grid m) p.level cell) (get_or p.targets.now at.index (pos 0))
    → AllBoxes m (suc at.index % m.decoder.samples) ps
boxes-of m laws boxed p at cell head sym ps from h s e k lt q is =
    let there : Contains (m.image head at.place sym (cell_box (grid m) p.level cell) (get_or p.targets.now at.index (pos 0))) q = subst (λ (z : List Piece). Contains z q) e (k, lt, is) in
    let fits = place-fits m laws at from.current.spot in
    let move : IsMove m head at.place sym = record { head_fits = h; place_fits = fits; symbol_fits = s } in
    let b = boxed.pieces_fit head at.place sym (cell_box (grid m) p.level cell) (get_or p.targets.now at.index (pos 0)) q move
    (boxed.cells_fit p.level at.place cell from.plan.level fits from.cell_fits) (target-fits m p at from.plan from.current) there in
    subst (λ (z : ℕ). IsTrue (m.is_box z q.bx)) (ap (place_after m.decoder) from.current.spot.place ∙ place-is m laws at.index) b

pub key-is : (m : Rules) (end : ℕ) (at : Spot) (head : ℕ) (x : After) → IsAfter m end at head x → key_of x ≡ key_for m (suc at.index) (lane_at m head (suc at.index))
key-is m end at head x after =
    let mk : ℕ → ℕ → ℕ → Key = λ b p l. record { block = b; place = p; lane = l } in
    let i = suc at.index in
    ap (λ b. mk b x.spot.place x.lane) (after.spot.block ∙ ap (λ z. z / m.decoder.samples) after.index)
    ∙ (ap (λ p. mk (i / m.decoder.samples) p x.lane) (after.spot.place ∙ ap (λ z. z % m.decoder.samples) after.index) ∙ ap (mk (i / m.decoder.samples) (i % m.decoder.samples)) after.lane)

pub piece-same : (qs : List Piece) (f g : Piece → ℕ) (a : ℕ) → ((q : Piece) → f q ≡ g q) → least_piece qs f a ≡ least_piece qs g a
piece-same [] f g a h = refl
piece-same (q ∷ qs) f g a h = ap (λ z. least_piece qs f (min a z)) (h q) ∙ piece-same qs f g (min a (g q)) h

-- what is found depends on what is listed at the next sample alone
pub symbol-same : (m : Rules) (targets : List ℤ) (level blocks i h s : ℕ) (listed listed' : ℕ → ℕ → Cell → Option ℕ) (cell : Cell) → listed (suc i) (lane_at m h (suc i)) ≡ listed' (suc i) (lane_at m h (suc i))
    → by_symbol m targets (record { level = level; blocks = blocks; listed = listed }) i cell h s ≡ by_symbol m targets (record { level = level; blocks = blocks; listed = listed' }) i cell h s
symbol-same m targets level blocks i h s listed listed' cell e =
    let c : Certificate = record { level = level; blocks = blocks; listed = listed } in
    let c' : Certificate = record { level = level; blocks = blocks; listed = listed' } in
    piece-same (m.image h (i % m.decoder.samples) s (cell_box (grid m) level cell) (get_or targets i (pos 0))) (way m targets c i h) (way m targets c' i h) top (λ q.
    ap (λ (f : Cell → Option ℕ). q.cost + cond (nat_eq (suc i) (blocks * m.decoder.samples)) 0 (look_over m level f (rest m first_only targets blocks (suc i) (lane_at m h (suc i)) q.bx) q.bx)) e)

pub head-same : (m : Rules) (targets : List ℤ) (level blocks i h : ℕ) (listed listed' : ℕ → ℕ → Cell → Option ℕ) (cell : Cell) → listed (suc i) (lane_at m h (suc i)) ≡ listed' (suc i) (lane_at m h (suc i))
    → by_head m targets (record { level = level; blocks = blocks; listed = listed }) i cell h ≡ by_head m targets (record { level = level; blocks = blocks; listed = listed' }) i cell h
head-same m targets level blocks i h listed listed' cell e =
    least-same (m.decoder.symbols (i % m.decoder.samples)) _ _ top (λ s. symbol-same m targets level blocks i h s listed listed' cell e)
