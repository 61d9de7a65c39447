-- Heads of one lane act alike.
use Rattle.std.proofs.Common.{◌≡◌, ℕ, zero, suc, ◌+◌, ◌/◌, ◌%◌, ◌<◌, ◌≤◌, ℤ, pos, List, get_or, sym, ◌∙◌, ap, arith, inl, inr, ◌⊎◌, true, false, nat_eq, cond, Bool, IsTrue}
use Rattle.machine_core.specs.Blocks.{first_only}
use Rattle.std.proofs.lemmas.Bool.Decides.{nat_tests}
use Rattle.std.proofs.Math.Nat.{mod-lt, eq-or-lt_of_le}
use Rattle.machine_core.specs.declared.boxes.Bx.{Bx}
use Rattle.machine_core.specs.declared.boxes.Cell.{Cell}
use Rattle.machine_core.specs.declared.pieces.Piece.{Piece}
use Rattle.machine_core.specs.Boxed.{IsBoxed}
use Rattle.machine_core.specs.Cells.{cell_box}
use Rattle.machine_core.specs.Rules.{Rules, IsMachine, grid}
use Rattle.box_layers.specs.Certificates.{by_head, by_symbol, Certificate, found, head_found, lane_at, least_piece, look_ahead, way}
use Rattle.machine_core.specs.Floors.{may_take, top, head_floor, floor_in, block_targets}
use Rattle.adpcm_nums.proofs.LeastValueLaws.{least-above, least-same}
use Rattle.block_steps.proofs.LeastMore.{all-top, least-alike}
use Rattle.block_steps.specs.declared.spots.Spot.{Spot}
use Rattle.block_steps.specs.Tables.{HoldRows, IsLeader, IsSpot, row}
use Rattle.block_steps.proofs.Steps.{piece-same, place-fits}
use Rattle.box_layers.proofs.Sound.{place-within, place-over}
use Rattle.std.proofs.lemmas.Bool.{cases_Bool, cond-true, cond-false}

same-true : (a b : ℕ) → nat_eq a b ≡ true → a ≡ b
same-true a b h = grind (arith, nat_tests)

not-zero : (a : ℕ) → 0 < a → nat_eq a 0 ≡ false
not-zero a h = grind (arith, nat_tests)

is-zero : (a : ℕ) → a ≡ 0 → nat_eq a 0 ≡ true
is-zero a h = grind (arith, nat_tests)

-- behind the first sample the lane decides
pub lane-of : (m : Rules) (i lane h : ℕ) → 0 < i % m.decoder.samples → may_take m first_only i lane h ≡ true → m.lane h (i % m.decoder.samples) ≡ lane
lane-of m i lane h p t = same-true _ _ (sym (cond-false (nat_eq (i % m.decoder.samples) 0) _ (nat_eq (m.lane h (i % m.decoder.samples)) lane) (not-zero _ p)) ∙ t)

-- two heads that may be taken at a later place have one lane
pub one-lane : (m : Rules) (i lane j head : ℕ) → 0 < i % m.decoder.samples → may_take m first_only i lane j ≡ true → may_take m first_only i lane head ≡ true → m.lane j (i % m.decoder.samples) ≡ m.lane head (i % m.decoder.samples)
one-lane m i lane j head p t u = lane-of m i lane j p t ∙ sym (lane-of m i lane head p u)

-- and lead to one lane
pub lanes-next : (m : Rules) → IsMachine m → (i h h' : ℕ) → h < m.decoder.heads → h' < m.decoder.heads → 0 < i % m.decoder.samples → m.lane h (i % m.decoder.samples) ≡ m.lane h' (i % m.decoder.samples) → lane_at m h (suc i) ≡ lane_at m h' (suc i)
lanes-next m laws i h h' hl hl' p e =
    let n = m.decoder.samples in
    let q = suc i % n in
    elim (eq-or-lt_of_le {n = suc (i % n)} {m = n} (mod-lt i laws.some_samples)) [
      | inl last ↦ (
          let z = is-zero q (place-over i n laws.some_samples last) in
          cond-true (nat_eq q 0) 65535 (m.lane h q) z ∙ sym (cond-true (nat_eq q 0) 65535 (m.lane h' q) z))
      | inr less ↦ (
          let s : q ≡ suc (i % n) = place-within i n less in
          let l : m.lane h q ≡ m.lane h' q = ap (m.lane h) s ∙ (laws.lanes_stay h h' (i % n) hl hl' p less e ∙ sym (ap (m.lane h') s)) in
          ap (λ z. cond (nat_eq q 0) 65535 z) l)
    ]

-- heads that share a lane at place 1 share one at every later place
stays : (m : Rules) → IsMachine m → (g h p : ℕ) → g < m.decoder.heads → h < m.decoder.heads → suc p < m.decoder.samples → m.lane g 1 ≡ m.lane h 1 → m.lane g (suc p) ≡ m.lane h (suc p)
stays m laws g h zero gl hl fits e = e
stays m laws g h (suc p) gl hl fits e = laws.lanes_stay g h (suc p) gl hl (omega arith) fits (stays m laws g h p gl hl (omega arith) e)

stays-at : (m : Rules) → IsMachine m → (g h p : ℕ) → g < m.decoder.heads → h < m.decoder.heads → 0 < p → p < m.decoder.samples → m.lane g 1 ≡ m.lane h 1 → m.lane g p ≡ m.lane h p
stays-at m laws g h zero gl hl later fits e = absurd (omega arith)
stays-at m laws g h (suc p) gl hl later fits e = stays m laws g h p gl hl fits e

make-same : (a b : ℕ) → a ≡ b → nat_eq a b ≡ true
make-same a b h = grind (arith, nat_tests)

not-both : (x : Bool) → x ≡ true → x ≡ false → ⊥
not-both x t f = cc

-- the first head that may be taken at a later place leads its lane
leader-first : (m : Rules) → IsMachine m → (i lane h : ℕ) → h < m.decoder.heads → 0 < i % m.decoder.samples → may_take m first_only i lane h ≡ true → ((k : ℕ) → k < h → may_take m first_only i lane k ≡ false) → IsLeader m h
leader-first m laws i lane h hl p t none g less e =
    let n = m.decoder.samples in
    let same : m.lane g (i % n) ≡ lane = stays-at m laws g h (i % n) (omega arith) hl p (mod-lt i laws.some_samples) e ∙ lane-of m i lane h p t in
    not-both (may_take m first_only i lane g) (cond-false (nat_eq (i % n) 0) _ (nat_eq (m.lane g (i % n)) lane) (not-zero _ p) ∙ make-same _ _ same) (none g less)

-- so its table tells the floor
pub row-floor : (m : Rules) → IsMachine m → (targets : List ℤ) (rows table : List ℕ) (at : Spot) (lane : ℕ) (bx : Bx) (h v len : ℕ) → IsSpot m at → HoldRows m (block_targets m targets at.block) rows → 0 < at.place → IsTrue (m.is_box at.place bx)
    → h < m.decoder.heads → may_take m first_only at.index lane h ≡ true → ((k : ℕ) → k < h → may_take m first_only at.index lane k ≡ false) → len ≡ m.floor_len → table ≡ row rows len h → v ≡ m.floor_read h at.place bx table
    → v ≡ head_floor m first_only targets at.index lane bx h
row-floor m laws targets rows table at lane bx h v len spot hold later box hl t none le te ve =
    let n = m.decoder.samples in
    let i = at.index in
    let place = spot.place in
    let fits : at.place < n = place-fits m laws at spot in
    let leads = leader-first m laws i lane h hl (omega arith) t none in
    let here = (hold.each (omega arith) h hl leads).holds at.place bx fits box in
    ve ∙ (ap (m.floor_read h at.place bx) (te ∙ ap (λ z. row rows z h) le) ∙ (here ∙ (ap (λ z. m.floor h z bx (block_targets m targets at.block)) place
    ∙ (ap (λ z. m.floor h (i % n) bx (block_targets m targets z)) spot.block ∙ sym (cond-true (may_take m first_only i lane h) (m.floor h (i % n) bx (block_targets m targets (i / n))) top t)))))

pub floor-one : (m : Rules) → IsMachine m → (targets : List ℤ) (i lane place : ℕ) (bx : Bx) (h v : ℕ) → h < m.decoder.heads → place ≡ i % m.decoder.samples → 0 < place → may_take m first_only i lane h ≡ true → v ≡ head_floor m first_only targets i lane bx h → v ≤ top
    → v ≡ floor_in m first_only targets i lane bx
floor-one m laws targets i lane place bx h v hl pe p t is small =
    let p' : 0 < i % m.decoder.samples = omega arith in
    let ts = block_targets m targets (i / m.decoder.samples) in
    let f = head_floor m first_only targets i lane bx in
    let at = cond-true (may_take m first_only i lane h) (m.floor h (i % m.decoder.samples) bx ts) top t in
    sym (least-alike m.decoder.heads f top v h (λ j jl. (elim (cases_Bool (may_take m first_only i lane j)) as (λ _. (f j ≡ v) ⊎ (f j ≡ top)) [
      | inl y ↦ inl (cond-true (may_take m first_only i lane j) (m.floor j (i % m.decoder.samples) bx ts) top y
          ∙ (laws.floors_alike j h (i % m.decoder.samples) bx ts jl hl p' (mod-lt i laws.some_samples) (lane-of m i lane j p' y ∙ sym (lane-of m i lane h p' t)) ∙ sym (is ∙ at)))
      | inr n ↦ inr (cond-false (may_take m first_only i lane j) (m.floor j (i % m.decoder.samples) bx ts) top n)
    ])) small hl (sym is))

pub floor-none : (m : Rules) (targets : List ℤ) (i lane : ℕ) (bx : Bx) → ((k : ℕ) → k < m.decoder.heads → may_take m first_only i lane k ≡ false) → 18446744073709551615 ≡ floor_in m first_only targets i lane bx
floor-none m targets i lane bx h = all-top m.decoder.heads (head_floor m first_only targets i lane bx) (λ k l. cond-false (may_take m first_only i lane k) (m.floor k (i % m.decoder.samples) bx (block_targets m targets (i / m.decoder.samples))) top (h k l))

pub none-more : (m : Rules) (i lane h : ℕ) → ((k : ℕ) → k < h → may_take m first_only i lane k ≡ false) → may_take m first_only i lane h ≡ false → (k : ℕ) → k < h + 1 → may_take m first_only i lane k ≡ false
none-more m i lane h all here k l = elim (eq-or-lt_of_le {n = k} {m = h} (omega arith)) [ inl same ↦ ap (may_take m first_only i lane) same ∙ here | inr less ↦ all k less ]

heads-alike : (m : Rules) → IsMachine m → IsBoxed m → (targets : List ℤ) (c : Certificate) (i : ℕ) (cell : Cell) (h h' : ℕ) → h < m.decoder.heads → h' < m.decoder.heads → 0 < i % m.decoder.samples → m.lane h (i % m.decoder.samples) ≡ m.lane h' (i % m.decoder.samples)
    → by_head m targets c i cell h ≡ by_head m targets c i cell h'
heads-alike m laws boxed targets c i cell h h' hl hl' p e =
    let n = m.decoder.samples in
    let q = i % n in
    let t = get_or targets i (pos 0) in
    let bx = cell_box (grid m) c.level cell in
    let l = lanes-next m laws i h h' hl hl' p e in
    least-same (m.decoder.symbols q) (by_symbol m targets c i cell h) (by_symbol m targets c i cell h') top (λ s.
    piece-same (m.image h q s bx t) (way m targets c i h) (way m targets c i h') top (λ x. ap (λ z. x.cost + look_ahead m targets c (suc i) z x.bx) l)
    ∙ ap (λ (z : List Piece). least_piece z (way m targets c i h') top) (boxed.images_alike h h' q s bx t hl hl' p (mod-lt i laws.some_samples) e))

-- the first head of the lane tells what is found
pub found-one : (m : Rules) → IsMachine m → IsBoxed m → (targets : List ℤ) (c : Certificate) (i lane : ℕ) (cell : Cell) (h : ℕ) → h < m.decoder.heads → 0 < i % m.decoder.samples → may_take m first_only i lane h ≡ true
    → by_head m targets c i cell h ≡ found m targets c i lane cell
found-one m laws boxed targets c i lane cell h hl p' t =
    let v = by_head m targets c i cell h in
    let f = head_found m targets c i lane cell in
    sym (least-alike m.decoder.heads f top v h (λ j jl. (elim (cases_Bool (may_take m first_only i lane j)) as (λ _. (f j ≡ v) ⊎ (f j ≡ top)) [
      | inl y ↦ inl (cond-true (may_take m first_only i lane j) (by_head m targets c i cell j) top y ∙ heads-alike m laws boxed targets c i cell j h jl hl p' (lane-of m i lane j p' y ∙ sym (lane-of m i lane h p' t)))
      | inr n ↦ inr (cond-false (may_take m first_only i lane j) (by_head m targets c i cell j) top n)
    ])) (least-above _ _ top) hl (cond-true (may_take m first_only i lane h) v top t))

pub found-none : (m : Rules) (targets : List ℤ) (c : Certificate) (i lane : ℕ) (cell : Cell) → ((k : ℕ) → k < m.decoder.heads → may_take m first_only i lane k ≡ false) → 18446744073709551615 ≡ found m targets c i lane cell
found-none m targets c i lane cell h = all-top m.decoder.heads (head_found m targets c i lane cell) (λ k l. cond-false (may_take m first_only i lane k) (by_head m targets c i cell k) top (h k l))
