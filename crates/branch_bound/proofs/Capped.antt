-- Symbols outside the range that may come to a number.
use Rattle.std.proofs.Common.{◌≡◌, ◌≢◌, ℕ, suc, ◌+◌, ◌-◌, ◌%◌, ◌<◌, ◌≤◌, pos, List, get_or, arith, refl, ap, sym, ◌∙◌, min, inl, inr, ◌⊎◌, IsTrue}
use Rattle.machine_core.specs.declared.boxes.Cell.{Cell}
use Rattle.machine_core.specs.Cells.{is_cell}
use Rattle.machine_core.specs.Floors.{top}
use Rattle.machine_core.specs.Rules.{Rules, grid}
use Rattle.box_layers.specs.Certificates.{by_symbol}
use Rattle.block_steps.specs.declared.spots.Spot.{Spot}
use Rattle.block_steps.specs.Plans.{IsFrom}
use Rattle.block_steps.proofs.Capped.{outside, symbols-init}
use Rattle.open_cells.specs.declared.node.Node.{Node}
use Rattle.open_cells.specs.declared.search.Search.{Search}
use Rattle.open_cells.specs.Paths.{HasLaws}
use Rattle.open_cells.specs.Reach.{IsSearch}
use Rattle.branch_bound.specs.Worth.{IsHere, layer_certificate, plan_in}

-- a cell before the sample in work, as ways on are asked for
pub from_here : (m : Rules) (s : Search) (at : Spot) (cell : Cell) → IsSearch m s → IsHere m s at → IsTrue (is_cell (grid m) s.level cell) → IsFrom m (plan_in s) at cell
from_here m s at cell search here is = record {
  plan = record {
    end = search.end;
    small = search.small;
    level = search.level;
    later = search.later;
    count = search.fit.count ∙ sym search.end;
    range = search.fit.range;
    corners = search.filed.corners;
    room = search.room;
  };
  current = record { spot = here.spot; within = here.within; rows = here.rows };
  cell_fits = is;
}

pub capped-most : (most f : ℕ) → min most (min (most - 1 + 1) f) ≡ min most f
capped-most most f = omega arith

-- no symbol before the range comes to the slack
pub before-first : (m : Rules) → HasLaws m → (s : Search) (at : Spot) (next : List Node) (cell : Cell) (head slack first : ℕ) → IsSearch m s → IsHere m s at → IsTrue (is_cell (grid m) s.level cell) → head < m.decoder.heads → slack < top
    → first ≡ m.first_symbol at.place (get_or s.targets.now at.index (pos 0)) slack → (k : ℕ) → k < first → by_symbol m s.targets.now (layer_certificate s.level s.blocks next) at.index cell head k ≢ slack
before-first m laws s at next cell head slack first search here is hl small e k low eq =
    let from = from_here m s at cell search here is in
    let c = layer_certificate s.level s.blocks next in
    let i = symbols-init m laws.machine laws.boxed (plan_in s) at c cell head slack first from refl hl small e in
    let within = i.1 in
    let o = outside m laws.machine laws.boxed (plan_in s) at c cell head k slack from refl hl (omega arith) small (inl (omega arith)) in
    omega arith

below-or-from : (i n : ℕ) → (i < n) ⊎ (n ≤ i)
below-or-from i n = grind arith

-- nor one behind it
pub behind-last : (m : Rules) → HasLaws m → (s : Search) (at : Spot) (next : List Node) (cell : Cell) (head slack end n : ℕ) → IsSearch m s → IsHere m s at → IsTrue (is_cell (grid m) s.level cell) → head < m.decoder.heads → slack < top
    → end ≡ suc (m.last_symbol at.place (get_or s.targets.now at.index (pos 0)) slack) → end ≤ n → ((k : ℕ) → k < n → by_symbol m s.targets.now (layer_certificate s.level s.blocks next) at.index cell head k ≢ slack)
    → (k : ℕ) → k < m.decoder.symbols (at.index % m.decoder.samples) → by_symbol m s.targets.now (layer_certificate s.level s.blocks next) at.index cell head k ≢ slack
behind-last m laws s at next cell head slack end n search here is hl small e past all k fits eq =
    let p = ap m.decoder.symbols here.spot.place in
    let from = from_here m s at cell search here is in
    elim (below-or-from k n) [
      | inl low ↦ all k low eq
      | inr high ↦ (let o = outside m laws.machine laws.boxed (plan_in s) at (layer_certificate s.level s.blocks next) cell head k slack from refl hl (omega arith) small (inr (omega arith)) in omega arith)
    ]
