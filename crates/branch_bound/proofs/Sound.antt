-- What an accepted certificate and the floors say of a legal list.
use Rattle.std.proofs.Common.{◌≡◌, ℕ, ◌*◌, ◌≤◌, sym, arith, IsTrue, List, ℤ}
use Rattle.std.proofs.Math.Nat.{mod-lt}
use Rattle.std.proofs.lemmas.Nat.{div-add-mod'}
use Rattle.machine_core.specs.Blocks.{Blocks, IsLegal, first_only}
use Rattle.machine_core.specs.Cells.{is_level}
use Rattle.machine_core.specs.Decoder.{start}
use Rattle.machine_core.specs.Floors.{floors_from}
use Rattle.machine_core.specs.Rules.{Rules, grid}
use Rattle.machine_core.specs.Sums.{sum_of}
use Rattle.machine_core.proofs.BlockFloors.{Encodes}
use Rattle.machine_core.proofs.CellLaws.{holds, cell-is, between}
use Rattle.machine_core.proofs.Places.{block-below}
use Rattle.machine_core.proofs.RestFloors.{floors-below, rest-below}
use Rattle.box_layers.specs.Certificates.{Certificate, IsAccepted, value}
use Rattle.box_layers.proofs.Sound.{value-below}
use Rattle.open_cells.specs.Paths.{FitTargets, HasLaws}

encodes : (m : Rules) → HasLaws m → (targets : List ℤ) (blocks : ℕ) (list : Blocks) → IsLegal m.decoder blocks first_only list → FitTargets m blocks targets → Encodes m first_only blocks targets list
encodes m laws targets blocks list legal fit = record { laws = laws.machine; legal = legal; count = fit.count; range = fit.range }

pub floor-below : (m : Rules) → HasLaws m → (targets : List ℤ) (blocks : ℕ) (list : Blocks) → IsLegal m.decoder blocks first_only list → FitTargets m blocks targets
    → floors_from m first_only targets 0 blocks ≤ sum_of m.decoder list targets blocks
floor-below m laws targets blocks list legal fit =
    let first : 0 * m.decoder.samples ≡ 0 = omega arith in
    rw first at (floors-below m first_only blocks targets list (encodes m laws targets blocks list legal fit) 0 blocks start (omega arith) laws.machine.start_fits)

pub sound : (m : Rules) → HasLaws m → (targets : List ℤ) (c : Certificate) (list : Blocks) → IsTrue (is_level c.level) → IsLegal m.decoder c.blocks first_only list → FitTargets m c.blocks targets → IsAccepted m targets c
    → value m targets c ≤ sum_of m.decoder list targets c.blocks
sound m laws targets c list lev legal fit accepted =
    value-below m targets c list
    (record {
      laws = laws.machine;
      boxed = laws.boxed;
      level = lev;
      legal = legal;
      count = fit.count;
      range = fit.range;
      accepted = accepted;
      held = λ at. holds (grid m) c.level at lev;
      are_cells = λ at is. cell-is m c.level at laws.machine lev is;
      between = λ bx at inside. between (grid m) c.level bx at lev inside;
      rests = λ i lane bx at below box is inside takes. rest-below m first_only c.blocks targets list (encodes m laws targets c.blocks list legal fit) _ _ i lane bx at
          (sym (div-add-mod' i m.decoder.samples)) (mod-lt i laws.machine.some_samples) (block-below i m.decoder.samples c.blocks below) box is inside takes;
    })
    (floor-below m laws targets c.blocks list legal fit)
