-- A head and a symbol that come to the least.
use Rattle.std.proofs.Common.{◌≡◌, ◌≢◌, ℕ, ◌%◌, ◌<◌, inl, inr, ℤ, List, arith, sym, ◌∙◌, true, nat_eq}
use Rattle.adpcm_nums.specs.LeastValue.{least}
use Rattle.box_layers.specs.Certificates.{Certificate, by_head, found, lane_at}
use Rattle.machine_core.specs.Blocks.{first_only}
use Rattle.machine_core.specs.Floors.{may_take, top}
use Rattle.machine_core.specs.Rules.{Rules}
use Rattle.machine_core.specs.declared.boxes.Cell.{Cell}
use Rattle.std.proofs.lemmas.Bool.{cond-false, cond-true}
use Rattle.adpcm_nums.proofs.LeastValueLaws.{least-reached}
use Rattle.machine_core.specs.Boxed.{IsBoxed}
use Rattle.machine_core.specs.Rules.{IsMachine}
use Rattle.machine_core.specs.Blocks.{rule_of}
use Rattle.std.proofs.Common.{◌/◌, ◌+◌, ◌-◌, min, false}
use Rattle.std.proofs.lemmas.Bool.Decides.{nat_tests}
use Rattle.std.proofs.lemmas.Bool.{cond-true, cond-false}
use Rattle.block_steps.proofs.Alike.{found-one}

pub never-found : (n : ℕ) (f : ℕ → ℕ) (left : ℕ) → least n f top ≡ left → left < top → ((k : ℕ) → k < n → f k ≢ left) → ⊥
never-found n f left e small none = elim (least-reached n f top) [ inl t ↦ omega arith | inr w ↦ none w.0 w.1 (sym w.2 ∙ e) ]

not-same : (x : ℕ) → 0 < x → nat_eq x 0 ≡ false
not-same x h = grind (arith, nat_tests)

same : (x y : ℕ) → x ≡ y → nat_eq x y ≡ true
same x y h = grind (arith, nat_tests)

pub later-lane : (m : Rules) (i head : ℕ) → 0 < i % m.decoder.samples → lane_at m head i ≡ m.lane head (i % m.decoder.samples)
later-lane m i head p = cond-false (nat_eq (i % m.decoder.samples) 0) 65535 (m.lane head (i % m.decoder.samples)) (not-same (i % m.decoder.samples) p)

pub first-lane : (m : Rules) (i head : ℕ) → i % m.decoder.samples ≡ 0 → lane_at m head i ≡ 65535
first-lane m i head p = cond-true (nat_eq (i % m.decoder.samples) 0) 65535 (m.lane head (i % m.decoder.samples)) (same (i % m.decoder.samples) 0 p)

pub own-takes : (m : Rules) (i head : ℕ) → 0 < i % m.decoder.samples → may_take m first_only i (lane_at m head i) head ≡ true
own-takes m i head p =
    cond-false (nat_eq (i % m.decoder.samples) 0) (m.decoder.allows head (rule_of first_only (i / m.decoder.samples))) (nat_eq (m.lane head (i % m.decoder.samples)) (lane_at m head i)) (not-same (i % m.decoder.samples) p)
    ∙ same (m.lane head (i % m.decoder.samples)) (lane_at m head i) (sym (later-lane m i head p))

-- at a later place the block's head finds what its lane finds
pub alike-found : (m : Rules) (targets : List ℤ) (c : Certificate) (i head : ℕ) (cell : Cell) → IsMachine m → IsBoxed m → head < m.decoder.heads → 0 < i % m.decoder.samples
    → by_head m targets c i cell head ≡ found m targets c i (lane_at m head i) cell
alike-found m targets c i head cell laws boxed hl p = found-one m laws boxed targets c i (lane_at m head i) cell head hl p (own-takes m i head p)

-- a way that comes to less than the cap comes to just as much without it
pub capped-way : (most f v left : ℕ) → v ≡ min (most - 1 + 1) f → v ≡ left → left < most → f ≡ left
capped-way most f v left e q small = omega arith

pub capped-other : (most f v left : ℕ) → v ≡ min (most - 1 + 1) f → v ≢ left → left < most → f ≢ left
capped-other most f v left e ne small is = ne (omega arith)
