-- The sum of a segment's floors fits a number of the code.
use Rattle.std.proofs.Common.{◌≡◌, ℕ, ◌*◌, ◌/◌, ◌%◌, ◌+◌, ◌^◌, ◌<◌, ◌≤◌, ℤ, List, [], ◌∷◌, length, arith, ap, sym, ◌∙◌, min, Option}
use Rattle.machine_core.specs.Blocks.{first_only}
use Rattle.machine_core.specs.Rules.{grid}
use Rattle.machine_core.specs.Cells.{cell_of}
use Rattle.std.specs.Prelude.{max}
use Rattle.machine_core.specs.declared.boxes.Cell.{Cell}
use Rattle.std.proofs.lemmas.List.Elements.{All-take, All-drop}
use Rattle.std.proofs.Math.Nat.{mul_assoc}
use Rattle.adpcm_nums.specs.Sample.{IsSample, AreSamples}
use Rattle.adpcm_nums.proofs.RangeSumLaws.{sum_range-small}
use Rattle.machine_core.proofs.FloorLaws.{ruled-small}
use Rattle.machine_core.proofs.BlockFloors.{targets-length}
use Rattle.machine_core.specs.Blocks.{rule_of}
use Rattle.machine_core.specs.Rules.{Rules, IsMachine}
use Rattle.machine_core.specs.Blocks.{rule_of}
use Rattle.machine_core.specs.Decoder.{start}
use Rattle.box_layers.specs.Certificates.{value}
use Rattle.box_layers.specs.Looking.{or_else}
use Rattle.machine_core.specs.Floors.{top, block_floor, floors_from, block_targets}
use Rattle.machine_core.proofs.Places.{block-of, place-of}
use Rattle.box_layers.specs.Cells.{value_of}
use Rattle.bound_cert.specs.Content.{Layer}
use Rattle.block_steps.specs.Ways.{key_for}
use Rattle.cert_check.specs.Layers.{certificate_of, cells_for}

-- what a check is given of targets
pub record Targets (m : Rules) (blocks : ℕ) (targets : List ℤ) : Type 0 where
  pub count : length targets ≡ blocks * m.decoder.samples
  pub few : length targets ≤ 262144
  pub range : AreSamples targets

block-small : (m : Rules) → IsMachine m → (targets : List ℤ) (blocks b : ℕ) → Targets m blocks targets → b < blocks → block_floor m first_only targets b ≤ m.decoder.samples * 2 ^ 36
block-small m laws targets blocks b given below =
    ruled-small m laws (rule_of first_only b) (block_targets m targets b) (targets-length m targets blocks b given.count below) (All-take IsSample _ _ (All-drop IsSample _ _ given.range))

small-sum : (blocks samples count floor : ℕ) → count ≡ blocks * samples → count ≤ 262144 → floor ≤ blocks * (samples * 2 ^ 36) → floor ≤ top
small-sum blocks samples count floor e few h = let all : blocks * (samples * 2 ^ 36) ≡ count * 2 ^ 36 = sym (mul_assoc blocks samples (2 ^ 36)) ∙ ap (λ z. z * 2 ^ 36) (sym e) in omega (arith, all)

zero-plus : (k : ℕ) → 0 + k ≡ k
zero-plus k = omega arith

floors-top : (m : Rules) → IsMachine m → (targets : List ℤ) (blocks : ℕ) → Targets m blocks targets → floors_from m first_only targets 0 blocks ≤ top
floors-top m laws targets blocks given =
    let small = sum_range-small (block_floor m first_only targets) (m.decoder.samples * 2 ^ 36) 0 blocks
    (λ k below. (let e = ap (block_floor m first_only targets) (zero-plus k) in let s = block-small m laws targets blocks k given below in omega (arith, e, s))) in
    small-sum blocks m.decoder.samples (length targets) (floors_from m first_only targets 0 blocks) given.count given.few small

-- the value of a segment without layers
pub no-layers : (m : Rules) → IsMachine m → (targets : List ℤ) (layers : List Layer) (level blocks v : ℕ) → Targets m blocks targets → length layers ≡ 0 → v ≡ min top (floors_from m first_only targets 0 blocks)
    → v ≡ value m targets (certificate_of m layers level blocks)
no-layers m laws targets [] level blocks v h z e = let f = floors-top m laws targets blocks h in omega arith
no-layers m laws targets (x ∷ xs) level blocks v h z e = absurd (omega arith)

key-start : (m : Rules) → IsMachine m → (layers : List Layer) (c : Cell) → value_of (cells_for layers (record { block = 0; place = 0; lane = 65535 })) c ≡ value_of (cells_for layers (key_for m 0 65535)) c
key-start m laws layers c =
    let d : 0 / m.decoder.samples ≡ 0 = block-of 0 m.decoder.samples 0 0 (omega arith) laws.some_samples in
    let r : 0 % m.decoder.samples ≡ 0 = place-of 0 m.decoder.samples 0 0 (omega arith) laws.some_samples in
    sym (ap (λ z. value_of (cells_for layers (record { block = z; place = 0 % m.decoder.samples; lane = 65535 })) c) d ∙ ap (λ z. value_of (cells_for layers (record { block = 0; place = z; lane = 65535 })) c) r)

-- the value of a segment with layers
pub with-layers : (m : Rules) → IsMachine m → (targets : List ℤ) (layers : List Layer) (level level' blocks v floor : ℕ) (listed : Option ℕ) (c : Cell) → Targets m blocks targets → level' ≡ level → c ≡ cell_of (grid m) level' start
    → floor ≡ min top (floors_from m first_only targets 0 blocks) → listed ≡ value_of (cells_for layers (record { block = 0; place = 0; lane = 65535 })) c → v ≡ max floor (or_else listed 0)
    → v ≡ value m targets (certificate_of m layers level blocks)
with-layers m laws targets layers level level' blocks v floor listed c h l ce fe le e =
    let f = floors-top m laws targets blocks h in
    let fl : floor ≡ floors_from m first_only targets 0 blocks = omega arith in
    let cell : c ≡ cell_of (grid m) level start = ce ∙ ap (λ z. cell_of (grid m) z start) l in
    let here : listed ≡ value_of (cells_for layers (key_for m 0 65535)) (cell_of (grid m) level start) = le ∙ (key-start m laws layers c ∙ ap (λ (z : Cell). value_of (cells_for layers (key_for m 0 65535)) z) cell) in
    e ∙ (ap (λ z. max z (or_else listed 0)) fl ∙ ap (λ (z : Option ℕ). max (floors_from m first_only targets 0 blocks) (or_else z 0)) here)
