-- The cells, lanes and corners of each decoder are those of its certificates. The proofs stand here since no definition may cite proofs/.
use Rattle.std.proofs.Common.{◌≡◌, ℕ, ◌<◌, ◌⊎◌, inl, inr, arith, subst, sym, true, refl, ap, ◌∙◌, Bool}
use Rattle.std.specs.Prelude.{ℤ, pos, int_le, int_lt, ◌&&◌}
use Rattle.std.specs.Cmp.{both_ways}
use Rattle.std.proofs.lemmas.Bool.{and_parts, and_from, cond-false}
use Rattle.std.proofs.lemmas.Bool.Decides.{nat_tests}
use Rattle.std.proofs.lemmas.Int.{ints}
use Rattle.machine_core.specs.declared.boxes.Cell.{Cell}
use Rattle.machine_core.specs.declared.state.Kind.{Kind}
use Rattle.machine_core.specs.declared.state.Kind.TheVariants.{Brr, Spu, Ima}
use Rattle.machine_core.specs.Cells.{is_level, is_cell, is_run}
use Rattle.machine_core.specs.Rules.{grid}
use Rattle.machine_core.proofs.Places.{not-first}
use Rattle.bound_cert.specs.Filed.{IsFiled}
use Rattle.bound_cert.specs.Ranges.{cell_fits, lane_fits, is_lane, around}
use Rattle.brr_machine.specs.BrrRules.{brr_rules}
use Rattle.brr_machine.specs.BrrRules.{lane_of as brr_lane}
use Rattle.brr_machine.specs.Brr.{is_output as is_brr_output}
use Rattle.brr_machine.specs.Boxes.{outputs as brr_outputs}
use Rattle.spu_machine.specs.SpuRules.{spu_rules}
use Rattle.spu_machine.specs.Spu.{is_output as is_wide_output}
use Rattle.spu_machine.specs.Spu.{lane_of as spu_lane}
use Rattle.spu_machine.specs.Boxes.{outputs as wide_outputs}
use Rattle.ima_machine.specs.ImaRules.{ima_rules}
use Rattle.ima_machine.specs.Boxes.{all_states as ima_states}

three-levels : (level : ℕ) → is_level level ≡ true → (level ≡ 0) ⊎ ((level ≡ 4) ⊎ (level ≡ 8))
three-levels level h = grind (arith, nat_tests)

-- what holds at each level
by-level : (P : ℕ → Type 0) (level : ℕ) → is_level level ≡ true → P 0 → P 4 → P 8 → P level
by-level P level h p q r = elim (three-levels level h) [
  | inl zero ↦ subst P (sym zero) p
  | inr some ↦ elim some [ inl four ↦ subst P (sym four) q | inr eight ↦ subst P (sym eight) r ]
]

-- runs of outputs of 15 bits
small-0 : (x : ℤ) → around 16384 x ≡ is_run 0 brr_outputs x
small-0 x = both_ways _ _ (λ h. grind (arith, ints)) (λ h. grind (arith, ints))

small-4 : (x : ℤ) → around 1024 x ≡ is_run 4 brr_outputs x
small-4 x = both_ways _ _ (λ h. grind (arith, ints)) (λ h. grind (arith, ints))

small-8 : (x : ℤ) → around 64 x ≡ is_run 8 brr_outputs x
small-8 x = both_ways _ _ (λ h. grind (arith, ints)) (λ h. grind (arith, ints))

-- and of 16
wide-0 : (x : ℤ) → around 32768 x ≡ is_run 0 wide_outputs x
wide-0 x = both_ways _ _ (λ h. grind (arith, ints)) (λ h. grind (arith, ints))

wide-4 : (x : ℤ) → around 2048 x ≡ is_run 4 wide_outputs x
wide-4 x = both_ways _ _ (λ h. grind (arith, ints)) (λ h. grind (arith, ints))

wide-8 : (x : ℤ) → around 128 x ≡ is_run 8 wide_outputs x
wide-8 x = both_ways _ _ (λ h. grind (arith, ints)) (λ h. grind (arith, ints))

-- two tests of a cell are the same where their parts are
both-same : (a b c d : Bool) → a ≡ c → b ≡ d → (a && b) ≡ (c && d)
both-same a b c d p q = ap (λ x. x && b) p ∙ ap (λ x. c && x) q

brr-cells : (level : ℕ) (c : Cell) → is_level level ≡ true → cell_fits Brr level c ≡ is_cell (grid brr_rules) level c
unfolding cell_fits
brr-cells level c l = by-level (λ k. cell_fits Brr k c ≡ is_cell (grid brr_rules) k c) level l
    (both-same _ _ _ _ (small-0 c.a) (small-0 c.b)) (both-same _ _ _ _ (small-4 c.a) (small-4 c.b)) (both-same _ _ _ _ (small-8 c.a) (small-8 c.b))

spu-cells : (level : ℕ) (c : Cell) → is_level level ≡ true → cell_fits Spu level c ≡ is_cell (grid spu_rules) level c
unfolding cell_fits
spu-cells level c l = by-level (λ k. cell_fits Spu k c ≡ is_cell (grid spu_rules) k c) level l
    (both-same _ _ _ _ (wide-0 c.a) (wide-0 c.b)) (both-same _ _ _ _ (wide-4 c.a) (wide-4 c.b)) (both-same _ _ _ _ (wide-8 c.a) (wide-8 c.b))

-- indices are not cut
index-run : (x : ℤ) → (int_le (pos 0) x && int_lt x (pos 89)) ≡ is_run 0 ima_states.b x
index-run x = both_ways _ _ (λ h. grind (arith, ints)) (λ h. grind (arith, ints))

ima-cells : (samples level : ℕ) (c : Cell) → is_level level ≡ true → cell_fits Ima level c ≡ is_cell (grid (ima_rules samples)) level c
unfolding cell_fits
ima-cells samples level c l = by-level (λ k. cell_fits Ima k c ≡ is_cell (grid (ima_rules samples)) k c) level l
    (both-same _ _ _ _ (wide-0 c.a) (index-run c.b)) (both-same _ _ _ _ (wide-4 c.a) (index-run c.b)) (both-same _ _ _ _ (wide-8 c.a) (index-run c.b))

-- a lane behind the first place
later-lane : (kind : Kind) (p lane : ℕ) → 0 < p → is_lane kind lane ≡ true → lane_fits kind p lane ≡ true
later-lane kind p lane later h = cond-false _ _ _ (not-first p later) ∙ h

brr-lane : (head : ℕ) → is_lane Brr (brr_lane head) ≡ true
brr-lane head = grind (arith, nat_tests)

spu-lane : (head : ℕ) → head < 80 → is_lane Spu (spu_lane head) ≡ true
spu-lane head fits = grind (arith, nat_tests)

-- what holds of both ends of both spans holds of both corners
corners-are : (a b c d : Bool) → ((a && b) && (c && d)) ≡ true → ((a && c) ≡ true) × ((b && d) ≡ true)
corners-are a b c d h =
    let spans = and_parts (a && b) (c && d) h in let first = and_parts a b spans.0 in let second = and_parts c d spans.1 in
    (and_from a c first.0 second.0, and_from b d first.1 second.1)

pub brr_filed : IsFiled brr_rules
brr_filed = record {
  are_cells = λ level c l h. sym (brr-cells level c l) ∙ h;
  cells_fit = λ level c l h. brr-cells level c l ∙ h;
  lanes_fit = λ head p fits later within. later-lane Brr p (brr_lane head) later (brr-lane head);
  corners = λ p bx within box. corners-are (is_brr_output bx.a.lo) (is_brr_output bx.a.hi) (is_brr_output bx.b.lo) (is_brr_output bx.b.hi) box;
}

pub spu_filed : IsFiled spu_rules
spu_filed = record {
  are_cells = λ level c l h. sym (spu-cells level c l) ∙ h;
  cells_fit = λ level c l h. spu-cells level c l ∙ h;
  lanes_fit = λ head p fits later within. later-lane Spu p (spu_lane head) later (spu-lane head fits);
  corners = λ p bx within box. corners-are (is_wide_output bx.a.lo) (is_wide_output bx.a.hi) (is_wide_output bx.b.lo) (is_wide_output bx.b.hi) box;
}

-- the ends of a box of IMA ADPCM, whatever else is asked of it
ima-corners : (a b c d e : Bool) → ((a && b) && ((c && d) && e)) ≡ true → ((a && c) ≡ true) × ((b && d) ≡ true)
ima-corners a b c d e h =
    let parts = and_parts (a && b) ((c && d) && e) h in let second = and_parts (c && d) e parts.1 in corners-are a b c d (and_from (a && b) (c && d) parts.0 second.0)

pub ima_filed : (samples : ℕ) → IsFiled (ima_rules samples)
ima_filed samples = record {
  are_cells = λ level c l h. sym (ima-cells samples level c l) ∙ h;
  cells_fit = λ level c l h. ima-cells samples level c l ∙ h;
  lanes_fit = λ head p fits later within. later-lane Ima p 0 later refl;
  corners = λ p bx within box. ima-corners (is_wide_output bx.a.lo) (is_wide_output bx.a.hi) _ _ _ box;
}
