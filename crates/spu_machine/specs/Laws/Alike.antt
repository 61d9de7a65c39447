-- Heads of one lane have the same floors.
use Rattle.std.proofs.Common.{◌≡◌, ℕ, ap, ◌∙◌}
use Rattle.std.specs.Prelude.{ℤ, pos, negsuc, List}
use Rattle.window_floor.specs.Windows.{Windows, floor_from}
use Rattle.linear_machine.specs.Laws.Codes.{same-samples}
use Rattle.spu_machine.specs.Spu.{sample_of, shift_of, filter_of, lane_of}
use Rattle.spu_machine.specs.Rows.{spu_row}
use Rattle.spu_machine.specs.Floors.{samples_under, spu_windows, spu_floor}
use Rattle.spu_machine.specs.Laws.Lanes.{same-sample, same-filter, same-shift}

-- the codes stand for the same samples
alike-samples : (g h : ℕ) → lane_of g ≡ lane_of h → samples_under (shift_of g) ≡ samples_under (shift_of h)
alike-samples g h e = same-samples (sample_of (shift_of g)) (sample_of (shift_of h)) (λ c. same-sample (shift_of g) (shift_of h) c (same-shift g h e))

-- so the windows are the same
same-windows : (g h : ℕ) → lane_of g ≡ lane_of h → spu_windows g ≡ spu_windows h
same-windows g h e =
    let windows : ℕ → List ℤ → Windows = λ filter samples. record { places = 28; row = spu_row filter; samples = samples; first = pos 32767; second = negsuc 32767 } in
    ap (λ f. windows f (samples_under (shift_of g))) (same-filter g h e) ∙ ap (windows (filter_of h)) (alike-samples g h e)

pub same-floor : (g h p : ℕ) (targets : List ℤ) → lane_of g ≡ lane_of h → spu_floor g p targets ≡ spu_floor h p targets
unfolding spu_floor
same-floor g h p targets e = ap (λ b. floor_from b targets p) (same-windows g h e)
