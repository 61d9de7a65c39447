-- Heads of one lane have the same floors.
use Rattle.std.proofs.Common.{◌≡◌, ℕ, ap, ◌∙◌}
use Rattle.std.specs.Prelude.{ℤ, pos, negsuc, List}
use Rattle.window_floor.specs.Windows.{Windows, floor_from}
use Rattle.linear_machine.specs.Laws.Codes.{same-samples}
use Rattle.brr_machine.specs.Brr.{sample_of, shift_of, filter_of}
use Rattle.brr_machine.specs.Rows.{brr_row}
use Rattle.brr_machine.specs.BrrRules.{lane_of}
use Rattle.brr_machine.specs.Floors.{samples_under, brr_windows, brr_floor}
use Rattle.brr_machine.specs.Laws.Lanes.{same-sample, same-filter, same-shift}

-- the codes stand for the same samples
alike-samples : (g h : ℕ) → lane_of g ≡ lane_of h → samples_under (shift_of g) ≡ samples_under (shift_of h)
alike-samples g h e = same-samples (sample_of (shift_of g)) (sample_of (shift_of h)) (λ c. same-sample (shift_of g) (shift_of h) c (same-shift g h e))

-- so the windows are the same
same-windows : (g h : ℕ) → lane_of g ≡ lane_of h → brr_windows g ≡ brr_windows h
same-windows g h e =
    let windows : ℕ → List ℤ → Windows = λ filter samples. record { places = 16; row = brr_row filter; samples = samples; first = negsuc 0; second = pos 0 } in
    ap (λ f. windows f (samples_under (shift_of g))) (same-filter g h e) ∙ ap (windows (filter_of h)) (alike-samples g h e)

pub same-floor : (g h p : ℕ) (targets : List ℤ) → lane_of g ≡ lane_of h → brr_floor g p targets ≡ brr_floor h p targets
unfolding brr_floor
same-floor g h p targets e = ap (λ b. floor_from b targets p) (same-windows g h e)
