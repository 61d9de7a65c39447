-- The decoder of BRR is a linear decoder; so its floors are below the cost of every continuation, and small.
use Rattle.std.proofs.Common.{◌≡◌, ℕ, zero, suc, ◌-◌, ◌*◌, ◌^◌, ◌<◌, ◌≤◌, arith, refl, sym, ◌∙◌, inr, lit<}
use Rattle.std.specs.Prelude.{ℤ, pos, List}
use Rattle.std.proofs.lemmas.Int.{ints}
use Rattle.adpcm_nums.specs.Sample.{IsSample, AreSamples}
use Rattle.machine_core.specs.declared.state.State.{State}
use Rattle.machine_core.specs.Decoder.{miss}
use Rattle.machine_core.specs.Rules.{tail_cost}
use Rattle.window_floor.specs.Row.{IsNormed, size_of}
use Rattle.window_floor.specs.Windows.{IsSound}
use Rattle.linear_machine.specs.Linear.{IsLinear}
use Rattle.linear_machine.specs.Laws.Codes.{sample-at, samples-fit}
use Rattle.linear_machine.specs.Laws.FloorTruth.{floor-holds, floor-small}
use Rattle.brr_machine.specs.Brr.{brr, sample_of, shift_of, filter_of}
use Rattle.brr_machine.specs.Rows.{brr_row}
use Rattle.brr_machine.specs.Floors.{brr_windows, brr_linear, brr_floor}
use Rattle.brr_machine.specs.Laws.Forgetting.{brr-steps}
use Rattle.brr_machine.specs.Laws.Outcomes.{output-comes, output-free}
use Rattle.brr_machine.specs.Laws.Ranges.{output-fits}
use Rattle.brr_machine.specs.Laws.Samples.{sample_low, sample_high}

-- the norms are the sums of the squares
normed : (filter : ℕ) → IsNormed (brr_row filter)
normed zero = record { above = lit< tt; sum = refl }
normed (suc zero) = record { above = lit< tt; sum = refl }
normed (suc (suc zero)) = record { above = lit< tt; sum = refl }
normed (suc (suc (suc n))) = record { above = lit< tt; sum = refl }

-- outputs count twice
twice : (filter : ℕ) → (brr_row filter).scale ≡ pos 2
twice zero = refl
twice (suc zero) = refl
twice (suc (suc zero)) = refl
twice (suc (suc (suc n))) = refl

-- only filter 0 leaves places alone
free-filter : (filter : ℕ) → size_of (brr_row filter) ≡ 1 → filter ≡ 0
unfolding size_of
free-filter zero e = refl
free-filter (suc zero) e = absurd (omega arith)
free-filter (suc (suc zero)) e = absurd (omega arith)
free-filter (suc (suc (suc n))) e = absurd (omega arith)

-- a code stands for 16 bits
sample-fits : (shift code : ℕ) → code < 16 → IsSample (sample_of shift code)
sample-fits shift code h =
    let low = sample_low shift code h in let high = sample_high shift code h in record { low = omega (arith, ints, low); high = omega (arith, ints, high) }

sound : (head : ℕ) → IsSound (brr_windows head)
sound head = record {
  scale = inr (twice (filter_of head));
  normed = normed (filter_of head);
  clamped = record { low = omega (arith, ints); high = omega (arith, ints) };
  samples_fit = samples-fit (sample_of (shift_of head)) (sample-fits (shift_of head));
}

-- all laws of linear decoders
pub brr_is_linear : IsLinear brr_linear
brr_is_linear = record {
  sound = sound;
  places = λ head. refl;
  scale = λ head. twice (filter_of head);
  codes = λ p within. refl;
  steps = brr-steps;
  range = λ head code o r. (let y = output-fits head code o r in record { low = omega (arith, ints, y.low); high = omega (arith, ints, y.high) });
  outcome = output-comes;
  free = λ head code o r h size. output-free head code o r h (free-filter (filter_of head) size) ∙ sym (sample-at (sample_of (shift_of head)) code (pos 0) h);
}

-- the floor from a place on is at most what any codes cost there
pub brr-floor-below : (head p : ℕ) (targets : List ℤ) (symbol : ℕ → ℕ) (at : State) → p < 16 → ((q : ℕ) → q < 16 → symbol q < 16)
    → brr_floor head p targets ≤ tail_cost brr (miss brr targets) head symbol p at (16 - p)
unfolding brr_floor
brr-floor-below head p targets symbol at h fits = floor-holds brr_linear brr_is_linear head p targets symbol at (omega (arith, h)) fits

-- and far below what a sum of 64 bits holds
pub brr-floor-fits : (head p : ℕ) (targets : List ℤ) → AreSamples targets → brr_floor head p targets ≤ 16 * 2 ^ 34
unfolding brr_floor
brr-floor-fits head p targets all = floor-small brr_linear brr_is_linear head p targets all
