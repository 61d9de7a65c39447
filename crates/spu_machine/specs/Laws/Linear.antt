-- The decoder of SPU-ADPCM is a linear decoder.
use Rattle.std.proofs.Common.{◌≡◌, ℕ, zero, suc, arith, refl, sym, ◌∙◌, inl, lit<}
use Rattle.std.specs.Prelude.{pos}
use Rattle.std.proofs.lemmas.Int.{ints}
use Rattle.window_floor.specs.Row.{IsNormed, size_of}
use Rattle.window_floor.specs.Windows.{IsSound}
use Rattle.linear_machine.specs.Linear.{IsLinear}
use Rattle.linear_machine.specs.Laws.Codes.{sample-at, samples-fit}
use Rattle.spu_machine.specs.Spu.{sample_of, shift_of, filter_of}
use Rattle.spu_machine.specs.Rows.{spu_row}
use Rattle.spu_machine.specs.Floors.{spu_windows, spu_linear}
use Rattle.spu_machine.specs.Laws.Forgetting.{spu-steps}
use Rattle.spu_machine.specs.Laws.Outcomes.{sample-fits, output-comes, output-free}
use Rattle.spu_machine.specs.Laws.Ranges.{output-fits}

-- the norms are the sums of the squares
normed : (filter : ℕ) → IsNormed (spu_row filter)
normed zero = record { above = lit< tt; sum = refl }
normed (suc zero) = record { above = lit< tt; sum = refl }
normed (suc (suc zero)) = record { above = lit< tt; sum = refl }
normed (suc (suc (suc zero))) = record { above = lit< tt; sum = refl }
normed (suc (suc (suc (suc n)))) = record { above = lit< tt; sum = refl }

-- outputs count once
once : (filter : ℕ) → (spu_row filter).scale ≡ pos 1
once zero = refl
once (suc n) = refl

-- only filter 0 leaves places alone
free-filter : (filter : ℕ) → size_of (spu_row filter) ≡ 1 → filter ≡ 0
unfolding size_of
free-filter zero e = refl
free-filter (suc zero) e = absurd (omega arith)
free-filter (suc (suc zero)) e = absurd (omega arith)
free-filter (suc (suc (suc zero))) e = absurd (omega arith)
free-filter (suc (suc (suc (suc n)))) e = absurd (omega arith)

sound : (head : ℕ) → IsSound (spu_windows head)
sound head = record {
  scale = inl (once (filter_of head));
  normed = normed (filter_of head);
  clamped = record { low = omega (arith, ints); high = omega (arith, ints) };
  samples_fit = samples-fit (sample_of (shift_of head)) (sample-fits (shift_of head));
}

-- all laws of linear decoders
pub spu_is_linear : IsLinear spu_linear
spu_is_linear = record {
  sound = sound;
  places = λ head. refl;
  scale = λ head. once (filter_of head);
  codes = λ p within. refl;
  steps = spu-steps;
  range = output-fits;
  outcome = output-comes;
  free = λ head code o r h size. output-free head code o r h (free-filter (filter_of head) size) ∙ sym (sample-at (sample_of (shift_of head)) code (pos 0) h);
}
