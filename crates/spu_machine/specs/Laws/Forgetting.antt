-- Under filter 0 a block forgets the history.
use Rattle.std.proofs.Common.{◌≡◌, ℕ, arith, refl, ap, sym, ◌∙◌}
use Rattle.std.specs.Prelude.{ℤ, pos, ◌*ℤ◌, ◌+ℤ◌}
use Rattle.std.proofs.lemmas.Int.{ints}
use Rattle.std.proofs.lemmas.Bool.{eqb-true}
use Rattle.adpcm_nums.specs.Nums.{floor_of, clamp16_of}
use Rattle.machine_core.specs.Decoder.{Forgets}
use Rattle.linear_machine.specs.Laws.Steps.{StepsBy, IsAlone, forgets-by}
use Rattle.spu_machine.specs.Spu.{spu, spu_step, sample_of, shift_of, filter_of, output_of, raw_of, prediction_of}

-- a step keeps the last output
pub spu-steps : StepsBy spu output_of
unfolding spu_step
spu-steps head place code at = refl

-- no share of either output is left
nothing-left : (o r : ℤ) → (pos 0 *ℤ o +ℤ pos 0 *ℤ r +ℤ pos 32) ≡ pos 32
nothing-left o r = omega (arith, ints)

-- so filter 0 predicts 0
pub predicts-nothing : (filter : ℕ) (o r : ℤ) → filter ≡ 0 → prediction_of filter o r ≡ pos 0
unfolding prediction_of
predicts-nothing filter o r h = rw h (ap (λ z. floor_of z 64) (nothing-left o r))

-- and its output is the code's sample alone
pub plain-output : (head code : ℕ) (o r : ℤ) → filter_of head ≡ 0 → output_of head code o r ≡ clamp16_of (sample_of (shift_of head) code +ℤ pos 0)
unfolding output_of raw_of
plain-output head code o r h = ap (λ z. clamp16_of (sample_of (shift_of head) code +ℤ z)) (predicts-nothing (filter_of head) o r h)

-- which no state changes
output-forgets : (head : ℕ) → filter_of head ≡ 0 → IsAlone output_of head
output-forgets head h code o r o' r' = plain-output head code o r h ∙ sym (plain-output head code o' r' h)

-- so a block of filter 0 forgets
pub spu-forgets : Forgets spu
spu-forgets = forgets-by spu output_of spu-steps (omega arith) (λ head zero'. output-forgets head (eqb-true _ _ zero'))
