-- Under filter 0 a block forgets the history.
use Rattle.std.proofs.Common.{◌≡◌, ℕ, arith, refl, sym, ◌∙◌}
use Rattle.std.specs.Prelude.{ℤ, pos}
use Rattle.std.proofs.lemmas.Bool.{eqb-true}
use Rattle.machine_core.specs.Decoder.{Forgets}
use Rattle.linear_machine.specs.Laws.Steps.{StepsBy, IsAlone, forgets-by}
use Rattle.brr_machine.specs.Brr.{brr, brr_step, output_of, raw_of, prediction_of, filter_of}

-- a step keeps the last output
pub brr-steps : StepsBy brr output_of
unfolding brr_step
brr-steps head place code at = refl

-- filter 0 predicts 0
pub predicts-nothing : (filter : ℕ) (o r : ℤ) → filter ≡ 0 → prediction_of filter o r ≡ pos 0
unfolding prediction_of
predicts-nothing filter o r h = rw h refl

output-forgets : (head : ℕ) → filter_of head ≡ 0 → IsAlone output_of head
unfolding output_of raw_of
output-forgets head h code o r o' r' = let p = predicts-nothing (filter_of head) o r h ∙ sym (predicts-nothing (filter_of head) o' r' h) in rw p refl

-- a block of filter 0 forgets
pub brr-forgets : Forgets brr
brr-forgets = forgets-by brr output_of brr-steps (omega arith) (λ head zero'. output-forgets head (eqb-true _ _ zero'))
