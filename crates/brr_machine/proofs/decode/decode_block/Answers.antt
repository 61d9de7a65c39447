use Rattle.std.proofs.Common.{rules, arith, ◌+◌, ◌≡◌, ◌<◌, ◌∙◌, ap, length, w32, ℕ}
use mir.Val.{SFits}
use Rattle.std.proofs.lemmas.Grind.{common_steps}
use Rattle.std.proofs.lemmas.Int.{to_z-of_z}
use Rattle.machine_core.specs.Decoder.{run}
use Rattle.brr_machine.specs.Brr.{brr, output_of}
use Rattle.brr_machine.specs.Spelling.{head_in, code_in}
use Rattle.brr_machine.specs.Laws.States.{last_bounds, state_in_range}
use Rattle.machine_core.proofs.Runs.{run_more, outputs_more}
use Rattle.linear_machine.specs.Laws.Steps.{state_of, step-to}
use Rattle.brr_machine.specs.Laws.Forgetting.{brr-steps}
use Rattle.brr_machine.proofs.decode.decode_block.Goals as goal

pub loop-place-preserved : goal.loop-place-preserved
loop-place-preserved c =
    let bytes = c.args.bytes.now in
    let at = c.loop-place.state in
    let output = c.brr_output-output.result in
    let fits : SFits w32 output = search rules in
    let last : SFits w32 at.a = search rules in
    let within : c.loop-place.place < length c.loop-place.outputs = omega arith in
    let sounds : output ≡ output_of (head_in bytes 0) (code_in bytes 0 c.loop-place.place) at.a at.b =
    c.brr_output-output.ensures.value
    ∙ ap (λ (h : ℕ). output_of h c.from.result at.a at.b) c.head_at-head.ensures.value
    ∙ ap (λ (k : ℕ). output_of (head_in bytes 0) k at.a at.b) (c.from.ensures ∙ c.code_at.ensures.value) in
    let next : state_of output at.a ≡ run brr (head_in bytes 0) (code_in bytes 0) c.args.from (c.loop-place.place + 1) =
    run_more brr (head_in bytes 0) (code_in bytes 0) c.args.from c.loop-place.place at (state_of output at.a) c.loop-place.invariant.state
    (step-to brr output_of brr-steps (head_in bytes 0) c.loop-place.place (code_in bytes 0 c.loop-place.place) at output sounds) in
    simp to_z-of_z (record {
      len = grind (arith, common_steps);
      outputs = outputs_more brr (head_in bytes 0) (code_in bytes 0) c.args.from c.loop-place.place (state_of output at.a) c.loop-place.outputs next within c.loop-place.invariant.outputs;
      state = next;
      range = state_in_range output at.a (record { low = c.brr_output-output.ensures.low; high = c.brr_output-output.ensures.high }) (last_bounds at c.loop-place.invariant.range);
    })
