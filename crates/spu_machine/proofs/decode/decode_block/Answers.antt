use Rattle.std.proofs.Common.{rules, arith, ◌+◌, ◌≡◌, ◌<◌, ◌∙◌, ap, length, get_or, w32, ℕ}
use mir.Val.{SFits}
use Rattle.std.proofs.lemmas.Grind.{common_steps}
use Rattle.std.proofs.lemmas.Int.{to_z-of_z}
use Rattle.machine_core.specs.Decoder.{run}
use Rattle.spu_machine.specs.Spu.{spu, output_of}
use Rattle.spu_machine.specs.Laws.States.{last_bounds, state_in_range}
use Rattle.machine_core.proofs.Runs.{run_more, outputs_more}
use Rattle.linear_machine.specs.Laws.Steps.{state_of, step-to}
use Rattle.spu_machine.specs.Laws.Forgetting.{spu-steps}
use Rattle.spu_machine.proofs.decode.decode_block.Goals as goal

pub loop-place-preserved : goal.loop-place-preserved
loop-place-preserved c =
    let block = c.args.block.now in
    let code : ℕ → ℕ = λ p. get_or block.codes p 0 in
    let at = c.loop-place.state in
    let output = c.spu_output-output.result in
    let fits : SFits w32 output = search rules in
    let last : SFits w32 at.a = search rules in
    let within : c.loop-place.place < length c.loop-place.outputs = omega arith in
    let sounds : output ≡ output_of block.head (code c.loop-place.place) at.a at.b =
    c.spu_output-output.ensures.value
    ∙ ap (λ (k : ℕ). output_of block.head k at.a at.b) c.from.ensures in
    let next : state_of output at.a ≡ run spu block.head code c.args.from (c.loop-place.place + 1) =
    run_more spu block.head code c.args.from c.loop-place.place at (state_of output at.a) c.loop-place.invariant.state
    (step-to spu output_of spu-steps block.head c.loop-place.place (code c.loop-place.place) at output sounds) in
    simp to_z-of_z (record {
      len = grind (arith, common_steps);
      outputs = outputs_more spu block.head code c.args.from c.loop-place.place (state_of output at.a) c.loop-place.outputs next within c.loop-place.invariant.outputs;
      state = next;
      range = state_in_range output at.a (record { low = c.spu_output-output.ensures.low; high = c.spu_output-output.ensures.high }) (last_bounds at c.loop-place.invariant.range);
    })
