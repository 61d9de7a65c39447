use Rattle.std.proofs.Common.{rules, ◌≡◌, ◌+◌, ◌-◌, ◌<◌, ◌∙◌, length, arith, ap, refl, w32}
use mir.Val.{SFits}
use Rattle.std.proofs.lemmas.List.{length-set}
use Rattle.std.proofs.lemmas.Int.{to_z-of_z}
use Rattle.ima_machine.specs.Ima.{samples_in, first_state, later_state}
use Rattle.ima_machine.specs.Spelling.{head_in, first_in, code_in}
use Rattle.ima_machine.proofs.Runs.{stored_run, run-first, run-more, outputs-first, outputs-more}
use Rattle.ima_machine.proofs.machine.Ima.decode_outputs.Goals as goal

pub loop-place-init : goal.loop-place-init
loop-place-init c =
    let samples = samples_in c.args.self.now.align in
    let bytes = c.args.bytes.now in
    let state = c.first_state-state.result in
    let fits : SFits w32 state.a = search rules in
    let value : state ≡ first_state (head_in bytes 0) (first_in bytes 0) =
    c.first_state-state.ensures.value ∙ ap (λ h. first_state h c.first_at.result) c.head_at.ensures.value ∙ ap (λ s. first_state (head_in bytes 0) s) c.first_at.ensures.value in
    let is : state ≡ stored_run samples bytes 0 1 = value ∙ run-first samples bytes 0 in
    let within : 0 < length c.args.out.now = omega (arith, c.requires.out) in
    simp to_z-of_z (record {
      size = length-set c.args.out.now 0 _ ∙ c.requires.out;
      later = omega arith;
      state = is;
      range = c.first_state-state.ensures.range;
      outputs = outputs-first samples bytes state state.a c.args.out.now is refl within;
    })

pub loop-place-preserved : goal.loop-place-preserved
loop-place-preserved c =
    let samples = samples_in c.args.self.now.align in
    let bytes = c.args.bytes.now in
    let place = c.loop-place.place in
    let at = c.loop-place.state in
    let next = c.later_state-state.result in
    let fits : SFits w32 next.a = search rules in
    let value : next ≡ later_state (code_in bytes 0 (place - 1)) at =
    c.later_state-state.ensures.value ∙ ap (λ k. later_state k at) (c.from.ensures ∙ c.code_at.ensures.value) in
    let is : next ≡ stored_run samples bytes 0 (place + 1) = run-more samples bytes 0 place at next c.loop-place.invariant.later c.loop-place.invariant.state value in
    let within : place < length c.loop-place.out = omega (arith, c.loop-place-test.true) in
    simp to_z-of_z (record {
      size = length-set c.loop-place.out place _ ∙ c.loop-place.invariant.size;
      later = omega arith;
      state = is;
      range = c.later_state-state.ensures.range;
      outputs = outputs-more samples bytes place next next.a c.loop-place.out is refl within c.loop-place.invariant.outputs;
    })
