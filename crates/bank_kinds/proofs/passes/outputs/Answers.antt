-- The state before each sample is the list's, so each output is the list's, and a sample.
use Rattle.std.proofs.Common.{◌*◌, sym, ap, subst, arith, IsTrue, ◌+◌, rules}
use Rattle.std.proofs.lemmas.Int.{to_z-of_z}
use mir.Val.{SFits}
use mir.Syntax.{w32}
use Rattle.machine_core.specs.declared.state.State.{State}
use Rattle.machine_core.specs.Decoder.{start}
use Rattle.machine_core.proofs.States.{states}
use Rattle.bank_kinds.specs.Chosen.{list_of}
use Rattle.bank_kinds.proofs.OutputLaws.{state-next, outputs-more, range-more}
use Rattle.bank_kinds.proofs.passes.outputs.Goals as goal

pub step-state-requires-clause-from : goal.step-state-requires-clause-from
step-state-requires-clause-from g c =
    let r = g.M.Machine.rules c.args.machine.now in
    let laws = g.met.M.Machine.lawful c.args.machine.now in
    let count = ap (λ n. c.args.blocks * n) c.block_samples-samples.ensures in
    subst (λ (s : State). IsTrue (r.decoder.is_state s)) (sym c.loop-i.invariant.state)
    (states r laws c.args.blocks (list_of c.args.choice.now) c.requires.in_range start laws.start_fits c.loop-i.i (omega arith))

pub scaled-requires : goal.scaled-requires
scaled-requires g c =
    let r = g.M.Machine.rules c.args.machine.now in
    let laws = g.met.M.Machine.lawful c.args.machine.now in
    let count = ap (λ n. c.args.blocks * n) c.block_samples-samples.ensures in
    let next = state-next r.decoder (list_of c.args.choice.now) c.block_samples-samples.result c.loop-i.i _ _ _ _ c.as_slice-heads.ensures c.as_slice-symbols.ensures
    c.block_samples-samples.ensures c.loop-i.invariant.state c.step-state.ensures in
    let is_state = states r laws c.args.blocks (list_of c.args.choice.now) c.requires.in_range start laws.start_fits (c.loop-i.i + 1) (omega arith) in
    let fits : SFits w32 c.args.scale = search rules in
    simp to_z-of_z (c.requires.range _ (subst (λ (s : State). IsTrue (r.decoder.is_state s)) (sym next) is_state))

pub loop-i-preserved : goal.loop-i-preserved
loop-i-preserved g c =
    let r = g.M.Machine.rules c.args.machine.now in
    let fits : SFits w32 c.args.scale = search rules in
    let next = state-next r.decoder (list_of c.args.choice.now) c.block_samples-samples.result c.loop-i.i _ _ _ _ c.as_slice-heads.ensures c.as_slice-symbols.ensures
    c.block_samples-samples.ensures c.loop-i.invariant.state c.step-state.ensures in
    record {
      state = next;
      outputs = outputs-more r.decoder (list_of c.args.choice.now) c.loop-i.i _ c.args.scale _ _ _ c.requires.scale next (simp to_z-of_z at c.scaled.ensures.value) c.scaled.ensures.range
          c.loop-i.invariant.outputs c.in_ok-push.ensures.ok;
      range = range-more _ _ _ c.scaled.ensures.range c.loop-i.invariant.range c.in_ok-push.ensures.ok;
    }
