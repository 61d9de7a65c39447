-- The heads are the prefix of the first kept node, and the list that they lead to is legal and costs what the node says.
use Rattle.std.proofs.Common.{suc, sym, ap, subst, ◌∙◌, arith, ℕ, List}
use Rattle.machine_core.specs.Blocks.{Blocks, IsLegal, first_only}
use Rattle.machine_core.specs.Sums.{sum_of}
use Rattle.beam_encoder.specs.Walk.{AreHeads, walk_list, walk_sum}
use Rattle.beam_encoder.proofs.KeptLaws.{kept-some}
use Rattle.beam_encoder.proofs.Ways.{prefix-way}
use Rattle.beam_encoder.proofs.Links.{layers-few, layers-linked, way-prefix}
use Rattle.beam_encoder.proofs.Growth.{walk-sum, walk_list-legal}
use Rattle.beam_encoder.proofs.top.beam_of_blocks.Goals as goal

pub heads_of-requires : goal.heads_of-requires
heads_of-requires g c =
    let r = g.M.Machine.rules c.args.machine.now in
    let laws = g.met.M.Machine.lawful c.args.machine.now in
    let few = layers-few r.decoder c.args.blocks c.args.targets.now c.args.width (suc c.args.blocks) _ _ laws.some_samples c.requires.targets c.requires.few (omega arith) c.in_ok-history.ensures in
    layers-linked r laws c.args.width c.args.targets.now c.args.blocks _ _ c.requires.some (omega (arith, few)) c.in_ok-history.ensures

pub spelled-requires-clause-heads : goal.spelled-requires-clause-heads
spelled-requires-clause-heads g c =
    let r = g.M.Machine.rules c.args.machine.now in
    let e = c.in_ok-heads.ensures ∙ way-prefix r.decoder c.args.width c.args.targets.now (suc c.args.blocks) c.args.blocks 0 _ _ c.in_ok-history.ensures (omega arith) in
    let some = kept-some r (g.met.M.Machine.lawful c.args.machine.now) c.args.width c.args.targets.now c.args.blocks c.requires.some in
    let way = prefix-way r.decoder c.args.width c.args.targets.now c.args.blocks 0 some in
    subst (λ (hs : List ℕ). AreHeads r.decoder c.args.blocks hs) (sym e) way.heads_are

pub returns-clause-least : goal.returns-clause-least
returns-clause-least g c =
    let r = g.M.Machine.rules c.args.machine.now in
    let e = c.in_ok-heads.ensures ∙ way-prefix r.decoder c.args.width c.args.targets.now (suc c.args.blocks) c.args.blocks 0 _ _ c.in_ok-history.ensures (omega arith) in
    let some = kept-some r (g.met.M.Machine.lawful c.args.machine.now) c.args.width c.args.targets.now c.args.blocks c.requires.some in
    let way = prefix-way r.decoder c.args.width c.args.targets.now c.args.blocks 0 some in
    c.in_ok-choice.ensures.sum ∙ (ap (λ hs. walk_sum r.decoder hs c.args.targets.now c.args.blocks) e ∙ way.sum)

pub returns-clause-list : goal.returns-clause-list
returns-clause-list g c =
    let r = g.M.Machine.rules c.args.machine.now in
    let e = c.in_ok-heads.ensures ∙ way-prefix r.decoder c.args.width c.args.targets.now (suc c.args.blocks) c.args.blocks 0 _ _ c.in_ok-history.ensures (omega arith) in
    c.in_ok-choice.ensures.list ∙ ap (λ hs. walk_list r.decoder hs c.args.targets.now c.args.blocks) e

pub returns-clause-sum : goal.returns-clause-sum
returns-clause-sum g c =
    let r = g.M.Machine.rules c.args.machine.now in
    c.in_ok-choice.ensures.sum ∙ (sym (walk-sum r.decoder c.in_ok-heads.heads c.args.targets.now c.args.blocks) ∙ ap (λ l. sum_of r.decoder l c.args.targets.now c.args.blocks) (sym c.in_ok-choice.ensures.list))

pub returns-clause-legal : goal.returns-clause-legal
returns-clause-legal g c =
    let r = g.M.Machine.rules c.args.machine.now in
    let laws = g.met.M.Machine.lawful c.args.machine.now in
    let e = c.in_ok-heads.ensures ∙ way-prefix r.decoder c.args.width c.args.targets.now (suc c.args.blocks) c.args.blocks 0 _ _ c.in_ok-history.ensures (omega arith) in
    let some = kept-some r laws c.args.width c.args.targets.now c.args.blocks c.requires.some in
    let way = prefix-way r.decoder c.args.width c.args.targets.now c.args.blocks 0 some in
    subst (λ (l : Blocks). IsLegal r.decoder c.args.blocks first_only l) (sym c.in_ok-choice.ensures.list)
    (walk_list-legal r laws c.in_ok-heads.heads c.args.targets.now c.args.blocks (subst (λ (hs : List ℕ). AreHeads r.decoder c.args.blocks hs) (sym e) way.heads_are))
