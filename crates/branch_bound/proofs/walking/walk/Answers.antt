use Rattle.std.proofs.Common.{◌≡◌, ℕ, suc, arith, ap, sym, ◌∙◌, ◌<◌, ◌*◌, ◌+◌, ◌%◌, subst, refl, get_or, IsTrue, pos, rules, w32}
use Rattle.std.proofs.lemmas.Int.{to_z-of_z}
use mir.Val.{SFits}
use Rattle.std.proofs.Math.Nat.{mod-lt}
use Rattle.open_cells.specs.Counts.{nodes_at}
use Rattle.branch_bound.proofs.Lists.{HeadsNow, heads-first, heads-later}
use Rattle.branch_bound.proofs.Onward.{choice-of, IsTaken, found-at, walk-now, walk-at, walk-legal, begun-all}
use Rattle.machine_core.proofs.States.{is-sample-at}
use Rattle.open_cells.specs.Paths.{HasLaws}
use Rattle.machine_core.specs.declared.boxes.Cell.{Cell}
use Rattle.machine_core.specs.Cells.{is_cell}
use Rattle.machine_core.specs.Rules.{grid}
use Rattle.machine_core.proofs.CellLaws.{cell-is}
use Rattle.branch_bound.proofs.walking.walk.Goals as goal
use Rattle.branch_bound.proofs.walking.walk.Goals.{then-at-eq0+in-Ok-push, else-at-eq0}
use Rattle.box_layers.specs.Certificates.{lane_at}

pub next_head-head-requires-clause-left : goal.next_head-head-requires-clause-left
next_head-head-requires-clause-left g c =
    let m = g.M.Machine.rules c.args.machine.now in
    let s = ap (λ z. c.args.blocks * z) c.block_samples.ensures in let t = c.loop-i-test.true in let ix = c.loop-i.invariant.index in
    let w = walk-at m c.args.targets.now c.args.blocks c.args.most c.args.total c.args.layers.now c.loop-i.heads.items c.loop-i.symbols.items c.loop-i.state c.loop-i.head c.loop-i.left c.loop-i.i c.loop-i.at.index (sym ix) c.loop-i.invariant.walk in
    let up : c.loop-i.i + 1 ≡ suc c.loop-i.at.index = omega arith in
    found-at m c.args.targets.now c.args.blocks c.args.most c.args.total c.args.layers.now c.loop-i.heads.items c.loop-i.symbols.items c.loop-i.at.index c.loop-i.head c.loop-i.left c.loop-i.state c.as_slice-next.result.now c.cell_of-cell.result
    c.requires.grounds w (omega arith) c.requires.less (c.as_slice-next.ensures.value ∙ c.in-Ok.ensures ∙ ap (nodes_at c.args.layers.now) up) c.cell_of-cell.ensures

pub step-state-requires-clause-pos : goal.step-state-requires-clause-pos
step-state-requires-clause-pos g c =
    let m = g.M.Machine.rules c.args.machine.now in let laws : HasLaws m = record { machine = g.met.M.Machine.lawful c.args.machine.now; boxed = g.met.M.Machine.boxed c.args.machine.now; filed = c.requires.filed } in
    let p = c.loop-i.invariant.spot.place in let r = mod-lt c.loop-i.at.index laws.machine.some_samples in omega arith

pub cost-requires-clause-at : goal.cost-requires-clause-at
cost-requires-clause-at g c =
    let m = g.M.Machine.rules c.args.machine.now in let laws : HasLaws m = record { machine = g.met.M.Machine.lawful c.args.machine.now; boxed = g.met.M.Machine.boxed c.args.machine.now; filed = c.requires.filed } in
    let p = c.loop-i.invariant.spot.place in let r = mod-lt c.loop-i.at.index laws.machine.some_samples in
    let sy : c.pick_symbol-symbol.result < m.decoder.symbols c.loop-i.at.place = subst (λ (z : ℕ). c.pick_symbol-symbol.result < m.decoder.symbols z) (sym p) c.pick_symbol-symbol.ensures.symbol in
    subst (λ z. IsTrue (m.decoder.is_state z)) (sym c.step-state.ensures) (laws.machine.steps c.next_head-head.result c.loop-i.at.place c.pick_symbol-symbol.result c.loop-i.state c.next_head-head.ensures.head (omega arith) sy c.loop-i.invariant.state_ok)

pub loop-i-preserved : goal.loop-i-preserved
loop-i-preserved g c =
    let m = g.M.Machine.rules c.args.machine.now in let laws : HasLaws m = record { machine = g.met.M.Machine.lawful c.args.machine.now; boxed = g.met.M.Machine.boxed c.args.machine.now; filed = c.requires.filed } in
    let s = ap (λ z. c.args.blocks * z) c.block_samples.ensures in let t = c.loop-i-test.true in let ix = c.loop-i.invariant.index in
    let i = c.loop-i.at.index in
    let w = walk-at m c.args.targets.now c.args.blocks c.args.most c.args.total c.args.layers.now c.loop-i.heads.items c.loop-i.symbols.items c.loop-i.state c.loop-i.head c.loop-i.left c.loop-i.i i (sym ix) c.loop-i.invariant.walk in
    let up : c.loop-i.i + 1 ≡ suc i = omega arith in
    let p = c.loop-i.invariant.spot.place in let r = mod-lt i laws.machine.some_samples in
    let within : i < c.args.blocks * m.decoder.samples = omega arith in
    let count = c.requires.fit.count in
    let head = c.next_head-head.result in
    let fits : SFits w32 c.target_at.result = search rules in
    let cost = simp to_z-of_z at c.cost.ensures in
    let target : c.target_at.result ≡ get_or c.args.targets.now i (pos 0) = c.target_at.ensures.value ∙ ap (λ z. get_or c.args.targets.now z (pos 0)) (sym ix) in
    let taken : IsTaken m c.args.targets.now c.args.blocks i head c.pick_symbol-symbol.result c.loop-i.state = record {
      laws = laws;
      target = is-sample-at c.args.targets.now c.requires.fit.range i (omega arith);
      state = c.loop-i.invariant.state_ok;
      head_fits = c.next_head-head.ensures.head;
      symbol_fits = c.pick_symbol-symbol.ensures.symbol;
    } in
    let now : HeadsNow m c.loop-i.heads.items c.if-at-eq0.heads.items i head = (elim c.if-at-eq0.branch [
      | then-at-eq0+in-Ok-push w' ↦ (let z = w'.if-at-eq0.true in heads-first m laws.machine c.loop-i.heads.items c.if-at-eq0.heads.items i (lane_at m c.loop-i.head i) head w.head_count (sym p ∙ z)
          (ap (λ z. z.items) w'.heads-is ∙ w'.in-Ok-push.ensures.items) w.heads_fit w.heads_allowed c.next_head-head.ensures.head c.next_head-head.ensures.takes)
      | else-at-eq0 w' ↦ (let ne = w'.if-at-eq0.false in let later : 0 < i % m.decoder.samples = omega arith in heads-later m laws.machine c.loop-i.heads.items c.if-at-eq0.heads.items i head w.head_count later
          (ap (λ z. z.items) w'.heads-is) w.heads_fit w.heads_allowed (c.next_head-head.ensures.same (omega arith) ∙ w.head_is later))
    ]) in
    record {
      walk = walk-now m c.args.targets.now c.args.blocks c.args.most c.args.total c.args.layers.now c.loop-i.heads.items c.if-at-eq0.heads.items c.loop-i.symbols.items c.push-in-loop-i.new.self.items c.loop-i.state c.step-state.result
          c.loop-i.head head c.pick_symbol-symbol.result c.loop-i.left c.saturating_sub-left.result i c.loop-i.at.place c.cost.result (c.loop-i.i + 1) c.target_at.result c.as_slice-next.result.now c.cell_of-cell.result
          c.requires.grounds w taken now c.next_head-head.ensures.takes c.pick_symbol-symbol.ensures.way c.requires.less (omega arith) within
          (c.as_slice-next.ensures.value ∙ c.in-Ok.ensures ∙ ap (nodes_at c.args.layers.now) up) c.cell_of-cell.ensures c.in-Ok-push-2.ensures.items c.step-state.ensures p cost target c.saturating_sub-left.ensures up;
      state_ok = subst (λ z. IsTrue (m.decoder.is_state z)) (sym c.step-state.ensures) (laws.machine.steps head c.loop-i.at.place c.pick_symbol-symbol.result c.loop-i.state c.next_head-head.ensures.head (omega arith)
          (subst (λ (z : ℕ). c.pick_symbol-symbol.result < m.decoder.symbols z) (sym p) c.pick_symbol-symbol.ensures.symbol) c.loop-i.invariant.state_ok);
      spot = c.next_spot-at.ensures.spot;
      index = (let n = c.next_spot-at.ensures.index in omega arith);
      rows = c.ready_for.ensures.rows;
      held = λ h. c.ready_for.ensures.held;
      head_ok = λ h. c.next_head-head.ensures.head;
    }

pub returns-clause-choice : goal.returns-clause-choice
returns-clause-choice g c =
    let m = g.M.Machine.rules c.args.machine.now in let laws : HasLaws m = record { machine = g.met.M.Machine.lawful c.args.machine.now; boxed = g.met.M.Machine.boxed c.args.machine.now; filed = c.requires.filed } in
    let s = ap (λ z. c.args.blocks * z) c.block_samples.ensures in let t = c.loop-i-test.false in let u = c.loop-i.auto.i-end in
    let e : c.loop-i.i ≡ c.args.blocks * m.decoder.samples = omega arith in
    let r = walk-legal m c.args.targets.now c.args.blocks c.args.most c.args.total c.args.layers.now c.loop-i.heads.items c.loop-i.symbols.items c.loop-i.state c.loop-i.head c.loop-i.left c.loop-i.i laws c.loop-i.invariant.walk e
    (begun-all m laws c.args.blocks c.loop-i.i c.requires.blocks e) in
    choice-of m c.args.blocks c.args.targets.now c.loop-i.heads.items c.loop-i.symbols.items c.args.total _ r.0 r.1 c.from_vec-head_list.ensures c.from_vec-symbol_list.ensures refl

pub next_head-head-requires-clause-cell : goal.next_head-head-requires-clause-cell
next_head-head-requires-clause-cell g c =
    let m = g.M.Machine.rules c.args.machine.now in
    subst (λ (z : Cell). IsTrue (is_cell (grid m) 0 z)) (sym c.cell_of-cell.ensures) (cell-is m 0 c.loop-i.state (g.met.M.Machine.lawful c.args.machine.now) refl c.loop-i.invariant.state_ok)

pub pick_symbol-symbol-requires-clause-cell : goal.pick_symbol-symbol-requires-clause-cell
pick_symbol-symbol-requires-clause-cell g c =
    let m = g.M.Machine.rules c.args.machine.now in
    subst (λ (z : Cell). IsTrue (is_cell (grid m) 0 z)) (sym c.cell_of-cell.ensures) (cell-is m 0 c.loop-i.state (g.met.M.Machine.lawful c.args.machine.now) refl c.loop-i.invariant.state_ok)
