use Rattle.std.proofs.Common.{◌≡◌, ℕ, suc, arith, ap, sym, ◌∙◌, ◌*◌, ◌+◌, ◌-◌, ◌++◌, ◌∷◌, [], subst, List, Err, refl}
use Rattle.std.proofs.Math.Nat.{mul-pos}
use Rattle.open_cells.specs.declared.node.Node.{Node}
use Rattle.open_cells.specs.declared.node.Halt.TheVariants.{Many}
use Rattle.open_cells.specs.Reach.{IsFront}
use Rattle.open_cells.specs.Counts.{nodes_at}
use Rattle.open_cells.proofs.Built.{first-many, built-more, built-all, overflow-many, at-last}
use Rattle.open_cells.proofs.layers.all_layers.Goals as goal
use Rattle.block_steps.specs.Tables.{HoldRows}
use Rattle.machine_core.specs.Floors.{block_targets}

pub returns-then-len-share-clause-many : goal.returns-then-len-share-clause-many
returns-then-len-share-clause-many g c =
    let m = g.M.Machine.rules c.args.machine.now in
    let l = c.len.ensures in let t = c.if-len-share.true in
    λ e. first-many m (g.met.M.Machine.lawful c.args.machine.now) c.args.targets.now c.args.blocks c.args.level c.args.most c.args.share c.in-Ok.v.items c.in-Ok.ensures.front c.requires.blocks (omega (arith, c.in-Ok.v.ok.0))

pub grown-requires-clause-front : goal.grown-requires-clause-front
grown-requires-clause-front g c =
    let m = g.M.Machine.rules c.args.machine.now in
    let n = c.loop-i.invariant.index in
    subst (λ (z : List Node). IsFront m c.args.targets.now c.args.blocks c.args.level c.args.most c.loop-i.at.index z) (sym (c.as_slice-in-loop-i.ensures.value ∙ c.loop-i.invariant.front)) (c.loop-i.invariant.built.each c.loop-i.at.index (omega arith))

pub returns-in-Err-grown-clause-many : goal.returns-in-Err-grown-clause-many
returns-in-Err-grown-clause-many g c =
    let m = g.M.Machine.rules c.args.machine.now in
    let s = ap (λ z. c.args.blocks * z) c.block_samples.ensures in let t = c.loop-i-test.true in
    λ e. (let q : c.in-Err-grown.e ≡ Many = cc in
    overflow-many m c.args.targets.now c.args.blocks c.args.level c.args.most c.args.share c.loop-i.layers c.loop-i.i (suc c.loop-i.at.index) c.loop-i.count (c.args.share - c.loop-i.count) c.loop-i.invariant.built
    c.loop-i.invariant.index (omega arith) refl (c.in-Err-grown.ensures.many (ap Err q)))

pub loop-i-preserved : goal.loop-i-preserved
loop-i-preserved g c =
    let m = g.M.Machine.rules c.args.machine.now in
    let l = c.len-in-loop-i.ensures in let few = c.in-Ok-grown.ensures.few in
    record {
      built = built-more m c.args.targets.now c.args.blocks c.args.level c.args.most c.args.share c.loop-i.layers c.push-in-loop-i.new.self c.in-Ok-grown.v.items c.loop-i.i (suc c.loop-i.at.index) c.loop-i.count
          (c.loop-i.count + c.len-in-loop-i.result) (c.args.share - c.loop-i.count) c.loop-i.invariant.built (c.in-Ok-push-2.ensures.ok ∙ ap (λ z. c.loop-i.layers ++ z ∷ []) c.as_slice-in-loop-i-2.ensures.value) c.loop-i.invariant.index c.in-Ok-grown.ensures.layer refl
          (omega (arith, c.in-Ok-grown.v.ok.0)) (omega (arith, c.in-Ok-grown.v.ok.0));
      front = sym (ap (λ (z : List (List Node)). nodes_at z c.next_spot-at.result.index) (c.in-Ok-push-2.ensures.ok ∙ ap (λ z. c.loop-i.layers ++ z ∷ []) c.as_slice-in-loop-i-2.ensures.value)
          ∙ at-last c.loop-i.layers c.in-Ok-grown.v.items c.next_spot-at.result.index (let a = c.next_spot-at.ensures.index in let b = c.loop-i.invariant.index in let d = c.loop-i.invariant.built.size in omega arith));
      spot = c.next_spot-at.ensures.spot;
      index = (let a = c.next_spot-at.ensures.index in let b = c.loop-i.invariant.index in omega arith);
      rows = c.ready.ensures.rows;
      held = λ p. subst (λ (z : ℕ). HoldRows m (block_targets m c.args.targets.now z) c.ready.new.rows) (sym (c.next_spot-at.ensures.same_block p)) c.ready.ensures.held;
    }

pub returns-clause-few : goal.returns-clause-few
returns-clause-few g c =
    let m = g.M.Machine.rules c.args.machine.now in
    let laws = g.met.M.Machine.lawful c.args.machine.now in
    let s = ap (λ z. c.args.blocks * z) c.block_samples.ensures in let t = c.loop-i-test.false in
    let p = mul-pos c.requires.blocks laws.some_samples in
    let u = c.loop-i.auto.i-end in
    built-all m c.args.targets.now c.args.blocks c.args.level c.args.most c.args.share c.loop-i.layers c.loop-i.i c.loop-i.count c.loop-i.invariant.built (omega arith)
