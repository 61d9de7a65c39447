use Rattle.std.proofs.Common.{◌∙◌, refl, sym, ◌-◌}
use Rattle.bound_cert.proofs.Finding.{go-on, found-here, found-none}
use Rattle.bound_cert.proofs.layer.find_later.Goals as goal

pub loop-k-preserved : goal.loop-k-preserved
loop-k-preserved c =
    let p = go-on c.args.bytes.now c.loop-k.at c.args.count c.loop-k.k c.u32_in.result c.args.key c.key_in-here.result c.loop-k-test.true c.key_in-here.ensures c.u32_in.ensures (sym c.is_key_before.ensures ∙ c.if-is_key_before.true)
    c.loop-k.invariant.fit c.loop-k.invariant.sorted in
    record { left = p.0 ∙ c.loop-k.invariant.left; fit = p.1; sorted = p.2 }

pub returns-then-is_key_same-clause-found : goal.returns-then-is_key_same-clause-found
returns-then-is_key_same-clause-found c =
    (found-here c.args.bytes.now c.loop-k.at c.args.count c.loop-k.k (c.args.count - c.loop-k.k - 1) c.args.key c.key_in-here.result c.loop-k-test.true refl c.key_in-here.ensures (sym c.is_key_same.ensures ∙ c.if-is_key_same.true)
    c.loop-k.invariant.fit c.loop-k.invariant.sorted).0 ∙ c.loop-k.invariant.left

pub returns-then-is_key_same-clause-stands : goal.returns-then-is_key_same-clause-stands
returns-then-is_key_same-clause-stands c =
    (found-here c.args.bytes.now c.loop-k.at c.args.count c.loop-k.k (c.args.count - c.loop-k.k - 1) c.args.key c.key_in-here.result c.loop-k-test.true refl c.key_in-here.ensures (sym c.is_key_same.ensures ∙ c.if-is_key_same.true)
    c.loop-k.invariant.fit c.loop-k.invariant.sorted).1

pub returns-else-is_key_same-clause-found : goal.returns-else-is_key_same-clause-found
returns-else-is_key_same-clause-found c =
    found-none c.args.bytes.now c.loop-k.at c.args.count c.loop-k.k c.args.key c.key_in-here.result c.loop-k-test.true c.key_in-here.ensures (sym c.is_key_before.ensures ∙ c.if-is_key_before.false) (sym c.is_key_same.ensures ∙ c.if-is_key_same.false)
    c.loop-k.invariant.sorted ∙ c.loop-k.invariant.left
