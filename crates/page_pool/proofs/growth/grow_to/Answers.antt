use Rattle.std.proofs.Common.{◌≡◌, ◌+◌, ◌-◌, ◌∙◌, ap, [], ◌∷◌, ◌++◌, refl, arith, rules, length}
use Rattle.std.specs.Prelude.{replicate}
use Rattle.std.proofs.lemmas.List.{length-append}
use Rattle.page_pool.proofs.Growing.{none_added, one_added, cut_off}
use Rattle.page_pool.proofs.growth.grow_to.Goals as goal

pub loop-alloc-init : goal.loop-alloc-init
loop-alloc-init g c =
    let before : c.len-before.result ≡ length c.args.pages.now.items = search rules in
    record { before = before; want = refl; some = omega (arith, before); most = omega (arith, before); added = none_added [] c.args.pages.now.items _ (omega (arith, before)) }

pub loop-alloc-preserved : goal.loop-alloc-preserved
loop-alloc-preserved g c =
    let seen : c.len.result ≡ length c.loop-alloc.pages.items = search rules in
    let held = c.loop-alloc.invariant in
    let long : length c.add_page.new.pages.items ≡ length c.loop-alloc.pages.items + 1 = ap length c.in-Ok.ensures.ok ∙ length-append c.loop-alloc.pages.items ([] ∷ []) in
    record {
      before = held.before;
      want = refl;
      some = omega (arith, held.some, long);
      most = omega (arith, held.some, seen, long, c.loop-alloc-test.true);
      added = one_added [] c.args.pages.now.items c.loop-alloc.pages.items c.add_page.new.pages.items c.len-before.result held.some held.added c.in-Ok.ensures.ok;
    }

pub returns-in-Err-clause-err : goal.returns-in-Err-clause-err
returns-in-Err-clause-err g c =
    let held = c.loop-alloc.invariant in
    c.truncate.ensures.items ∙ cut_off [] c.args.pages.now.items c.add_page.new.pages.items c.len-before.result _ held.before (c.in-Err.ensures.err ∙ held.added)

pub returns-in-Err-clause-enough : goal.returns-in-Err-clause-enough
returns-in-Err-clause-enough g c = λ enough.
    let seen : c.len.result ≡ length c.loop-alloc.pages.items = search rules in
    let held = c.loop-alloc.invariant in
    absurd (omega (arith, held.some, held.before, seen, enough, c.loop-alloc-test.true))

pub returns-clause-ok : goal.returns-clause-ok
returns-clause-ok g c =
    let seen : c.len.result ≡ length c.loop-alloc.pages.items = search rules in
    let held = c.loop-alloc.invariant in
    let count : length c.loop-alloc.pages.items - c.len-before.result ≡ c.args.want - length c.args.pages.now.items = omega (arith, held.some, held.most, held.before, seen, c.loop-alloc-test.false) in
    held.added ∙ ap (λ k. c.args.pages.now.items ++ replicate k []) count
