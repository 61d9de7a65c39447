use Rattle.std.proofs.Common.{rules, arith, ◌+◌, ◌∙◌, ap, refl, length}
use Rattle.std.specs.Prelude.{take, drop, [], ◌∷◌, ◌++◌}
use Rattle.row_bound.proofs.DoneLaws.{told}
use Rattle.row_bound.proofs.SearchLaws.{searched-all, searched-less, searched-as, layers-at, rows-as, kept-less}
use Rattle.row_bound.proofs.search.+search.Goals.{then-ends, else-ends}
use Rattle.row_bound.proofs.search.+search.Goals as goal

pub loop-v-preserved-then-verdict-found : goal.loop-v-preserved-then-verdict-found
loop-v-preserved-then-verdict-found n c =
    let ws = take c.args.k c.args.prefix.now in
    let rest = drop (c.args.k + 1) c.args.layers.now in
    let steps = c.args.steps.now in
    let row = c.row_at-row.result in
    let old = c.loop-v.invariant in
    let is = c.put_row.ensures.more ∙ ap (λ l. l ++ (row ∷ [])) old.kept in
    let tells = c.judged-verdict.ensures steps ws rest is (c.requires.floors.owed (c.args.k + 1) (omega arith)) in
    record {
      prefix = search rules;
      trail = search rules;
      kept = c.put_row.ensures.kept ∙ old.kept;
      most = old.most;
      high = c.closed-done.ensures.within;
      low = omega (arith, c.closed-done.ensures.below, old.low);
      searched = c.closed-done.ensures.searched steps c.args.v c.args.u ws rest c.index-layers-k.result row c.judged-verdict.result.floor c.loop-v.found c.requires.room.ladder refl old.low c.row_at-row.ensures old.searched tells c.if-verdict-found.true;
    }

pub loop-v-preserved : goal.loop-v-preserved
loop-v-preserved n c =
    let v = c.args.v in
    let u = c.args.u in
    let k = c.args.k in
    let ws = take k c.args.prefix.now in
    let rest = drop (k + 1) c.args.layers.now in
    let steps = c.args.steps.now in
    let layer = c.index-layers-k.result in
    let row = c.row_at-row.result in
    let old = c.loop-v.invariant in
    let t = c.loop-v.found in
    let is = c.put_row.ensures.more ∙ ap (λ l. l ++ (row ∷ [])) old.kept in
    elim c.if-ends.branch [
      | then-ends w ↦ (
          let floor = c.judged-verdict.result.floor in
          let tells = c.judged-verdict.ensures steps ws rest is (c.requires.floors.owed (k + 1) (omega arith)) in
          let owes = told steps v u ws rest row floor floor c.judged-verdict.result.rises tells (omega arith) in
          let less = searched-less steps v u ws rest layer c.loop-v.done t floor (omega (arith, c.if-verdict-found.false)) old.searched in
          record {
            prefix = ap length w.prefix-is ∙ (search rules);
            trail = ap length w.trail-is ∙ (search rules);
            kept = ap (take k) w.prefix-is ∙ (c.put_row.ensures.kept ∙ old.kept);
            most = omega (arith, w.found-is, c.if-verdict-found.false, old.most);
            high = c.widened-done.ensures.within;
            low = omega (arith, c.widened-done.ensures.below, old.low);
            searched = searched-as steps v u ws rest layer _ floor _ w.found-is (c.widened-done.ensures.searched steps v u ws rest layer row floor c.row_at-row.ensures less owes);
          })
      | else-ends w ↦ (
          let s = w.search-found.result in
          let owes = rows-as steps v u _ (ws ++ (row ∷ [])) rest s is w.search-found.ensures.owes in
          let less = searched-less steps v u ws rest layer c.loop-v.done t s w.search-found.ensures.most old.searched in
          record {
            prefix = ap length w.prefix-is ∙ (search rules);
            trail = ap length w.trail-is ∙ (search rules);
            kept = ap (take k) w.prefix-is ∙ (kept-less k (k + 1) _ _ (omega arith) w.search-found.ensures.kept ∙ (c.put_row.ensures.kept ∙ old.kept));
            most = omega (arith, w.found-is, w.search-found.ensures.most, old.most);
            high = c.widened-done.ensures.within;
            low = omega (arith, c.widened-done.ensures.below, old.low);
            searched = searched-as steps v u ws rest layer _ s _ w.found-is (c.widened-done.ensures.searched steps v u ws rest layer row s c.row_at-row.ensures less owes);
          })
    ]

pub returns-clause-owes : goal.returns-clause-owes
returns-clause-owes n c =
    searched-all c.args.steps.now c.args.v c.args.u (take c.args.k c.args.prefix.now) c.index-layers-k.result (drop (c.args.k + 1) c.args.layers.now) _ c.loop-v.done c.loop-v.found c.loop-v.invariant.searched (c.is_open.ensures.shut c.loop-v-test.false)
    (layers-at c.args.layers.now c.args.k c.index-layers-k.result (omega arith) c.index-layers-k.is)
