use Rattle.std.proofs.Common.{◌/◌, ◌%◌, refl, sym, ap, subst, ◌∙◌, arith, length, ◌<◌, slice_set}
use Rattle.std.specs.Prelude.{max, ◌+◌}
use Rattle.page_pool.specs.Pages.{gathered, AreFilled}
use Rattle.page_pool.proofs.GatheredLaws.{share, gathered-put, filled-put}
use Rattle.page_pool.proofs.by_place.put_at.Goals as goal

pub put-requires-clause-behind : goal.put-requires-clause-behind
put-requires-clause-behind g c =
    let within : c.args.place / 1024 < length c.args.pages.now = omega (arith, c.requires.room) in
    omega (arith, share 1024 c.args.pages.now c.args.len (c.args.place / 1024) c.index-pages-place.result c.requires.filled within, c.requires.behind)

pub returns-clause-items : goal.returns-clause-items
returns-clause-items g c =
    let within : c.args.place / 1024 < length c.args.pages.now = omega (arith, c.requires.room) in
    ap (λ page. gathered 1024 (slice_set c.args.pages.now (c.args.place / 1024) page) (max c.args.len (c.args.place + 1))) c.put.ensures
    ∙ gathered-put 1024 c.args.pages.now c.args.len _ (c.args.place / 1024) (c.args.place % 1024) c.args.place c.index-pages-place.result c.args.item c.requires.filled within (omega arith) (omega arith) c.requires.behind refl

pub returns-clause-filled : goal.returns-clause-filled
returns-clause-filled g c =
    let within : c.args.place / 1024 < length c.args.pages.now = omega (arith, c.requires.room) in
    subst (λ page. AreFilled 1024 (slice_set c.args.pages.now (c.args.place / 1024) page) (max c.args.len (c.args.place + 1))) (sym c.put.ensures)
    (filled-put 1024 c.args.pages.now c.args.len _ (c.args.place / 1024) (c.args.place % 1024) c.args.place c.index-pages-place.result c.args.item c.requires.filled within (omega arith) (omega arith) c.requires.behind refl)
