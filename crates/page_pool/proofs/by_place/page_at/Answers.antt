use Rattle.std.proofs.Common.{◌*◌, sym, ap, ◌∙◌, arith, length, ◌<◌}
use Rattle.std.specs.Prelude.{take, min, ◌-◌}
use Rattle.page_pool.proofs.GatheredLaws.{places-enough, share, page-items}
use Rattle.page_pool.proofs.by_place.page_at.Goals as goal

pub bounds-pages-page : goal.bounds-pages-page
bounds-pages-page g c = omega (arith, places-enough 1024 c.args.pages.now c.args.len c.requires.filled, c.requires.within)

pub front-requires : goal.front-requires
front-requires g c =
    let within : c.args.page < length c.args.pages.now = omega (arith, places-enough 1024 c.args.pages.now c.args.len c.requires.filled, c.requires.within) in
    omega (arith, share 1024 c.args.pages.now c.args.len c.args.page c.index-pages-page.result c.requires.filled within, c.min.ensures, ap length c.index-pages-page.is)

pub returns : goal.returns
returns g c =
    let within : c.args.page < length c.args.pages.now = omega (arith, places-enough 1024 c.args.pages.now c.args.len c.requires.filled, c.requires.within) in
    c.front.ensures ∙ ap (λ k. take k c.index-pages-page.result) c.min.ensures ∙ ap (λ l. take (min (c.args.len - 1024 * c.args.page) 1024) l) c.index-pages-page.is
    ∙ sym (page-items 1024 c.args.pages.now c.args.len c.args.page (1024 * c.args.page) c.index-pages-page.result c.requires.filled within (omega arith) c.requires.within)
