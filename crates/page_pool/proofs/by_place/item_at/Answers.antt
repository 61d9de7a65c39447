use Rattle.std.proofs.Common.{◌/◌, ◌%◌, sym, ap, ◌∙◌, arith, length, ◌<◌, slice_index_or}
use Rattle.page_pool.proofs.GatheredLaws.{places-enough, share, item-of-page}
use Rattle.page_pool.proofs.by_place.item_at.Goals as goal

pub bounds-pages-place : goal.bounds-pages-place
bounds-pages-place g c = omega (arith, places-enough 1024 c.args.pages.now c.args.len c.requires.filled, c.requires.within)

pub get-requires : goal.get-requires
get-requires g c =
    let within : c.args.place / 1024 < length c.args.pages.now = omega (arith, places-enough 1024 c.args.pages.now c.args.len c.requires.filled, c.requires.within) in
    omega (arith, share 1024 c.args.pages.now c.args.len (c.args.place / 1024) c.index-pages-place.result c.requires.filled within, c.requires.within, ap length c.index-pages-place.is)

pub returns : goal.returns
returns g c =
    let within : c.args.place / 1024 < length c.args.pages.now = omega (arith, places-enough 1024 c.args.pages.now c.args.len c.requires.filled, c.requires.within) in
    c.get.ensures ∙ ap (λ l. slice_index_or l (c.args.place % 1024) c.get.result) c.index-pages-place.is
    ∙ sym (item-of-page 1024 c.args.pages.now c.args.len (c.args.place / 1024) (c.args.place % 1024) c.args.place c.index-pages-place.result c.get.result c.requires.filled within (omega arith) (omega arith) c.requires.within)
