use Rattle.std.proofs.Common.{arith, ap, ◌∙◌, sym, ◌*◌, ◌+◌, ◌≡◌, ◌++◌}
use Rattle.std.specs.Prelude.{take}
use Rattle.std.proofs.Math.Seq.{take-add}
use Rattle.box_layers.proofs.layers.laid_out.Goals as goal

pub loop-page-preserved : goal.loop-page-preserved
loop-page-preserved g c =
    let i = c.loop-page.invariant in
    let n = 1024 * c.loop-page.page in
    let items = c.args.items.now.items in
    let next : n + 1024 ≡ 1024 * (c.loop-page.page + 1) = omega arith in (
      c.in-Ok-extend_from_slice.ensures.items
          ∙ (ap (λ a. a ++ c.page.result.now) i.0 ∙ (ap (λ a. take n items ++ a) c.page.ensures ∙ (sym (take-add n 1024 items) ∙ ap (λ k. take k items) next))),
      i.1,
    )
