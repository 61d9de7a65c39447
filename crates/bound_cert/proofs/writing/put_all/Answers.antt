use Rattle.std.proofs.Common.{sym, ap, ◌∙◌, Some}
use Rattle.std.proofs.lemmas.Option.{slice_get-get_or}
use Rattle.bound_cert.specs.Content.{Plain}
use Rattle.bound_cert.proofs.writing.put_all.Goals as goal

pub put_segment-requires : goal.put_segment-requires
put_segment-requires c =
    c.requires.each c.loop-segment.segment-index c.segment-item.result
    (slice_get-get_or c.args.segments.now c.loop-segment.segment-index c.segment-item.result c.loop-segment-test.true ∙ ap (λ (z : Plain). Some z) (sym c.segment-item.is))
