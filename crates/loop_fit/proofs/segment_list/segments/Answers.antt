use Rattle.std.proofs.lemmas.Result.{IfOk-weaker}
use Rattle.loop_fit.proofs.SegmentsCut.{cut-by}
use Rattle.loop_fit.proofs.segment_list.segments.Goals as goal

pub returns-in-Ima-clause-cut : goal.returns-in-Ima-clause-cut
returns-in-Ima-clause-cut c =
    IfOk-weaker c.single_blocks.result _ _ (λ list is. cut-by c.args.kind _ c.args.blocks c.args.loop_block list c.in-Ima.is is c.requires.some c.requires.within) c.single_blocks.ensures
