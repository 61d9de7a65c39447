use Rattle.std.proofs.Common.{length, ap, arith}
use Rattle.spu_machine.specs.Spu.{spu}
use Rattle.player_model.specs.SpuFormat.{spu_format}
use Rattle.decompile_core.proofs.FileWays.{spu_way}
use Rattle.decompile_core.proofs.Keeping.{kept_as, stored_kept}
use Rattle.decompile_core.proofs.Ranges.{spu_heard_fits}
use Rattle.decompile_core.proofs.vag.recover_vag.Goals as goal

pub overflow_sub-trailing : goal.overflow_sub-trailing
overflow_sub-trailing c = omega (arith, c.from.ensures, c.blocks-2.ensures.value, c.in_ok-track.ensures.within, ap length c.as_slice.ensures)

pub recover-requires-clause-range : goal.recover-requires-clause-range
recover-requires-clause-range c = spu_heard_fits c.in_ok-track.track

pub recover-requires-clause-few : goal.recover-requires-clause-few
recover-requires-clause-few c = c.in_ok-track.ensures.few

pub returns-clause-kept : goal.returns-clause-kept
returns-clause-kept c =
    let vag = c.in_ok-vag.vag in
    kept_as c.in_ok-recover.field-0 _ c.in_ok-recover.ensures
    (stored_kept spu spu_format vag.rate _ c.in_ok-track.track (omega arith) (spu_way vag.blocks c.in_ok-track.track c.in_ok-track.ensures.way) c.in_ok-track.ensures.few c.in_ok-vag.ensures.some c.in_ok-vag.ensures.high)
