use Rattle.std.proofs.Common.{◌≡◌, ◌*◌, ap, ◌∙◌, arith}
use Rattle.machine_core.specs.Decoder.{start, miss}
use Rattle.machine_core.specs.Sums.{sum_after}
use Rattle.machine_core.proofs.SegmentLaws.{parts-legal, whole-legal, segments-sum, segments-floor}
use Rattle.machine_core.proofs.segments.segments_make_the_whole.Goals as goal

pub returns : goal.returns
returns c = record {
  legal = λ d blocks fixed list counts some legal are. parts-legal d blocks fixed list some legal 0 counts are;
  whole = whole-legal;
  sum = λ d blocks fixed list targets counts forgets legal are.
      (let first : 0 ≡ 0 * d.samples = omega arith in
      ap (λ z. sum_after d (miss d targets) list start z (blocks * d.samples)) first
      ∙ segments-sum d blocks fixed list targets forgets legal 0 blocks counts start are (omega arith));
  floor = λ r blocks fixed targets counts are. segments-floor r blocks fixed targets 0 blocks counts are (omega arith);
}
