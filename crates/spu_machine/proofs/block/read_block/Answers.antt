use Rattle.std.proofs.Common.{arith, sym, ◌∙◌}
use Rattle.spu_machine.proofs.Reading.{codes_spell, codes_only}
use Rattle.spu_machine.proofs.block.read_block.Goals as goal

pub returns-clause-spelled : goal.returns-clause-spelled
returns-clause-spelled c = record {
  head_is = sym c.head_at-head.ensures.value;
  flags_is = sym c.flags_at.ensures.value;
  codes_are = codes_spell c.args.bytes.now c.read_codes.result (omega arith) (omega arith) c.read_codes.ensures.value;
}

pub returns-clause-only : goal.returns-clause-only
returns-clause-only c =
    λ head flags codes len range is. (
      c.head_at-head.ensures.value ∙ is.head_is,
      c.flags_at.ensures.value ∙ is.flags_is,
      codes_only c.args.bytes.now c.read_codes.result codes (omega arith) c.read_codes.ensures.value len range is.codes_are,
    )
