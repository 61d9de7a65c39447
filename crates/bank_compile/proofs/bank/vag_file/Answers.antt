use Rattle.std.proofs.Common.{◌≡◌, ap, arith, List, ℕ, length}
use Rattle.vag_writer.specs.Spelling.{vag_file}
use Rattle.player_model.specs.SpuFormat.{spu_format}
use Rattle.spu_machine.specs.SpuRules.{spu_rules}
use Rattle.bank_kinds.specs.Laws.{spu_is_stored}
use Rattle.bank_compile.proofs.OutLaws.{out-length, vag-written}
use Rattle.bank_compile.proofs.bank.vag_file.Goals as goal

pub write_vag-requires-clause-small : goal.write_vag-requires-clause-small
write_vag-requires-clause-small c =
    let same = ap (λ (bs : List ℕ). length bs) c.as_slice.ensures in
    let long = out-length spu_rules spu_format c.args.out.now spu_is_stored c.requires in
    let few = c.requires.fit.whole.few in
    omega (arith, same, long, few)

pub returns : goal.returns
returns c =
    let out = c.args.out.now in
    let bytes : c.in-Ok.bytes ≡ vag_file out.name out.rate out.blocks =
    vag-written out.name c.as_str.result.now out.rate out.blocks c.as_slice.result.now c.in-Ok.bytes c.as_str.ensures c.as_slice.ensures c.requires.short c.in-Ok.ensures.exact in
    let name = c.in_ok-name.ensures in
    let word = c.as_str-2.ensures in
    cc
