use Rattle.std.proofs.Common.{rules}
use Rattle.bank_kinds.specs.Codec.{codec_of}
use Rattle.bank_compile.specs.Sample.{IsChosen}
use Rattle.bank_compile.proofs.ChosenLaws.{known-of}
use Rattle.bank_compile.proofs.segments.search_segments.Goals as goal

pub returns-in-Ok-clause-known : goal.returns-in-Ok-clause-known
returns-in-Ok-clause-known g c =
    let meaning = codec_of (g.C.Machine.rules c.args.codec.now) (g.C.Encode.bytes c.args.codec.now) in
    let laws = g.met.C.Encode.encodes c.args.codec.now in
    let holds = c.certified_bounds_hold.ensures in
    let effort = c.args.effort in
    let chosen : IsChosen meaning effort c.args.fitted.now c.in-Ok.founds.items = search rules in
    known-of meaning effort c.args.fitted.now c.in-Ok.founds.items laws c.requires.fit chosen
    (λ bytes bound levels is. holds meaning c.args.fitted.now bytes bound levels laws c.requires.fit is)
