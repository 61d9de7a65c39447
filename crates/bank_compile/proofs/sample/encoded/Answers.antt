use Rattle.bank_kinds.specs.Codec.{codec_of}
use Rattle.bank_compile.proofs.ChosenLaws.{known-small}
use Rattle.bank_compile.proofs.sample.encoded.Goals as goal

pub certificate-requires-clause-small : goal.certificate-requires-clause-small
certificate-requires-clause-small g c =
    let meaning = codec_of (g.C.Machine.rules c.args.codec.now) (g.C.Encode.bytes c.args.codec.now) in
    known-small meaning c.args.fitted c.in_ok-founds.founds.items (g.met.C.Encode.encodes c.args.codec.now) c.in_ok-founds.ensures.known
