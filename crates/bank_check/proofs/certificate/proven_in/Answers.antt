use Rattle.std.proofs.Common.{ℕ, ◌*◌, ℤ, List, length, sym, ap, ◌∙◌, arith, Ok, Err}
use Rattle.bank_kinds.specs.Codec.{codec_of}
use Rattle.bank_kinds.specs.Certified.{segments_in}
use Rattle.bank_check.specs.Tally.{nothing, tally_from}
use Rattle.bank_check.proofs.Certifying.{read-as, has-whole, proven_by, proven-read, proven-unread, tallied-ok, tallied-err, is-certified, fits-as}
use Rattle.bank_check.proofs.certificate.proven_in.Goals as goal

pub returns-in-Err-clause-value : goal.returns-in-Err-clause-value
returns-in-Err-clause-value g c =
    let r = g.C.Machine.rules c.args.codec.now in
    let codec = codec_of r (g.C.Encode.bytes c.args.codec.now) in
    proven-unread codec c.args.fitted.now c.args.bytes.now c.in-Err.fault
    (read-as c.kind.result r.kind c.block_samples.result r.decoder.samples c.args.segments.now (segments_in codec c.args.fitted.now) c.args.bytes.now (Err c.in-Err.fault) c.kind.ensures c.block_samples.ensures c.requires.segments c.in-Err.ensures.exact)

pub tally_all-requires-clause-whole : goal.tally_all-requires-clause-whole
tally_all-requires-clause-whole g c =
    let r = g.C.Machine.rules c.args.codec.now in
    let codec = codec_of r (g.C.Encode.bytes c.args.codec.now) in
    ap (λ (z : List ℤ). length z) c.as_slice.ensures.list ∙ (c.requires.fit.whole.count ∙ ap (λ (z : ℕ). z * r.decoder.samples) (sym (has-whole codec c.args.fitted.now c.in-Ok.cert c.requires.fit (c.in-Ok.ensures.blocks ∙ c.requires.segments))))

pub tally_all-requires-clause-scratch : goal.tally_all-requires-clause-scratch
tally_all-requires-clause-scratch g c =
    let codec = codec_of (g.C.Machine.rules c.args.codec.now) (g.C.Encode.bytes c.args.codec.now) in
    let whole = has-whole codec c.args.fitted.now c.in-Ok.cert c.requires.fit (c.in-Ok.ensures.blocks ∙ c.requires.segments) in
    let lent = c.requires.scratch in
    omega (arith, whole, lent)

pub returns-in-Ok-tally_all-clause-value : goal.returns-in-Ok-tally_all-clause-value
returns-in-Ok-tally_all-clause-value g c =
    let r = g.C.Machine.rules c.args.codec.now in
    let codec = codec_of r (g.C.Encode.bytes c.args.codec.now) in
    tallied-ok r c.args.fitted.now.targets c.in-Ok.cert c.in-Ok-tally_all.tally (c.in-Ok-tally_all.ensures ∙ ap (λ (z : List ℤ). tally_from r z nothing 0 0 c.in-Ok.cert) c.as_slice.ensures.list)
    ∙ proven-read codec c.args.fitted.now c.args.bytes.now c.in-Ok.cert
    (read-as c.kind.result r.kind c.block_samples.result r.decoder.samples c.args.segments.now (segments_in codec c.args.fitted.now) c.args.bytes.now (Ok c.in-Ok.cert) c.kind.ensures c.block_samples.ensures c.requires.segments c.in-Ok.ensures.exact)

pub returns-in-Err-tally_all-clause-value : goal.returns-in-Err-tally_all-clause-value
returns-in-Err-tally_all-clause-value g c =
    let r = g.C.Machine.rules c.args.codec.now in
    let codec = codec_of r (g.C.Encode.bytes c.args.codec.now) in
    tallied-err r c.args.fitted.now.targets c.in-Ok.cert c.in-Err-tally_all.refusal (c.in-Err-tally_all.ensures ∙ ap (λ (z : List ℤ). tally_from r z nothing 0 0 c.in-Ok.cert) c.as_slice.ensures.list)
    ∙ proven-read codec c.args.fitted.now c.args.bytes.now c.in-Ok.cert
    (read-as c.kind.result r.kind c.block_samples.result r.decoder.samples c.args.segments.now (segments_in codec c.args.fitted.now) c.args.bytes.now (Ok c.in-Ok.cert) c.kind.ensures c.block_samples.ensures c.requires.segments c.in-Ok.ensures.exact)

pub returns-in-Ok-tally_all-clause-certified : goal.returns-in-Ok-tally_all-clause-certified
returns-in-Ok-tally_all-clause-certified g c =
    let r = g.C.Machine.rules c.args.codec.now in
    let codec = codec_of r (g.C.Encode.bytes c.args.codec.now) in
    let laws = g.met.C.Encode.encodes c.args.codec.now in
    is-certified codec c.args.fitted.now c.args.bytes.now c.in-Ok.cert (proven_by c.in-Ok-tally_all.tally) laws
    (sym (read-as c.kind.result r.kind c.block_samples.result r.decoder.samples c.args.segments.now (segments_in codec c.args.fitted.now) c.args.bytes.now (Ok c.in-Ok.cert) c.kind.ensures c.block_samples.ensures c.requires.segments c.in-Ok.ensures.exact))
    (fits-as c.kind.result r.kind c.block_samples.result r.decoder.samples c.in-Ok.cert c.kind.ensures c.block_samples.ensures c.in-Ok.ensures.range)
    (tallied-ok r c.args.fitted.now.targets c.in-Ok.cert c.in-Ok-tally_all.tally (c.in-Ok-tally_all.ensures ∙ ap (λ (z : List ℤ). tally_from r z nothing 0 0 c.in-Ok.cert) c.as_slice.ensures.list))
