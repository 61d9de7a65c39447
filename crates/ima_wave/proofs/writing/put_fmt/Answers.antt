use Rattle.std.proofs.Common.{ap, ◌∙◌, ◌++◌}
use Rattle.byteorder.specs.Endian.{little_bytes}
use Rattle.ima_wave.specs.Written.{layout_body}
use Rattle.ima_wave.proofs.Sizes.{fmt_is}
use Rattle.ima_wave.proofs.writing.put_fmt.Goals as goal

pub returns : goal.returns
returns c =
    let second = c.bytes_per_second.result in
    let tag = c.in_ok-put_u16.ensures ∙ ap (λ x. x ++ little_bytes 2 17) c.in_ok-put_chunk_head.ensures in
    let channels = c.in_ok-put_u16-2.ensures ∙ ap (λ x. x ++ little_bytes 2 1) tag in
    let rate = c.in_ok-put_u32.ensures ∙ ap (λ x. x ++ little_bytes 4 c.args.rate) channels in
    let seconds = c.in_ok-put_u32-2.ensures ∙ ap (λ x. x ++ little_bytes 4 second) rate in
    fmt_is c.args.out.now.items c.put_layout.new.out.items c.args.rate c.args.align second c.bytes_per_second.ensures
    (c.in_ok-put_layout.ensures ∙ ap (λ x. x ++ layout_body c.args.align) seconds)
