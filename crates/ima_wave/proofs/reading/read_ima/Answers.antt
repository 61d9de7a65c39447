use Rattle.std.proofs.Common.{◌≤◌, ◌*◌, ◌/◌, length, ap, ◌∙◌, arith}
use Rattle.ima_wave.specs.Reading.{all_frames}
use Rattle.ima_wave.proofs.BlocksAgain.{kept-is, part-small}
use Rattle.ima_wave.proofs.reading.read_ima.Goals as goal

pub returns-clause-kept : goal.returns-clause-kept
returns-clause-kept c =
    let align = c.in_ok-format.format.align in
    let sound = c.bytes_in-sound.result.now in
    let frames : c.read_frames-frames.result ≤ all_frames align sound = omega (arith, c.read_frames-frames.ensures.within, c.count_frames.ensures) in
    kept-is c.in_ok-format.format.rate align c.read_frames-frames.result c.in_ok-at.at sound c.in_ok-blocks.blocks.now c.in_ok-copy_of.field-0
    c.in_ok-format.ensures.some_rate c.in_ok-format.ensures.low_rate c.in_ok-format.ensures.align c.in_ok-blocks.ensures.are c.in_ok-copy_of.ensures
    frames c.in_ok-at.ensures.forward c.in_ok-at.ensures.inside

pub returns-clause-small : goal.returns-clause-small
returns-clause-small c =
    let copied = ap length c.in_ok-copy_of.ensures in
    let part = part-small c.in_ok-pcm.pcm.len c.in_ok-pcm.pcm.at c.args.bytes.now in
    let sound = ap length c.bytes_in-sound.ensures.bytes in
    let within = c.in_ok-blocks.ensures.are.within in
    omega (arith, copied, part, sound, within)
