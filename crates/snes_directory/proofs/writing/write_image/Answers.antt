use Rattle.std.proofs.Common.{◌≡◌, ◌+◌, ◌*◌, length, map, ap, ◌∙◌, arith}
use Rattle.std.proofs.lemmas.List.{length-map}
use Rattle.snes_directory.specs.Spelling.{memory_bytes}
use Rattle.snes_directory.proofs.Directories.{memory_bytes-length}
use Rattle.snes_directory.proofs.ImageAgain.{image_file-length}
use Rattle.snes_directory.proofs.writing.write_image.Goals as goal

pub put_image-requires-clause-length : goal.put_image-requires-clause-length
put_image-requires-clause-length g c =
    let parts = c.args.parts.now in
    let view = g.P.AsPart.part in
    omega (arith, c.in_ok-total.ensures.sum, length-map parts view, memory_bytes-length c.args.base (map view parts) c.requires.parts)

pub returns-clause-short : goal.returns-clause-short
returns-clause-short g c =
    let base = c.args.base in
    let parts = map g.P.AsPart.part c.args.parts.now in
    let count = length-map c.args.parts.now g.P.AsPart.part in
    let size : length c.from_vec.result ≡ 16 + 4 * length parts + length (memory_bytes base parts) = ap length (c.from_vec.ensures ∙ c.in_ok-file.ensures) ∙ image_file-length base parts in
    omega (arith, size, count, c.in_ok-total.ensures.sum, c.in_ok-total.ensures.high, memory_bytes-length base parts c.requires.parts)
