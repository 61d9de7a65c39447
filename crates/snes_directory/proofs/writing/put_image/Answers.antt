use Rattle.std.proofs.Common.{◌+◌, ◌*◌, length, length-append, map, arith}
use Rattle.std.proofs.lemmas.List.{length-map}
use Rattle.snes_directory.specs.Spelling.{directory_bytes, block_bytes}
use Rattle.snes_directory.proofs.Directories.{directory_bytes-length}
use Rattle.snes_directory.proofs.writing.put_image.Goals as goal

pub put_directory-requires-clause-room : goal.put_directory-requires-clause-room
put_directory-requires-clause-room g c =
    let parts = map g.P.AsPart.part c.args.parts.now in
    let count = length-map c.args.parts.now g.P.AsPart.part in
    omega (arith, count, c.requires.length, length-append (directory_bytes (c.args.base + 4 * length parts) parts) (block_bytes parts), directory_bytes-length (c.args.base + 4 * length parts) parts)
