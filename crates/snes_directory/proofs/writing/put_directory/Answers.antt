use Rattle.std.proofs.Common.{◌≡◌, ◌+◌, ◌++◌, [], ap, arith, drop, length, map, ◌∙◌}
use Rattle.std.proofs.lemmas.List.{drop_all, length-map}
use Rattle.snes_directory.specs.Spelling.{directory_bytes}
use Rattle.snes_directory.proofs.Parts.{start_fits, again_fits}
use Rattle.snes_directory.proofs.Directories.{drop-part, part-at, directory_more, directory_end, room_more, room_part}
use Rattle.snes_directory.proofs.writing.put_directory.Goals as goal

pub put_entry-requires-clause-start : goal.put_entry-requires-clause-start
put_entry-requires-clause-start g c =
    let view = g.P.AsPart.part in
    let items = c.args.parts.now in
    let i = c.loop-part.part-index in
    let item = c.part-item.result in
    let start = c.loop-part.start in
    start_fits (view item) start (part-at view items i item c.loop-part-test.true c.part-item.is c.requires.parts)
    (room_part view items i item start c.loop-part-test.true c.part-item.is c.loop-part.invariant.room)

pub put_entry-requires-clause-again : goal.put_entry-requires-clause-again
put_entry-requires-clause-again g c =
    let view = g.P.AsPart.part in
    let items = c.args.parts.now in
    let i = c.loop-part.part-index in
    let item = c.part-item.result in
    let start = c.loop-part.start in
    again_fits (view item) start (part-at view items i item c.loop-part-test.true c.part-item.is c.requires.parts)
    (room_part view items i item start c.loop-part-test.true c.part-item.is c.loop-part.invariant.room)

pub overflow_cast-start : goal.overflow_cast-start
overflow_cast-start g c =
    let size = ap length c.blocks-in-loop-part.ensures in
    omega (arith, size, room_part g.P.AsPart.part c.args.parts.now c.loop-part.part-index c.part-item.result c.loop-part.start c.loop-part-test.true c.part-item.is c.loop-part.invariant.room)

pub overflow_add-start : goal.overflow_add-start
overflow_add-start g c =
    let size = ap length c.blocks-in-loop-part.ensures in
    omega (arith, size, room_part g.P.AsPart.part c.args.parts.now c.loop-part.part-index c.part-item.result c.loop-part.start c.loop-part-test.true c.part-item.is c.loop-part.invariant.room)

pub loop-part-preserved : goal.loop-part-preserved
loop-part-preserved g c =
    let view = g.P.AsPart.part in
    let items = c.args.parts.now in
    let parts = map view items in
    let i = c.loop-part.part-index in
    let part = view c.part-item.result in
    let start = c.loop-part.start in
    let next = drop-part view items i c.part-item.result c.loop-part-test.true c.part-item.is in
    let size : length c.blocks-in-loop-part.result.now ≡ length part.blocks = ap length c.blocks-in-loop-part.ensures in
    record {
      left = ap (λ n. c.put_entry.new.out.items ++ directory_bytes (start + n) (drop (i + 1) parts)) size
          ∙ directory_more c.loop-part.out.items c.put_entry.new.out.items _ start parts i part next c.in_ok-put_entry.ensures c.loop-part.invariant.left;
      room = omega (arith, size, room_more start parts i part next c.loop-part.invariant.room);
    }

pub returns : goal.returns
returns g c =
    let parts = map g.P.AsPart.part c.args.parts.now in
    let count = length-map c.args.parts.now g.P.AsPart.part in
    let none : drop c.loop-part.part-index parts ≡ [] = drop_all c.loop-part.part-index parts (omega (arith, count, c.loop-part-test.false)) in
    directory_end c.loop-part.out.items _ c.loop-part.start parts c.loop-part.part-index none c.loop-part.invariant.left
