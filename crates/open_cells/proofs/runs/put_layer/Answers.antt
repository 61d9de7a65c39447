use Rattle.open_cells.proofs.Laying.{number-above, numbered-now}
use Rattle.open_cells.proofs.runs.put_layer.Goals as goal

pub place-requires-clause-above : goal.place-requires-clause-above
place-requires-clause-above c = number-above c.len-number.result c.args.lane c.args.layers.now (let n = c.len-number.ensures.len in rw n c.requires.numbered)

pub returns-clause-numbered : goal.returns-clause-numbered
returns-clause-numbered c = numbered-now c.place.result c.args.layers.now c.place.new.self _ c.place.ensures.ok c.place.ensures.err c.len-number.ensures.len c.requires.numbered
