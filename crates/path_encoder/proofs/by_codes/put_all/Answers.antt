use Rattle.std.proofs.Common.{IsTrue}
use Rattle.std.proofs.lemmas.List.Elements.{All-get_or}
use Rattle.path_encoder.specs.declared.path.Path.{Path}
use Rattle.path_encoder.proofs.by_codes.put_all.Goals as goal

pub loop-path-preserved : goal.loop-path-preserved
loop-path-preserved c = λ d made paths.
    let Fits : Path → Type 0 = λ p. IsTrue (d.is_state p.state) in
    c.in_ok-put.ensures d.is_state (c.loop-path.invariant d made paths)
    (All-get_or Fits c.args.paths.now c.loop-path.path-index _ c.loop-path-test.true paths)
