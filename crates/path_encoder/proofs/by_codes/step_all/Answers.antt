use Rattle.std.proofs.Common.{IsTrue, w32}
use mir.Val.{SFits}
use Rattle.std.proofs.lemmas.Int.{to_z-of_z}
use Rattle.std.proofs.lemmas.List.Elements.{All-get_or}
use Rattle.beam_encoder.proofs.NearLaws.{taken_fits}
use Rattle.path_encoder.specs.declared.path.Path.{Path}
use Rattle.path_encoder.proofs.by_codes.step_all.Goals as goal

pub loop-path-preserved : goal.loop-path-preserved
loop-path-preserved g c =
    let r = g.M.Machine.rules c.args.machine.now in
    let target : SFits w32 c.args.target = c.ranges.target in
    let is = simp to_z-of_z at c.take_nearest-nearest.ensures in
    let Fits : Path → Type 0 = λ p. IsTrue (r.decoder.is_state p.state) in
    let from = All-get_or Fits c.args.now.now c.loop-path.path-index _ c.loop-path-test.true c.requires.now in
    let nearest = taken_fits r (g.met.M.Machine.lawful c.args.machine.now) c.args.head c.args.place _ c.args.target _ is c.requires.head c.requires.place from in
    c.in_ok-go_on-2.ensures r.decoder (c.in_ok-go_on.ensures r.decoder c.loop-path.invariant nearest) c.next_nearest-other.ensures
