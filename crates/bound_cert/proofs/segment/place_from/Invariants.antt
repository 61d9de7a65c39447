use Rattle.bound_cert.specs.Content.{begins_at}
use Rattle.bound_cert.specs.Places.{layers_at}
use Rattle.bound_cert.proofs.Beginning.{Ahead}
use Rattle.bound_cert.proofs.segment.place_from.Given as goal

abbrev pub invariant-loop-at : goal.invariant-loop-at
invariant-loop-at l = Ahead l.bytes l.at l.left l.wanted (begins_at l.start (layers_at l.bytes l.start l.count) l.wanted)

abbrev pub decreases-loop-at : goal.decreases-loop-at
decreases-loop-at l = l.left
