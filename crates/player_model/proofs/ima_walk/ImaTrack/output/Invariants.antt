use Rattle.std.proofs.Common.{◌≡◌, ◌+◌, ◌≤◌, IsTrue}
use Rattle.ima_machine.specs.Ima.{is_ima_state}
use Rattle.player_model.specs.ImaPlayer.{state_before}
use Rattle.player_model.proofs.ima_walk.ImaTrack.output.Given as goal

abbrev pub invariant-loop-next : goal.invariant-loop-next
invariant-loop-next l = IsTrue (is_ima_state l.state) × (l.state ≡ state_before l.self l.next) × (l.next ≤ l.frame + 1)
