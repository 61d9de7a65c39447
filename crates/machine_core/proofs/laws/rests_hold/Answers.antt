use Rattle.std.proofs.Common.{sym}
use Rattle.std.proofs.Math.Nat.{mod-lt}
use Rattle.std.proofs.lemmas.Nat.{div-add-mod'}
use Rattle.machine_core.proofs.Places.{block-below}
use Rattle.machine_core.proofs.RestFloors.{rest-below}
use Rattle.machine_core.proofs.laws.rests_hold.Goals as goal

pub returns : goal.returns
returns c = λ r fixed blocks targets list i lane bx at laws legal count range within is_box is_state inside takes.
    rest-below r fixed blocks targets list (record { laws = laws; legal = legal; count = count; range = range }) _ _ i lane bx at
    (sym (div-add-mod' i r.decoder.samples)) (mod-lt i laws.some_samples) (block-below i r.decoder.samples blocks within) is_box is_state inside takes
