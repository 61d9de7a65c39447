use Rattle.std.proofs.Common.{sym, ◌∙◌}
use Rattle.player_model.proofs.ImaWalks.{sound_heads}
use Rattle.player_model.proofs.ima_walk.ima_track.Goals as goal

pub invariant_of-result : goal.invariant_of-result
invariant_of-result c =
    let heads = sound_heads c.args.machine.align c.args.bytes.now (sym c.first_fault.ensures ∙ c.in-None.is) in
    (record { sound = c.requires.sound; heads_fit = heads }, c.requires.small)
