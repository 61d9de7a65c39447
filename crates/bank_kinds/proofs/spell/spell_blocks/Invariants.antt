use Rattle.std.proofs.Common.{◌≡◌}
use Rattle.player_model.specs.Stored.{stored_front}
use Rattle.bank_kinds.specs.Chosen.{list_of}
use Rattle.bank_kinds.proofs.spell.spell_blocks.Given as goal

abbrev pub invariant-loop-b : goal.invariant-loop-b
invariant-loop-b g l = l.bytes.items ≡ stored_front (g.C.Machine.rules l.codec).decoder (g.C.Stored.format l.codec) (list_of l.choice) l.blocks l.loop_block l.b
