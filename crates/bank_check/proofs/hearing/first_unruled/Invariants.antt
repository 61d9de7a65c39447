use Rattle.std.proofs.Common.{◌≡◌}
use Rattle.std.specs.Prelude.{None}
use Rattle.adpcm_nums.specs.First.{first_where}
use Rattle.machine_core.specs.Blocks.{must_forget}
use Rattle.player_model.specs.Stored.{blocks_in}
use Rattle.bank_check.specs.Shape.{is_unruled}
use Rattle.bank_check.proofs.hearing.first_unruled.Given as goal

abbrev pub invariant-loop-b : goal.invariant-loop-b
invariant-loop-b g l = let r = g.C.Machine.rules l.codec in
    first_where (is_unruled r.decoder (must_forget r.kind l.loop_block) (blocks_in r.decoder (g.C.Stored.format l.codec) l.memory l.start l.blocks)) l.b ≡ None
