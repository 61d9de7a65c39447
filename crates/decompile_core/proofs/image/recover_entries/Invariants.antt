use Rattle.std.proofs.Common.{◌≡◌}
use Rattle.std.specs.Prelude.{All, Ok}
use Rattle.decompile_core.specs.Recovered.{IsEntry}
use Rattle.decompile_core.specs.Decompiled.{entries_of}
use Rattle.decompile_core.proofs.image.recover_entries.Given as goal

abbrev pub invariant-loop-i : goal.invariant-loop-i
invariant-loop-i l = record {
  so_far : entries_of l.image l.i ≡ Ok l.list.items;
  kept : All IsEntry l.list.items;
}
