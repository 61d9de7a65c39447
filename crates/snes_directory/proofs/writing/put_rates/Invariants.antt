use Rattle.std.proofs.Common.{◌≡◌, ◌++◌, map, take}
use Rattle.std.specs.List.{flat_map}
use Rattle.snes_directory.specs.Spelling.{rate_bytes}
use Rattle.snes_directory.proofs.writing.put_rates.Given as goal

abbrev pub invariant-loop-part : goal.invariant-loop-part
invariant-loop-part g l = l.out.items ≡ l.initial.out.items ++ flat_map rate_bytes (map g.P.AsPart.part (take l.part-index l.parts))
