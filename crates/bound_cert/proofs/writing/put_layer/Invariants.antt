use Rattle.std.proofs.Common.{◌≡◌, ◌++◌, take}
use Rattle.std.specs.List.{flat_map}
use Rattle.bound_cert.specs.Spelling.{cell_bytes}
use Rattle.bound_cert.proofs.writing.put_layer.Given as goal

abbrev pub invariant-loop-c : goal.invariant-loop-c
invariant-loop-c l = l.out.items ≡ l.initial.out.items ++ flat_map cell_bytes (take l.c-index l.cells)
