use Rattle.std.proofs.Common.{◌≡◌, ◌++◌, take}
use Rattle.std.specs.List.{flat_map}
use Rattle.bound_cert.specs.Spelling.{layer_bytes}
use Rattle.bound_cert.proofs.writing.put_segment.Given as goal

abbrev pub invariant-loop-layer : goal.invariant-loop-layer
invariant-loop-layer l = l.out.items ≡ l.initial.out.items ++ flat_map layer_bytes (take l.layer-index l.layers)
