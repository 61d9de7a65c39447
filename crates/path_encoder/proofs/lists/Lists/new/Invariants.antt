use Rattle.std.proofs.Common.{IsTrue}
use Rattle.std.specs.List.{All}
use Rattle.machine_core.specs.Decoder.{Decoder}
use Rattle.path_encoder.proofs.lists.Lists.new.Given as goal

abbrev pub invariant-loop-head : goal.invariant-loop-head
invariant-loop-head g l = (d : Decoder) → All (λ v. All (λ s. IsTrue (d.is_state s.state)) v.items) l.by_index.items
