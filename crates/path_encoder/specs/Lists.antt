-- The lists of codes that are kept by step index.
use Rattle.std.specs.Prelude.{IsTrue}
use Rattle.std.specs.List.{All}
use Rattle.machine_core.specs.Decoder.{Decoder}
use Rattle.path_encoder.specs.declared.lists.Lists.{Lists}

-- every list ends in a state of the decoder
abbrev pub AreFit : Decoder → Lists → Type 0
AreFit d lists = All (λ v. All (λ s. IsTrue (d.is_state s.state)) v.items) lists.by_index.items
