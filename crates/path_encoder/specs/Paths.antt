-- What the search of paths stands on: states that the decoder has, and targets of whole blocks.
use Rattle.std.specs.Prelude.{◌≡◌, ◌<◌, ◌≤◌, ◌*◌, ℕ, ℤ, IsTrue, List, length}
use Rattle.std.specs.List.{All}
use Rattle.adpcm_nums.specs.Sample.{AreSamples}
use Rattle.machine_core.specs.Decoder.{Decoder}
use Rattle.path_encoder.specs.declared.path.Path.{Path}
use Rattle.path_encoder.specs.declared.ranked.RankedHead.{RankedHead}

-- every path ends in a state of the decoder
abbrev pub AreStates : Decoder → List Path → Type 0
AreStates d list = All (λ p. IsTrue (d.is_state p.state)) list

-- heads below a number
abbrev pub AreHeads : ℕ → List RankedHead → Type 0
AreHeads most heads = All (λ h. h.head < most) heads
