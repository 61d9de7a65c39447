use Rattle.std.proofs.Common.{◌≡◌, All, length, drop}
use Rattle.toml.specs.View.{items_view}
use Rattle.manifest_reader.specs.Sample.{samples_of}
use Rattle.manifest_reader.specs.Ranges.{IsEntry}
use Rattle.manifest_reader.proofs.Rows.{with_front}
use Rattle.manifest_reader.proofs.sample.samples_of.Given as goal

abbrev pub invariant-loop-value : goal.invariant-loop-value
invariant-loop-value l =
    (with_front l.samples.items (samples_of (items_view (drop l.value-index l.values))) ≡ samples_of (items_view l.values))
    × All IsEntry l.samples.items
    × (length l.samples.items ≡ l.value-index)
