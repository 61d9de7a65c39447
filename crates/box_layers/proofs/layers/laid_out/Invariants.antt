use Rattle.std.proofs.Common.{◌≡◌, ◌*◌, ◌+◌, ◌/◌, length}
use Rattle.std.specs.Prelude.{take}
use Rattle.box_layers.proofs.layers.laid_out.Given as goal

abbrev pub invariant-loop-page : goal.invariant-loop-page
invariant-loop-page g l = (l.whole.items ≡ take (1024 * l.page) l.items.items) × (l.page-end ≡ (length l.items.items + 1023) / 1024)
