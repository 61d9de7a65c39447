-- How blocks of BRR are stored (fullsnes, BRR samples).
use Rattle.machine_core.specs.declared.state.Kind.TheVariants.{Brr}
use Rattle.brr_machine.specs.Spelling.{spelling, head_in, flags_in, code_in}
use Rattle.player_model.specs.Format.{Format}

-- nine bytes a block, with the flags in its header; the loop's address is told elsewhere
abbrev pub brr_format : Format
brr_format = record { kind = Brr; size = 9; spelling = spelling; head_in = head_in; flags_in = flags_in; symbol_in = code_in }
