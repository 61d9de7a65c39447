-- How blocks of SPU-ADPCM are stored (PSX-SPX, SPU ADPCM samples).
use Rattle.machine_core.specs.declared.state.Kind.TheVariants.{Spu}
use Rattle.spu_machine.specs.Spelling.{spelling, head_in, flags_in, code_in}
use Rattle.player_model.specs.Format.{Format}

-- sixteen bytes a block, with the flags in the second; one of them tells where the loop begins
abbrev pub spu_format : Format
spu_format = record { kind = Spu; size = 16; spelling = spelling; head_in = head_in; flags_in = flags_in; symbol_in = code_in }
