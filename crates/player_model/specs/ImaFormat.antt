-- How blocks of IMA ADPCM are stored (IMA recommended practices, 1992).
use Rattle.std.specs.Prelude.{ℕ, get_or, drop}
use Rattle.machine_core.specs.declared.state.Kind.TheVariants.{Ima}
use Rattle.ima_machine.specs.Spelling.{spelling, head_in, symbol_in}
use Rattle.player_model.specs.Format.{Format}

-- as many bytes a block as its file says, and no flags; a block's first symbol is its first output
abbrev pub ima_format : ℕ → Format
ima_format align = record {
  kind = Ima;
  size = align;
  spelling = λ head flags symbols. spelling head (get_or symbols 0 0) (drop 1 symbols);
  head_in = head_in;
  flags_in = λ memory address. 0;
  symbol_in = symbol_in;
}
