use Rattle.std.proofs.Common.{◌≡◌, Ok}
use Rattle.snes_directory.specs.Reading.{entries_of}
use Rattle.snes_directory.proofs.reading.read_entries.Given as goal

abbrev pub invariant-loop-i : goal.invariant-loop-i
invariant-loop-i l = entries_of l.bytes l.base l.memory l.i ≡ Ok (record { rates = l.rates; starts = l.starts; agains = l.agains })
