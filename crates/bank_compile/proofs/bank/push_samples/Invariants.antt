use Rattle.std.proofs.Common.{◌≡◌, ◌++◌, take}
use Rattle.std.specs.List.{flat_map}
use Rattle.bank_compile.specs.Bank.{sample_files}
use Rattle.bank_compile.proofs.bank.push_samples.Given as goal

abbrev pub invariant-loop-out : goal.invariant-loop-out
invariant-loop-out l = l.files.items ≡ l.initial.files.items ++ flat_map (sample_files l.kind l.block l.bank) (take l.out-index l.outs)
