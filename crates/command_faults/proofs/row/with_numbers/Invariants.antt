use Rattle.std.proofs.Common.{◌≡◌, ◌++◌, pos, take, map}
use Rattle.report_text.specs.declared.part.LinePart.TheVariants.{Number}
use Rattle.command_faults.proofs.row.with_numbers.Given as goal

abbrev pub invariant-loop-number : goal.invariant-loop-number
invariant-loop-number l = l.parts.items ≡ l.initial.parts.items ++ map (λ n. Number (pos n)) (take l.number-index l.numbers)
