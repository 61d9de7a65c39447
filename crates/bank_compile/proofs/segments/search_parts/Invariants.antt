use Rattle.bank_compile.proofs.FoundParts.{AreFoundFirst}
use Rattle.bank_compile.proofs.segments.search_parts.Given as goal

abbrev pub invariant-loop-count : goal.invariant-loop-count
invariant-loop-count g l = AreFoundFirst (g.M.Machine.rules l.machine) l.effort l.share l.targets l.counts l.count-index l.first l.founds.items
