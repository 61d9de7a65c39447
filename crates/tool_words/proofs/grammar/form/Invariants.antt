use Rattle.std.proofs.Common.{◌≡◌, [], map, take}
use Rattle.clap.specs.Words.{app_of}
use Rattle.tool_words.specs.Grammar.{form}
use Rattle.tool_words.proofs.grammar.form.Given as goal

abbrev pub invariant-loop-at : goal.invariant-loop-at
invariant-loop-at l = app_of l.command ≡ record { top = form l.name (map (λ p. p.now) (take l.at-index l.places)); subs = [] }
