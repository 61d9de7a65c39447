use Rattle.std.proofs.Common.{refl}
use Rattle.std.proofs.lemmas.Result.{IfOk-weaker}
use Rattle.tool_words.proofs.GrammarSteps.{added}
use Rattle.tool_words.proofs.grammar.with_form.Goals as goal

pub returns : goal.returns
returns c = IfOk-weaker c.subcommand.result _ _ (λ r h. added _ _ _ _ _ h refl c.in_ok-command.ensures refl) c.subcommand.ensures
