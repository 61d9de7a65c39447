use Rattle.std.proofs.Common.{◌≡◌, Option, sym, subst, ◌∙◌}
use Rattle.std.specs.Result.{IfOk}
use Rattle.tool_words.specs.declared.words.Command.{Command}
use Rattle.tool_words.proofs.WordSteps.{command_is, command_is_not}
use Rattle.tool_words.proofs.words.read_words.Goals as goal

pub returns-then-may_all_stand : goal.returns-then-may_all_stand
returns-then-may_all_stand c =
    subst (λ (x : Option Command). IfOk c.known_command.result (λ o. o ≡ x)) (sym (command_is c.args.words.now (sym c.may_all_stand.ensures ∙ c.if-may_all_stand.true))) c.known_command.ensures

pub returns-else-may_all_stand : goal.returns-else-may_all_stand
returns-else-may_all_stand c = sym (command_is_not c.args.words.now (sym c.may_all_stand.ensures ∙ c.if-may_all_stand.false))
