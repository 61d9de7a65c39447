use Rattle.std.proofs.Common.{rules, ◌≡◌, Option, Some, None, map, string_bytes, subst}
use Rattle.std.specs.Result.{IfOk}
use Rattle.clap.specs.Words.{subcommand_rows_of}
use Rattle.tool_words.specs.declared.words.Command.{Command}
use Rattle.tool_words.specs.Grammar.{AreSplit}
use Rattle.tool_words.proofs.WordSteps.{misfit_is, none_is, some_is, split_is}
use Rattle.tool_words.proofs.words.known_command.Goals as goal

pub returns-in-Some : goal.returns-in-Some
returns-in-Some c =
    let is : c.in_ok-found.field-0 ≡ Some c.in-Some.found = search rules in
    let split = some_is c.in_ok-found.field-0 (λ found. AreSplit (map string_bytes c.args.words.now) (subcommand_rows_of found)) c.in-Some.found is c.in_ok-found.ensures.some in
    subst (λ (x : Option Command). IfOk c.command_met.result (λ o. o ≡ x)) (split_is c.args.words.now (subcommand_rows_of c.in-Some.found) c.requires split) c.command_met.ensures

pub returns-in-None : goal.returns-in-None
returns-in-None c =
    let is : c.in_ok-found.field-0 ≡ None = search rules in
    misfit_is c.args.words.now c.requires (c.in_ok-found.ensures.none (none_is c.in_ok-found.field-0 is))
