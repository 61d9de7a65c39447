use Rattle.std.proofs.Common.{◌≡◌, Option, subst}
use Rattle.std.specs.Result.{IfOk}
use Rattle.clap.specs.Words.{found_of, rows_of, subcommand_rows_of}
use Rattle.tool_words.specs.declared.words.Command.{Command}
use Rattle.tool_words.proofs.WordSteps.{met_is, none_met}
use Rattle.tool_words.proofs.places.command_met.Goals as goal

pub returns-in-Some : goal.returns-in-Some
returns-in-Some c =
    subst (λ (x : Option Command). IfOk c.command_at.result (λ o. o ≡ x)) (met_is c.args.found.now c.in-Some.name.now (rows_of (found_of c.in-Some.places.now)) c.in-Some.ensures.name c.in-Some.ensures.rows) c.command_at.ensures

pub returns-in-None : goal.returns-in-None
returns-in-None c = none_met (subcommand_rows_of c.args.found.now) c.in-None.ensures.rows
