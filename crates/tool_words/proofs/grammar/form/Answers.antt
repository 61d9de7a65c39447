use Rattle.std.proofs.Common.{◌∙◌, ap₂}
use Rattle.clap.specs.Words.{with_rule}
use Rattle.tool_words.proofs.GrammarSteps.{form_more}
use Rattle.tool_words.proofs.grammar.form.Goals as goal

pub loop-at-preserved : goal.loop-at-preserved
loop-at-preserved c =
    c.in_ok-command.ensures.shape c.place.ensures.local ∙ ap₂ with_rule c.loop-at.invariant c.place.ensures.rule ∙ form_more c.args.name.now c.args.places.now c.loop-at.at-index _ c.loop-at-test.true
