use Rattle.std.proofs.Common.{◌∙◌, map, string_bytes}
use Rattle.clap.specs.Words.{app_of}
use Rattle.tool_words.proofs.WordSteps.{fault_is, found_is}
use Rattle.tool_words.proofs.words.split.Goals as goal

pub returns-in-Ok-try_get_matches_from-clause-some : goal.returns-in-Ok-try_get_matches_from-clause-some
returns-in-Ok-try_get_matches_from-clause-some c =
    found_is (app_of c.in-Ok.grammar) (map string_bytes c.args.words.now) c.in-Ok-try_get_matches_from.found c.in-Ok.ensures c.in-Ok-try_get_matches_from.ensures.matches c.in-Ok-try_get_matches_from.ensures.kinds

pub returns : goal.returns
returns c = record {
  some = tt;
  none = λ e. fault_is (app_of c.in-Ok.grammar) (map string_bytes c.args.words.now) _ c.in-Ok.ensures (λ is. c.in_default.not-OutOfMemory (c.kind.ensures ∙ is)) c.in-Err-try_get_matches_from.ensures.kinds;
}
