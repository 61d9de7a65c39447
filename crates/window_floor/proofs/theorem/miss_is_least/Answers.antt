use Rattle.window_floor.proofs.MissLaws.{miss-below, miss-reached}
use Rattle.window_floor.proofs.theorem.miss_is_least.Goals as goal

pub returns-clause-least : goal.returns-clause-least
returns-clause-least c = miss-below

pub returns-clause-reached : goal.returns-clause-reached
returns-clause-reached c = miss-reached
