use Rattle.strong_bound.proofs.BlockOutputs.{block-outputs}
use Rattle.strong_bound.proofs.laws.blocks_give_outputs.Goals as goal

pub returns : goal.returns
returns c = λ l list targets block leaving blocks b is fits below are. block-outputs l is list targets block leaving blocks b fits below are
