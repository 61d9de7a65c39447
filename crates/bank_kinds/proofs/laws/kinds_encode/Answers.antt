use Rattle.bank_kinds.specs.Laws.{is_codec_for}
use Rattle.bank_kinds.proofs.laws.kinds_encode.Goals as goal

pub returns : goal.returns
returns c = is_codec_for
