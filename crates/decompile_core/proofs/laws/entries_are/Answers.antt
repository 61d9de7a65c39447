use Rattle.decompile_core.proofs.FileEntries.{ima_comes, image_comes, image_entries, vag_comes}
use Rattle.decompile_core.proofs.laws.entries_are.Goals as goal

pub returns-clause-image : goal.returns-clause-image
returns-clause-image c = image_entries

pub returns-clause-image_comes : goal.returns-clause-image_comes
returns-clause-image_comes c = image_comes

pub returns-clause-vag : goal.returns-clause-vag
returns-clause-vag c = vag_comes

pub returns-clause-ima : goal.returns-clause-ima
returns-clause-ima c = ima_comes
