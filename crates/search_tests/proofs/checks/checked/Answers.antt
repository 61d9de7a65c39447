use Rattle.bank_kinds.specs.Filed.{brr_filed}
use Rattle.search_tests.proofs.checks.checked.Goals as goal

pub check-requires-clause-filed : goal.check-requires-clause-filed
check-requires-clause-filed c = brr_filed
