use Rattle.bank_kinds.specs.Filed.{brr_filed}
use Rattle.search_tests.proofs.searches.searched.Goals as goal

pub bound_search-requires-clause-filed : goal.bound_search-requires-clause-filed
bound_search-requires-clause-filed c = brr_filed
