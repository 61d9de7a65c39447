use Rattle.bank_compile.proofs.segment.search_segment.Goals as goal

-- the search began with the known choice
pub returns-in-Ok-clause-found : goal.returns-in-Ok-clause-found
returns-in-Ok-clause-found g c = let e = c.in-Ok.ensures in record {
  blocks_are = e.blocks;
  known = c.in_ok-known.known;
  begun = c.in_ok-known.ensures;
  level = e.level;
  choice = e.choice;
  least = e.least;
  optimal = e.optimal;
  kept = e.kept;
  near = e.near;
  floor_only = e.floor_only;
  searched = e.searched;
  few_cells = e.few_cells;
  writable = e.writable;
  accepted = e.accepted;
  bound = e.bound;
}
