use Rattle.std.proofs.Common.{◌+◌, ◌-◌, ◌≤◌, false, length}
use Rattle.wave_form.specs.Heads.{heads_of}
use Rattle.wave_form.specs.Walk.{chunks_of, first_fault, unless}
use Rattle.wave_form.proofs.Walking.{Left}
use Rattle.wave_form.proofs.chunk_walk.walk_chunks.Given as goal

abbrev pub invariant-loop-at : goal.invariant-loop-at
invariant-loop-at l = record {
  place : l.at ≤ length l.file + 1;
  left : Left l.file l.at l.seen (unless (first_fault (length l.file) false (heads_of l.file)) (chunks_of (heads_of l.file)));
}

abbrev pub decreases-loop-at : goal.decreases-loop-at
decreases-loop-at l = length l.file - l.at
