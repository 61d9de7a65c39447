use Rattle.std.proofs.Common.{◌≡◌, ◌-◌}
use Rattle.ima_wave.specs.Heads.{block_count, first_bad_head}
use Rattle.ima_wave.proofs.heads.check_heads.Given as goal

abbrev pub invariant-loop-block : goal.invariant-loop-block
invariant-loop-block l = first_bad_head l.align l.bytes (block_count l.align l.bytes - l.block) l.block ≡ first_bad_head l.align l.bytes (block_count l.align l.bytes) 0
