-- What the segments of a certificate come to as they are tested one after another.
use Rattle.std.specs.Prelude.{ℕ, suc, ◌+◌, ◌==◌, if◌then◌else◌, ℤ, List, [], ◌∷◌, Result, Ok}
use Rattle.adpcm_nums.specs.Outcome.{◌>>=◌}
use Rattle.machine_core.specs.Rules.{Rules}
use Rattle.machine_core.specs.Segments.{part_targets}
use Rattle.bound_cert.specs.Content.{Segment}
use Rattle.command_faults.specs.declared.refusal.CertRefusal.{CertRefusal}
use Rattle.bank_check.specs.declared.tally.Tally.{Tally}
use Rattle.bank_check.specs.Proven.{segment_bound}

-- how often a level was met, and this one besides
abbrev pub counted : ℕ → ℕ → ℕ → ℕ
counted count level met = count + (if met == level then 1 else 0)

-- one segment more
abbrev pub with_segment : Tally → ℕ → ℕ → Tally
with_segment t bound level = record {
  bound = t.bound + bound;
  exact = counted t.exact 0 level;
  fine = counted t.fine 4 level;
  coarse = counted t.coarse 8 level;
  bare = counted t.bare 255 level;
}

-- of no segment
abbrev pub nothing : Tally
nothing = record { bound = 0; exact = 0; fine = 0; coarse = 0; bare = 0 }

-- the segments from number i and block b on, after those that were tested
unfoldable pub tally_from : Rules → List ℤ → Tally → ℕ → ℕ → List Segment → Result Tally CertRefusal
tally_from r targets t i b [] = Ok t
tally_from r targets t i b (s ∷ ss) = do
  bound ← segment_bound r (part_targets r.decoder targets b s.blocks) i s
  tally_from r targets (with_segment t bound s.level) (suc i) (b + s.blocks) ss
