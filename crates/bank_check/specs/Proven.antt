-- What a stored certificate comes to: the bound and the levels of a fitted sound, or the first reason to refuse it.
use Rattle.std.specs.Prelude.{ℕ, suc, ◌+◌, ℤ, ◌==◌, if◌then◌else◌, List, [], ◌∷◌, map, sum, Option, Some, None, Result, Ok, Err}
use Rattle.adpcm_nums.specs.Outcome.{◌>>=◌}
use Rattle.machine_core.specs.Rules.{Rules}
use Rattle.machine_core.specs.Segments.{part_targets}
use Rattle.box_layers.specs.Certificates.{value}
use Rattle.bound_cert.specs.Content.{Segment}
use Rattle.bound_cert.specs.Grammar.{read_of}
use Rattle.bound_cert.specs.declared.fault.CertFault.{CertFault}
use Rattle.cert_check.specs.declared.checking.CellFault.{CellFault}
use Rattle.cert_check.specs.Layers.{certificate_in}
use Rattle.loop_fit.specs.declared.fitted.Fitted.{Fitted}
use Rattle.command_faults.specs.declared.refusal.CertRefusal.{CertRefusal}
use Rattle.command_faults.specs.declared.refusal.CertRefusal.TheVariants.{Grammar, Cell, Bound}
use Rattle.bank_kinds.specs.Codec.{Codec}
use Rattle.bank_kinds.specs.Certified.{levels_of, segments_in}
use Rattle.bank_check.specs.declared.proven.Proven.{Proven}
use Rattle.bank_check.specs.Cells.{segment_fault}

-- segment i: its cells are tested first, and then whether it records what it shows
abbrev pub bound_or : ℕ → Option CellFault → ℕ → ℕ → Result ℕ CertRefusal
bound_or i (Some fault) have shown = Err (Cell i fault)
bound_or i None have shown = if have == shown then Ok have else Err (Bound i have shown)

unfoldable pub segment_bound : Rules → List ℤ → ℕ → Segment → Result ℕ CertRefusal
segment_bound r targets i s = bound_or i (segment_fault r targets s) s.bound (value r targets (certificate_in r s))

-- the bounds of the segments from number i and block b on
unfoldable pub bounds_of : Rules → List ℤ → ℕ → ℕ → List Segment → Result (List ℕ) CertRefusal
bounds_of r targets i b [] = Ok []
bounds_of r targets i b (s ∷ ss) = do
  bound ← segment_bound r (part_targets r.decoder targets b s.blocks) i s
  bounds ← bounds_of r targets (suc i) (b + s.blocks) ss
  Ok (bound ∷ bounds)

abbrev pub or_grammar : {X : Type 0} → Result X CertFault → Result X CertRefusal
or_grammar (Ok x) = Ok x
or_grammar (Err fault) = Err (Grammar fault)

-- what the bytes of a certificate prove of a fitted sound
unfoldable pub proven_of : Codec → Fitted → List ℕ → Result Proven CertRefusal
proven_of c fitted bytes = do
  segments ← or_grammar (read_of c.rules.kind c.rules.decoder.samples (segments_in c fitted) bytes)
  bounds ← bounds_of c.rules fitted.targets 0 0 segments
  Ok (record { bound = sum bounds; levels = levels_of (map (λ s. s.level) segments) })
