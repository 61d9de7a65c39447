-- What the bytes of a certificate show of a fitted sound: all of it is said of the bytes alone, whoever made them.
use Rattle.std.specs.Prelude.{◌≡◌, ℕ, ◌+◌, ◌==◌, if◌then◌else◌, ℤ, List, [], ◌∷◌, map, Ok}
use Rattle.std.specs.Bool.{⊤}
use Rattle.std.specs.List.{sum_by}
use Rattle.machine_core.specs.Rules.{Rules}
use Rattle.machine_core.specs.Segments.{part_targets}
use Rattle.box_layers.specs.Certificates.{IsAccepted, value}
use Rattle.bound_cert.specs.Content.{Segment}
use Rattle.bound_cert.specs.Grammar.{read_of}
use Rattle.cert_check.specs.Layers.{certificate_in}
use Rattle.loop_fit.specs.declared.fitted.Fitted.{Fitted}
use Rattle.loop_fit.specs.Segments.{segments_of}
use Rattle.bank_kinds.specs.Codec.{Codec}

-- no listed value is above what is found, and what is recorded is what is shown
pub record IsShown (r : Rules) (targets : List ℤ) (s : Segment) : Type 0 where
  pub accepted : IsAccepted r targets (certificate_in r s)
  pub bound : s.bound ≡ value r targets (certificate_in r s)

-- the same of each segment from block b on, with the targets of its blocks
abbrev pub AreShown : Rules → List ℤ → ℕ → List Segment → Type 0
AreShown r targets b [] = ⊤
AreShown r targets b (s ∷ ss) = IsShown r (part_targets r.decoder targets b s.blocks) s × AreShown r targets (b + s.blocks) ss

-- how many of these levels are one
abbrev pub level_count : ℕ → List ℕ → ℕ
level_count level levels = sum_by (λ k. if k == level then 1 else 0) levels

-- how many segments have the levels 0, 4 and 8, and how many have no cells
abbrev pub levels_of : List ℕ → List ℕ
levels_of levels = level_count 0 levels ∷ level_count 4 levels ∷ level_count 8 levels ∷ level_count 255 levels ∷ []

-- the segments of a fitted sound
abbrev pub segments_in : Codec → Fitted → List ℕ
segments_in c fitted = segments_of c.rules.kind fitted.blocks fitted.loop_block

-- the bytes are a certificate of the sound's segments, each of which is accepted and records what it shows; this is their sum, and these are
-- the numbers of their levels
pub record IsCertified (c : Codec) (bytes : List ℕ) (fitted : Fitted) (bound : ℕ) (levels : List ℕ) : Type 0 where
  pub segments : List Segment
  pub read : read_of c.rules.kind c.rules.decoder.samples (segments_in c fitted) bytes ≡ Ok segments
  pub shown : AreShown c.rules fitted.targets 0 segments
  pub bound_is : bound ≡ sum_by (λ s. s.bound) segments
  pub levels_are : levels ≡ levels_of (map (λ s. s.level) segments)
