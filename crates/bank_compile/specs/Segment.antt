-- What is found for one segment of a sample.
use Rattle.std.specs.Prelude.{◌≡◌, ◌≢◌, ◌≤◌, ℕ, ℤ, List}
use Rattle.machine_core.specs.declared.choice.Choice.{Choice}
use Rattle.machine_core.specs.Blocks.{Blocks, IsLegal, first_only}
use Rattle.machine_core.specs.Floors.{floor_of_blocks}
use Rattle.machine_core.specs.Rules.{Rules}
use Rattle.machine_core.specs.Sums.{sum_of}
use Rattle.box_layers.specs.Certificates.{Certificate, IsAccepted, value}
use Rattle.bound_cert.specs.Content.{Plain}
use Rattle.bound_cert.specs.Spelling.{IsWritable}
use Rattle.cert_check.specs.Layers.{certificate_of}
use Rattle.beam_encoder.specs.Beam.{beam_list, beam_sum}
use Rattle.open_cells.specs.Paths.{IsWhole}
use Rattle.branch_bound.specs.declared.top.Found.{Found}
use Rattle.branch_bound.specs.Keyed.{cell_total}
use Rattle.branch_bound.specs.Searched.{IsChoice, IsLevel, IsSearched}
use Rattle.manifest_reader.specs.declared.effort.Effort.{Effort}
use Rattle.bank_kinds.specs.Chosen.{list_of}

-- what the certificate of a segment says
abbrev pub certificate_in : Rules → Plain → Certificate
certificate_in r s = certificate_of r s.layers s.level s.blocks

-- the choice that the search of a segment begins with: the beam's, or where several lists of codes go on in each block a cheaper one
pub record IsKnownChoice (r : Rules) (effort : Effort) (targets : List ℤ) (blocks : ℕ) (known : Choice) : Type 0 where
  pub choice : IsChoice r blocks targets known
  pub below : known.sum ≤ beam_sum r.decoder effort.beam targets
  pub alone : effort.paths ≡ 1 → list_of known ≡ beam_list r.decoder effort.beam targets

-- the list and the certificate that a search has found for the targets of so many blocks, where it might list `share` cells
pub record IsFound (r : Rules) (effort : Effort) (share : ℕ) (targets : List ℤ) (blocks : ℕ) (f : Found) : Type 0 where
  pub blocks_are : f.cert.blocks ≡ blocks
  pub known : Choice
  pub begun : IsKnownChoice r effort targets blocks known
  -- the first level at which no more than `share` cells are reached by paths that stay below the known sum
  pub level : IsLevel r targets blocks known.sum share f.cert.level
  -- the list is legal, and its sum is exact
  pub choice : IsChoice r blocks targets f.choice
  -- at level 0 no legal list has a smaller sum, and the bound is that sum
  pub least : f.cert.level ≡ 0 → (l : Blocks) → IsLegal r.decoder blocks first_only l → f.choice.sum ≤ sum_of r.decoder l targets blocks
  pub optimal : f.cert.level ≡ 0 → f.cert.bound ≡ f.choice.sum
  -- the list is the known one, unless a smaller sum was found at level 0
  pub kept : (f.cert.level ≡ 0 → f.choice.sum ≡ known.sum) → f.choice ≡ known
  -- the bound is at least the lesser of the known sum and the cost of every relaxed path; where no cell is listed it is the floor
  pub near : f.cert.level ≢ 255 → (w : ℕ) → w ≤ known.sum
      → ((cost : ℕ) → IsWhole r targets blocks f.cert.level cost → w ≤ cost) → w ≤ f.cert.bound
  pub floor_only : f.cert.level ≡ 255 → f.cert.bound ≡ floor_of_blocks r first_only targets blocks
  -- the certificate lists just the reached cells, at most `share`
  pub searched : f.cert.level ≢ 255 → IsSearched r targets known.sum (certificate_in r f.cert)
  pub few_cells : cell_total f.cert.layers ≤ share
  -- it can be written, it is accepted, and it shows just its bound
  pub writable : IsWritable r.kind r.decoder.samples f.cert
  pub accepted : IsAccepted r targets (certificate_in r f.cert)
  pub bound : f.cert.bound ≡ value r targets (certificate_in r f.cert)
