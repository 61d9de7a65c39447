-- One sample of a bank: what is found for its segments, and what is stored and told of that.
use Rattle.std.specs.Prelude.{◌≡◌, ℕ, ◌+◌, ◌/◌, ℤ, List, [], ◌∷◌, length, map}
use Rattle.std.specs.Bool.{⊤}
use Rattle.std.specs.List.{sum_by}
use Rattle.machine_core.specs.Blocks.{Blocks, IsLegal}
use Rattle.machine_core.specs.Rules.{Rules}
use Rattle.machine_core.specs.Segments.{part_targets, joined}
use Rattle.loop_fit.specs.declared.fitted.Fitted.{Fitted}
use Rattle.beam_encoder.specs.Beam.{beam_sum}
use Rattle.bound_cert.specs.Spelling.{cert_bytes}
use Rattle.branch_bound.specs.declared.top.Found.{Found}
use Rattle.report_text.specs.declared.report.SampleReport.{SampleReport}
use Rattle.bank_compile.specs.declared.sample.SampleOut.{SampleOut}
use Rattle.manifest_reader.specs.declared.effort.Effort.{Effort}
use Rattle.bank_compile.specs.Segment.{IsFound}
use Rattle.bank_kinds.specs.Chosen.{list_of}
use Rattle.bank_kinds.specs.Codec.{Codec, fixed_in}
use Rattle.bank_kinds.specs.Certified.{levels_of, segments_in}
use Rattle.bank_kinds.specs.Fits.{bytes_of, first_of, error_of, loop_shown}

-- what is found for each segment from block b on
abbrev pub AreFound : Rules → Effort → ℕ → List ℤ → ℕ → List ℕ → List Found → Type 0
AreFound r effort share targets b [] [] = ⊤
AreFound r effort share targets b [] (f ∷ fs) = ⊥
AreFound r effort share targets b (count ∷ counts) [] = ⊥
AreFound r effort share targets b (count ∷ counts) (f ∷ fs) =
    IsFound r effort share (part_targets r.decoder targets b count) count f × AreFound r effort share targets (b + count) counts fs

-- their lists, one after another
abbrev pub list_in : List Found → Blocks
list_in [] = record { heads = []; symbols = [] }
list_in (f ∷ fs) = joined (list_of f.choice) (list_in fs)

-- the cells that each segment of a fitted sound may list
abbrev pub share_of : Codec → Effort → Fitted → ℕ
share_of c effort fitted = effort.budget / length (segments_in c fitted)

-- what is found for a fitted sound, segment by segment
abbrev pub IsChosen : Codec → Effort → Fitted → List Found → Type 0
IsChosen c effort fitted founds = AreFound c.rules effort (share_of c effort fitted) fitted.targets 0 (segments_in c fitted) founds

-- what is told of the sample
abbrev pub report_of : Codec → List ℕ → Fitted → List Found → SampleReport
report_of c name fitted founds = record {
  name = name;
  blocks = fitted.blocks;
  shown = loop_shown fitted.loop_block fitted.loop_frames;
  error = error_of c fitted (list_in founds);
  bound = sum_by (λ f. f.cert.bound) founds;
  levels = levels_of (map (λ f. f.cert.level) founds);
}

-- what is made of what was found
abbrev pub out_of : Codec → List ℕ → ℕ → Fitted → List Found → SampleOut
out_of c name rate fitted founds = record {
  name = name;
  rate = rate;
  blocks = bytes_of c fitted (list_in founds);
  fitted = fitted;
  first = first_of c fitted (list_in founds);
  cert = cert_bytes c.rules.kind (map (λ f. f.cert) founds);
  report = report_of c name fitted founds;
}

-- a fitted sound was compiled: its segments were searched, and all else is made of what was found
pub record IsCompiled (c : Codec) (effort : Effort) (name : List ℕ) (rate : ℕ) (fitted : Fitted) (out : SampleOut) : Type 0 where
  pub founds : List Found
  pub chosen : IsChosen c effort fitted founds
  pub made : out ≡ out_of c name rate fitted founds

-- the sums of the beams' choices for the segments from block b on
abbrev pub beam_sums : Rules → ℕ → List ℤ → ℕ → List ℕ → ℕ
beam_sums r width targets b [] = 0
beam_sums r width targets b (count ∷ counts) = beam_sum r.decoder width (part_targets r.decoder targets b count) + beam_sums r width targets (b + count) counts

-- the sum of the errors of the beams of a width for the segments of a fitted sound
abbrev pub beams_error : Codec → ℕ → Fitted → ℕ
beams_error c width fitted = beam_sums c.rules width fitted.targets 0 (segments_in c fitted)

-- a list of blocks that may be stored for a fitted sound has just this error
pub record IsReached (c : Codec) (fitted : Fitted) (error : ℕ) : Type 0 where
  pub list : Blocks
  pub legal : IsLegal c.rules.decoder fitted.blocks (fixed_in c fitted) list
  pub error_is : error ≡ error_of c fitted list
