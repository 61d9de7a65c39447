-- What is known of all that was found for the segments of a fitted sound.
use Rattle.std.specs.Prelude.{◌≡◌, ◌≤◌, ◌<◌, ◌^◌, ℕ, List, [], ◌∷◌, length, map}
use Rattle.std.specs.List.{sum_by}
use Rattle.machine_core.specs.Blocks.{IsLegal}
use Rattle.bound_cert.specs.Content.{Plain}
use Rattle.bound_cert.specs.Spelling.{cert_bytes, AreWritable}
use Rattle.loop_fit.specs.declared.fitted.Fitted.{Fitted}
use Rattle.branch_bound.specs.declared.top.Found.{Found}
use Rattle.bank_kinds.specs.Bound.{IsBound}
use Rattle.bank_kinds.specs.Certified.{IsCertified, levels_of}
use Rattle.bank_kinds.specs.Codec.{Codec, fixed_in}
use Rattle.bank_kinds.specs.Fits.{error_of}
use Rattle.bank_compile.specs.Sample.{list_in}

-- the segments' certificates, the sum of their bounds, the sum of their lists' sums, and their levels
abbrev pub certs_of : List Found → List Plain
certs_of founds = map (λ f. f.cert) founds

abbrev pub bounds_of : List Found → ℕ
bounds_of founds = sum_by (λ f. f.cert.bound) founds

abbrev pub sums_of : List Found → ℕ
sums_of founds = sum_by (λ f. f.choice.sum) founds

abbrev pub levels_in : List Found → List ℕ
levels_in founds = levels_of (map (λ f. f.cert.level) founds)

-- the segments' lists make up a legal list of the whole, and their certificates one of the whole
pub record IsKnown (c : Codec) (fitted : Fitted) (founds : List Found) : Type 0 where
  pub legal : IsLegal c.rules.decoder fitted.blocks (fixed_in c fitted) (list_in founds)
  -- its error is the sum of theirs, since segments stand alone
  pub error : error_of c fitted (list_in founds) ≡ sums_of founds
  pub writable : AreWritable c.rules.kind c.rules.decoder.samples (certs_of founds)
  pub certified : IsCertified c (cert_bytes c.rules.kind (certs_of founds)) fitted (bounds_of founds) (levels_in founds)
  -- no list that may be stored has an error below the bound
  pub lowest : IsBound c fitted (bounds_of founds)
  -- where every segment was searched state by state, the bound is the error
  pub exact : (n : ℕ) → levels_in founds ≡ n ∷ 0 ∷ 0 ∷ 0 ∷ [] → bounds_of founds ≡ sums_of founds
  pub below : bounds_of founds ≤ sums_of founds
  pub small : sums_of founds < 2 ^ 64
  pub few : length founds ≤ 4096
