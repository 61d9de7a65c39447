-- Names that must not meet.
use Rattle.std.specs.Prelude.{⊤, ℕ, if◌then◌else◌, List, [], ◌∷◌, ◌++◌, Result, Ok, Err}
use Rattle.std.specs.List.{list_any}
use Rattle.std.specs.Str.{bytes_eq}
use Rattle.adpcm_nums.specs.Outcome.{◌>>=◌}
use Rattle.machine_core.specs.declared.state.Kind.{Kind}
use Rattle.manifest_reader.specs.declared.fault.ManifestFault.{ManifestFault}
use Rattle.manifest_reader.specs.declared.fault.ManifestFault.TheVariants.{SameName, Clash}
use Rattle.manifest_reader.specs.declared.manifest.SampleEntry.{SampleEntry}
use Rattle.manifest_reader.specs.Keys.{is_among}
use Rattle.manifest_reader.specs.Stored.{stored_names}

-- after those that were seen, no sample has the name of an earlier one, or the first such name
unfoldable pub check_same : List SampleEntry → List SampleEntry → Result ⊤ ManifestFault
check_same seen [] = Ok tt
check_same seen (s ∷ samples) =
    if list_any (λ e. bytes_eq s.name e.name) seen then Err (SameName s.name) else
    check_same (seen ++ s ∷ []) samples

-- no file of a sample is stored, nor the manifest's own name, or the first that is
unfoldable pub check_clash : List (List ℕ) → List SampleEntry → List ℕ → Result ⊤ ManifestFault
check_clash stored [] own = if is_among own stored then Err (Clash own) else Ok tt
check_clash stored (s ∷ samples) own =
    if is_among s.file stored then Err (Clash s.file) else
    check_clash stored samples own

-- no two samples have one name, and nothing that is read is stored
unfoldable pub check_names : Kind → List ℕ → List SampleEntry → List ℕ → Result ⊤ ManifestFault
check_names kind bank samples own = do
  once ← check_same [] samples
  check_clash (stored_names kind bank samples) samples own
