-- Looking up a name in a list of files.
use Rattle.std.proofs.Common.{◌≡◌, ℕ, List, ◌∷◌, Some, true, false, cond, sym, ap, ◌∙◌}
use Rattle.std.specs.Ordering.{nat_cmp}
use Rattle.std.specs.Cmp.Lexicographic.{slice_cmp}
use Rattle.std.specs.Str.{bytes_eq}
use Rattle.std.specs.FinMap.{find}
use Rattle.std.proofs.lemmas.Bool.{both_ways, false_from_ne_true}
use Rattle.std.proofs.lemmas.Slice.Eq.{bytes_eq-Decides}
use Rattle.std.proofs.lemmas.Map.Text.{is_eq-slice_cmp}

-- an entry of that name is found
pub find_here : (name key bytes : List ℕ) (rest : List (List ℕ × List ℕ)) → bytes_eq key name ≡ true → find (slice_cmp nat_cmp) name ((key, bytes) ∷ rest) ≡ Some bytes
find_here name key bytes rest h =
    let t : bytes_eq name key ≡ true = (bytes_eq-Decides name key).1 (sym ((bytes_eq-Decides key name).0 h)) in
    ap (λ b. cond b (Some bytes) (find (slice_cmp nat_cmp) name rest)) (is_eq-slice_cmp name key ∙ t)

-- an entry of another name is passed over
pub find_later : (name key bytes : List ℕ) (rest : List (List ℕ × List ℕ)) → bytes_eq key name ≡ false → find (slice_cmp nat_cmp) name ((key, bytes) ∷ rest) ≡ find (slice_cmp nat_cmp) name rest
find_later name key bytes rest h =
    let t : bytes_eq name key ≡ false = false_from_ne_true _ (λ e. both_ways _ h ((bytes_eq-Decides key name).1 (sym ((bytes_eq-Decides name key).0 e)))) in
    ap (λ b. cond b (Some bytes) (find (slice_cmp nat_cmp) name rest)) (is_eq-slice_cmp name key ∙ t)
