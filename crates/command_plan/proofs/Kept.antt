-- What files hold under a name, after some were set.
use Rattle.std.proofs.Common.{◌≡◌, ℕ, zero, suc, List, [], ◌∷◌, cond, false, refl, sym, ap, ◌∙◌, arith, Option, Some, slice_get}
use Rattle.std.specs.FinMap as map
use Rattle.std.specs.FinMap.{get-insert}
use Rattle.std.specs.Cmp.Lexicographic.{nat_list_cmp_total}
use Rattle.std.specs.List.{AllByRecursion, IsDistinct}
use Rattle.std.specs.Option.{unwrap_or}
use Rattle.std.specs.Str.{bytes_eq}
use Rattle.std.proofs.lemmas.Map.Text.{is_eq-slice_cmp}
use Rattle.std.proofs.lemmas.Option.{slice_get_within}
use Rattle.std.proofs.lemmas.Slice.Eq.{bytes_eq-Decides}
use Rattle.host_files.specs.Outside.{Files, content_of}
use Rattle.host_files.specs.declared.named_file.NamedFile.{NamedFile}
use Rattle.command_plan.specs.Plan.{names_in, all_stored}

-- a file of another name stays
kept_past : (before after : Files) (ws : List NamedFile) (name : List ℕ) → AllByRecursion (λ n. bytes_eq name n ≡ false) (names_in ws) → all_stored (Some before) ws ≡ Some after → map.get after name ≡ map.get before name
kept_past before after [] name h e = let same : before ≡ after = cc in ap (λ (f : Files). map.get f name) (sym same)
kept_past before after (w ∷ ws) name h e =
    kept_past (map.insert before w.name w.bytes) after ws name h.1 e
    ∙ (get-insert nat_list_cmp_total before w.name w.bytes name ∙ ap (λ b. cond b (Some w.bytes) (map.get before name)) (is_eq-slice_cmp name w.name ∙ h.0))

-- where no two of the files that were set have one name, each is found under its own
pub kept_at : (before after : Files) (ws : List NamedFile) (k : ℕ) (w : NamedFile) → IsDistinct bytes_eq (names_in ws) → slice_get ws k ≡ Some w → all_stored (Some before) ws ≡ Some after → content_of after w.name ≡ w.bytes
unfolding IsDistinct
kept_at before after [] k w once s e = let h = slice_get_within [] k w s in let no : ⊥ = omega arith in absurd no
kept_at before after (x ∷ ws) zero w once s e =
    let same : x ≡ w = cc in
    let is : map.get after x.name ≡ Some x.bytes = kept_past (map.insert before x.name x.bytes) after ws x.name once.0 e
    ∙ (get-insert nat_list_cmp_total before x.name x.bytes x.name ∙ ap (λ b. cond b (Some x.bytes) (map.get before x.name)) (is_eq-slice_cmp x.name x.name ∙ (bytes_eq-Decides x.name x.name).1 refl)) in
    ap (λ (f : NamedFile). content_of after f.name) (sym same) ∙ (ap (λ (o : Option (List ℕ)). unwrap_or o []) is ∙ ap (λ (f : NamedFile). f.bytes) same)
kept_at before after (x ∷ ws) (suc k) w once s e = kept_at (map.insert before x.name x.bytes) after ws k w once.1 s e
