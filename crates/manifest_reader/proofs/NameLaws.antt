-- The names of samples and files, as the code goes over them.
use Rattle.std.proofs.Common.{◌≡◌, ℕ, ◌+◌, ◌<◌, true, false, List, [], ◌∷◌, ◌++◌, length, take, drop, map, append_assoc, get_or, Result, Ok, Err, refl, sym, ap, ◌∙◌}
use Rattle.std.specs.Prelude.{⊤}
use Rattle.std.specs.List.{list_any}
use Rattle.std.specs.Str.{bytes_eq}
use Rattle.std.proofs.lemmas.List.{drop_more, map-append, take_more}
use Rattle.manifest_reader.specs.declared.fault.ManifestFault.{ManifestFault}
use Rattle.manifest_reader.specs.declared.fault.ManifestFault.TheVariants.{SameName, Clash}
use Rattle.manifest_reader.specs.declared.manifest.SampleEntry.{SampleEntry}
use Rattle.manifest_reader.specs.Keys.{is_among}
use Rattle.manifest_reader.specs.Names.{check_same, check_clash}

-- the samples from a place on are the one there and those after it
pub entries_at : (xs : List SampleEntry) (i : ℕ) (s : SampleEntry) → s ≡ get_or xs i s → i < length xs → drop i xs ≡ s ∷ drop (i + 1) xs
entries_at xs i s is h = drop_more xs i s h ∙ ap (λ t. t ∷ drop (i + 1) xs) (sym is)

-- what was seen grows by the sample there
pub seen_at : (xs : List SampleEntry) (i : ℕ) (s : SampleEntry) → s ≡ get_or xs i s → i < length xs → take i xs ++ s ∷ [] ≡ take (i + 1) xs
seen_at xs i s is h = ap (λ t. take i xs ++ t ∷ []) is ∙ sym (take_more xs i s h)

-- a turn of the loop over files that goes past one
pub clash_on : (names : List (List ℕ)) (own file : List ℕ) (left rest : List SampleEntry) (s : SampleEntry) (total : Result ⊤ ManifestFault) → left ≡ s ∷ rest → file ≡ s.file → false ≡ is_among file names
    → check_clash names left own ≡ total → check_clash names rest own ≡ total
unfolding check_clash
clash_on names own file left rest s total is here apart so_far =
    let at : is_among s.file names ≡ false = ap (λ f. is_among f names) (sym here) ∙ sym apart in
    let one : check_clash names left own ≡ check_clash names rest own = rw (is, at) refl in
    sym one ∙ so_far

-- a turn that stops at a file that is stored
pub clash_stops : (names : List (List ℕ)) (own file : List ℕ) (left rest : List SampleEntry) (s : SampleEntry) (total : Result ⊤ ManifestFault) → left ≡ s ∷ rest → file ≡ s.file → true ≡ is_among file names
    → check_clash names left own ≡ total → total ≡ Err (Clash file)
unfolding check_clash
clash_stops names own file left rest s total is here stored so_far =
    let at : is_among s.file names ≡ true = ap (λ f. is_among f names) (sym here) ∙ sym stored in
    let one : check_clash names left own ≡ Err (Clash s.file) = rw (is, at) refl in
    sym so_far ∙ (one ∙ ap (λ f. Err (Clash f)) (sym here))

-- the end of that loop, where the manifest's own name is stored
pub clash_own : (names : List (List ℕ)) (own : List ℕ) (left : List SampleEntry) (total : Result ⊤ ManifestFault) → left ≡ [] → true ≡ is_among own names
    → check_clash names left own ≡ total → total ≡ Err (Clash own)
unfolding check_clash
clash_own names own left total is stored so_far =
    let one : check_clash names left own ≡ Err (Clash own) = rw (is, ← stored) refl in
    sym so_far ∙ one

-- its end, where that name is not stored
pub clash_ends : (names : List (List ℕ)) (own : List ℕ) (left : List SampleEntry) (total : Result ⊤ ManifestFault) → left ≡ [] → false ≡ is_among own names
    → check_clash names left own ≡ total → total ≡ Ok tt
unfolding check_clash
clash_ends names own left total is apart so_far =
    let one : check_clash names left own ≡ Ok tt = rw (is, ← apart) refl in
    sym so_far ∙ one

-- a turn of the loop over names that goes past one
pub names_on : (seen more left rest : List SampleEntry) (name : List ℕ) (s : SampleEntry) (total : Result ⊤ ManifestFault) → left ≡ s ∷ rest → seen ++ s ∷ [] ≡ more → name ≡ s.name
    → false ≡ list_any (λ e. bytes_eq name e.name) seen → check_same seen left ≡ total → check_same more rest ≡ total
unfolding check_same
names_on seen more left rest name s total is then here once so_far =
    let at : list_any (λ e. bytes_eq s.name e.name) seen ≡ false = ap (λ n. list_any (λ e. bytes_eq n e.name) seen) (sym here) ∙ sym once in
    let one : check_same seen left ≡ check_same (seen ++ s ∷ []) rest = rw (is, at) refl in
    ap (λ m. check_same m rest) (sym then) ∙ (sym one ∙ so_far)

-- a turn that stops at a name that stands earlier
pub names_stop : (seen left rest : List SampleEntry) (name : List ℕ) (s : SampleEntry) (total : Result ⊤ ManifestFault) → left ≡ s ∷ rest → name ≡ s.name
    → true ≡ list_any (λ e. bytes_eq name e.name) seen → check_same seen left ≡ total → total ≡ Err (SameName name)
unfolding check_same
names_stop seen left rest name s total is here twice so_far =
    let at : list_any (λ e. bytes_eq s.name e.name) seen ≡ true = ap (λ n. list_any (λ e. bytes_eq n e.name) seen) (sym here) ∙ sym twice in
    let one : check_same seen left ≡ Err (SameName s.name) = rw (is, at) refl in
    sym so_far ∙ (one ∙ ap (λ n. Err (SameName n)) (sym here))

-- the end of that loop
pub names_end : (seen left : List SampleEntry) (total : Result ⊤ ManifestFault) → left ≡ [] → check_same seen left ≡ total → total ≡ Ok tt
unfolding check_same
names_end seen left total is so_far =
    let one : check_same seen left ≡ Ok tt = rw is refl in
    sym so_far ∙ one

-- the names of a sample's files, put one behind the other
pub names_more : (f : List ℕ → List ℕ) (old own : List (List ℕ)) (a b : List ℕ) → ((old ++ map f own) ++ f a ∷ []) ++ f b ∷ [] ≡ old ++ map f (own ++ a ∷ b ∷ [])
names_more f old own a b =
    append_assoc (old ++ map f own) (f a ∷ []) (f b ∷ []) ∙ (append_assoc old (map f own) (f a ∷ f b ∷ []) ∙ ap (λ xs. old ++ xs) (sym (map-append f own (a ∷ b ∷ []))))
