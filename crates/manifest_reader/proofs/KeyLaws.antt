-- The keys of a table, as the code goes over them.
use Rattle.std.proofs.Common.{◌≡◌, ◌||◌, ℕ, Bool, true, false, Ok, Err, List, [], ◌∷◌, map, String, Global, Bor, string_bytes, refl, sym, ap, ◌∙◌, Result}
use Rattle.std.specs.Prelude.{⊤, if◌then◌else◌}
use Rattle.std.proofs.Common.{Option, Some, None, Less, Greater, nat_cmp, inl, inr}
use Rattle.std.proofs.lemmas.Bool.{cases_Bool}
use Rattle.std.proofs.lemmas.Cmp.{nat_list_cmp_total}
use Rattle.std.specs.Ordering.{is_lt, ordering_reverse}
use Rattle.std.specs.Cmp.Lexicographic.{slice_cmp}
use Rattle.std.specs.String.{string_cmp}
use Rattle.std.specs.List.Sorted.{IsStrictlySortedBy}
use Rattle.std.specs.List.{list_any, AllByRecursion}
use Rattle.std.specs.Str.{bytes_eq}
use Rattle.toml.specs.View.{members_view}
use Rattle.toml.proofs.Views.{Entry}
use Rattle.manifest_reader.specs.declared.fault.ManifestFault.{ManifestFault}
use Rattle.manifest_reader.specs.declared.fault.ManifestFault.TheVariants.{UnknownKey}
use Rattle.manifest_reader.specs.Keys.{keys_of, is_among, lesser, first_unknown, refuse_key, check_keys}

-- going over the keys in the table's order, up to the first that is not known
unfoldable pub check_each : List (List ℕ) → List (List ℕ) → Result ⊤ ManifestFault
check_each known [] = Ok tt
check_each known (key ∷ keys) = if is_among key known then check_each known keys else Err (UnknownKey key)

-- the keys of the map are those of its view
pub keys_seen : (es : List Entry) → map string_bytes (map (λ e. e.0) es) ≡ keys_of (members_view es)
keys_seen [] = refl
keys_seen (e ∷ es) = ap (λ ks. string_bytes e.0 ∷ ks) (keys_seen es)

-- the same test over the texts behind references
pub among_seen : (key : List ℕ) (ks : List (Bor (List ℕ))) → list_any (λ k. bytes_eq key k.now) ks ≡ is_among key (map (λ k. k.now) ks)
among_seen key [] = refl
among_seen key (k ∷ ks) = ap (λ b. bytes_eq key k.now || b) (among_seen key ks)

-- what the test of the code says of a key
pub among_is : (r b : Bool) (text key : List ℕ) (ks : List (Bor (List ℕ))) → text ≡ key → r ≡ list_any (λ k. bytes_eq text k.now) ks → r ≡ b → is_among key (map (λ k. k.now) ks) ≡ b
among_is r b text key ks same found is = sym (among_seen key ks) ∙ (ap (λ t. list_any (λ k. bytes_eq t k.now) ks) (sym same) ∙ (sym found ∙ is))

-- a turn of the loop over the keys that are left
pub check_on : (known : List (List ℕ)) (left rest : List (String Global)) (k : String Global) (total : Result ⊤ ManifestFault) → left ≡ k ∷ rest → is_among (string_bytes k) known ≡ true
    → check_each known (map string_bytes left) ≡ total → check_each known (map string_bytes rest) ≡ total
unfolding check_each
check_on known left rest k total is among so_far =
    let one : check_each known (map string_bytes left) ≡ check_each known (map string_bytes rest) = rw (is, among) refl in
    sym one ∙ so_far

-- a turn that stops at an unknown key
pub check_stops : (known : List (List ℕ)) (left rest : List (String Global)) (k : String Global) (total : Result ⊤ ManifestFault) → left ≡ k ∷ rest → is_among (string_bytes k) known ≡ false
    → check_each known (map string_bytes left) ≡ total → total ≡ Err (UnknownKey (string_bytes k))
unfolding check_each
check_stops known left rest k total is among so_far =
    let one : check_each known (map string_bytes left) ≡ Err (UnknownKey (string_bytes k)) = rw (is, among) refl in
    sym so_far ∙ one

-- the end of the loop
pub check_ends : (known : List (List ℕ)) (left : List (String Global)) (total : Result ⊤ ManifestFault) → left ≡ [] → check_each known (map string_bytes left) ≡ total → total ≡ Ok tt
unfolding check_each
check_ends known left total is so_far =
    let one : check_each known (map string_bytes left) ≡ Ok tt = rw is refl in
    sym so_far ∙ one

-- the key is below the other one, if there is one
abbrev IsBelow : List ℕ → Option (List ℕ) → Type 0
IsBelow key None = Unit {0}
IsBelow key (Some other) = slice_cmp nat_cmp key other ≡ Less

-- a key below another and below the rest is below the lesser of them
below_lesser : (key x : List ℕ) (o : Option (List ℕ)) → slice_cmp nat_cmp key x ≡ Less → IsBelow key o → IsBelow key (Some (lesser x o))
below_lesser key x None a b = a
below_lesser key x (Some l) a b =
    elim (cases_Bool (is_lt (slice_cmp nat_cmp l x))) [
      | inl same ↦ rw same b
      | inr apart ↦ rw apart a
    ]

-- a key below all others is below the first unknown one
below_first : (known : List (List ℕ)) (key : List ℕ) (keys : List (List ℕ)) → AllByRecursion (λ y. slice_cmp nat_cmp key y ≡ Less) keys → IsBelow key (first_unknown known keys)
unfolding first_unknown
below_first known key [] h = tt
below_first known key (x ∷ xs) h =
    elim (cases_Bool (is_among x known)) [
      | inl same ↦ rw same (below_first known key xs h.1)
      | inr apart ↦ rw apart (below_lesser key x (first_unknown known xs) h.0 (below_first known key xs h.1))
    ]

-- the lesser of a key and one above it is that key
stays : (key : List ℕ) (o : Option (List ℕ)) → IsBelow key o → lesser key o ≡ key
stays key None b = refl
stays key (Some l) b =
    let above : slice_cmp nat_cmp l key ≡ Greater = nat_list_cmp_total.antisymm l key ∙ ap ordering_reverse b in
    rw above refl

-- where the keys ascend, the first in their order is the least
pub first_is_least : (known keys : List (List ℕ)) → IsStrictlySortedBy (slice_cmp nat_cmp) keys → refuse_key (first_unknown known keys) ≡ check_each known keys
unfolding first_unknown check_each IsStrictlySortedBy
first_is_least known [] h = refl
first_is_least known (key ∷ keys) h =
    elim (cases_Bool (is_among key known)) [
      | inl same ↦ rw same (first_is_least known keys h.1)
      | inr apart ↦ rw apart (ap (λ k. Err (UnknownKey k)) (stays key (first_unknown known keys) (below_first known key keys h.0)))
    ]

-- texts above a text have their bytes above its bytes
bytes_above : (k : String Global) (es : List Entry) → AllByRecursion (λ y. string_cmp k y ≡ Less) (map (λ e. e.0) es) → AllByRecursion (λ y. slice_cmp nat_cmp (string_bytes k) y ≡ Less) (keys_of (members_view es))
bytes_above k [] h = tt
bytes_above k (e ∷ es) h = (h.0, bytes_above k es h.1)

-- texts that ascend have bytes that ascend
pub bytes_ascend : (es : List Entry) → IsStrictlySortedBy string_cmp (map (λ e. e.0) es) → IsStrictlySortedBy (slice_cmp nat_cmp) (keys_of (members_view es))
unfolding IsStrictlySortedBy
bytes_ascend [] h = tt
bytes_ascend (e ∷ es) h = (bytes_above e.0 es h.0, bytes_ascend es h.1)

-- going over the keys of the map in its order finds the first unknown key in byte order
pub checked : (known : List (List ℕ)) (es : List Entry) → IsStrictlySortedBy string_cmp (map (λ e. e.0) es) → check_keys known (members_view es) ≡ check_each known (keys_of (members_view es))
unfolding check_keys
checked known es h = first_is_least known (keys_of (members_view es)) (bytes_ascend es h)
