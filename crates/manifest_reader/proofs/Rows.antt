-- Reading samples one after the other, as a loop does.
use Rattle.std.proofs.Common.{◌≡◌, ◌⊎◌, inl, inr, ℕ, suc, ◌+◌, ◌<◌, ◌≤◌, Bool, true, false, is_some, List, [], ◌∷◌, ◌++◌, length, drop, get_or, Result, Ok, Err, refl, sym, ap, ◌∙◌, append_assoc, length-append, arith}
use Rattle.std.proofs.lemmas.List.{append-nil, drop_all}
use Rattle.toml.specs.declared.value.Value.{Value}
use Rattle.toml.specs.Data.{Data, Items, no_items, item, as_table}
use Rattle.toml.specs.View.{view, items_view}
use Rattle.toml.proofs.Views.{items_view-drop}
use Rattle.manifest_reader.specs.declared.fault.ManifestFault.{ManifestFault}
use Rattle.manifest_reader.specs.declared.fault.ManifestFault.TheVariants.{NoMemory}
use Rattle.manifest_reader.specs.declared.manifest.SampleEntry.{SampleEntry}
use Rattle.adpcm_nums.specs.Outcome.{◌>>=◌}
use Rattle.manifest_reader.specs.Sample.{sample_of, samples_of, are_tables, count_of}

-- what was read before, and what is still read
abbrev pub with_front : List SampleEntry → Result (List SampleEntry) ManifestFault → Result (List SampleEntry) ManifestFault
with_front front read = read >>= λ xs. Ok (front ++ xs)

-- what was read before grows by the first that is left
regroup : (front : List SampleEntry) (s : SampleEntry) (read : Result (List SampleEntry) ManifestFault) → with_front front (read >>= λ xs. Ok (s ∷ xs)) ≡ with_front (front ++ s ∷ []) read
regroup front s (Ok xs) = ap Ok (simp append_assoc)
regroup front s (Err f) = refl

-- a turn of the loop that reads a sample
pub goes_on : (front : List SampleEntry) (left rest : Items) (d : Data) (s : SampleEntry) (total : Result (List SampleEntry) ManifestFault) → left ≡ item d rest → sample_of d ≡ Ok s
    → with_front front (samples_of left) ≡ total → with_front (front ++ s ∷ []) (samples_of rest) ≡ total
unfolding samples_of
goes_on front left rest d s total is read so_far =
    let one : with_front front (samples_of left) ≡ with_front (front ++ s ∷ []) (samples_of rest) = rw (is, read) (regroup front s (samples_of rest)) in
    sym one ∙ so_far

-- a turn that stops at a fault
pub ends : (front : List SampleEntry) (left rest : Items) (d : Data) (e : ManifestFault) (total : Result (List SampleEntry) ManifestFault) → left ≡ item d rest → (e ≡ NoMemory) ⊎ (sample_of d ≡ Err e)
    → with_front front (samples_of left) ≡ total → (e ≡ NoMemory) ⊎ (total ≡ Err e)
unfolding samples_of
ends front left rest d e total is (inl memory) so_far = inl memory
ends front left rest d e total is (inr read) so_far =
    let one : with_front front (samples_of left) ≡ Err e = rw (is, read) refl in
    inr (sym so_far ∙ one)

-- the end of the loop
pub is_done : (front : List SampleEntry) (left : Items) (total : Result (List SampleEntry) ManifestFault) → left ≡ no_items → with_front front (samples_of left) ≡ total → total ≡ Ok front
unfolding samples_of
is_done front left total is so_far =
    let one : with_front front (samples_of left) ≡ Ok front = rw is (ap Ok (append-nil front)) in
    sym so_far ∙ one

-- the items from a place on are the value there and those after it
pub left_at : (vs : List Value) (i : ℕ) (v : Value) → v ≡ get_or vs i v → i < length vs → items_view (drop i vs) ≡ item (view v) (items_view (drop (i + 1) vs))
left_at vs i v is h = items_view-drop vs i v h ∙ ap (λ w. item (view w) (items_view (drop (i + 1) vs))) (sym is)

-- past the last there are none
pub left_none : (vs : List Value) (i : ℕ) → length vs ≤ i → items_view (drop i vs) ≡ no_items
left_none vs i h = ap items_view (drop_all i vs h)

-- a turn of the loop that stops at what is no table
pub table_stops : (left rest : Items) (d : Data) (total : Bool) → left ≡ item d rest → false ≡ is_some (as_table d) → are_tables left ≡ total → false ≡ total
unfolding are_tables
table_stops left rest d total is here so_far =
    let one : are_tables left ≡ false = rw (is, ← here) refl in
    sym one ∙ so_far

-- a turn that goes past a table
pub table_goes_on : (left rest : Items) (d : Data) (total : Bool) → left ≡ item d rest → true ≡ is_some (as_table d) → are_tables left ≡ total → are_tables rest ≡ total
unfolding are_tables
table_goes_on left rest d total is here so_far =
    let one : are_tables left ≡ are_tables rest = rw (is, ← here) refl in
    sym one ∙ so_far

-- the end of that loop
pub table_ends : (left : Items) (total : Bool) → left ≡ no_items → are_tables left ≡ total → true ≡ total
unfolding are_tables
table_ends left total is so_far =
    let one : are_tables left ≡ true = rw is refl in
    sym one ∙ so_far

-- the view of a list has as many items
pub count_seen : (vs : List Value) → count_of (items_view vs) ≡ length vs
unfolding count_of
count_seen [] = refl
count_seen (v ∷ vs) = ap suc (count_seen vs)

-- one more at the end is one more
pub one_more : (xs : List SampleEntry) (s : SampleEntry) (i : ℕ) → length xs ≡ i → length (xs ++ s ∷ []) ≡ i + 1
one_more xs s i h = grind (arith, length-append)
