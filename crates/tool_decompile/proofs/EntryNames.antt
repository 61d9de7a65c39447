-- The files of entries have different names, so each holds what was stored under its own.
use Rattle.std.proofs.Common.{◌≡◌, ◌≤◌, ◌<◌, ◌^◌, ℕ, suc, zero, ◌+◌, List, [], ◌∷◌, ◌++◌, length, get_or, false, Some, slice_get, codes, decimal, refl, ap, ◌∙◌, arith}
use Rattle.std.specs.List.{AllByRecursion, IsDistinct}
use Rattle.std.specs.Str.{bytes_eq}
use Rattle.std.proofs.lemmas.Bool.{false_from_ne_true}
use Rattle.std.proofs.lemmas.Fmt.{decimal_injective}
use Rattle.std.proofs.lemmas.List.{append_cancel_left, append_cancel_right}
use Rattle.std.proofs.lemmas.Slice.Eq.{bytes_eq-Decides}
use Rattle.decompile_core.specs.declared.recovered.Recovered.{Recovered}
use Rattle.command_plan.specs.Plan.{names_in}
use Rattle.tool_decompile.specs.EntryFiles.{entry_file, entry_files, entry_name}

number_is : (output : List ℕ) (i j : ℕ) → i < 2 ^ 64 → j < 2 ^ 64 → entry_name output i ≡ entry_name output j → i ≡ j
unfolding entry_name
number_is output i j h k e =
    let behind = append_cancel_left output (codes "." ++ (decimal i ++ codes ".wav")) (codes "." ++ (decimal j ++ codes ".wav")) e in
    let number = append_cancel_left (codes ".") (decimal i ++ codes ".wav") (decimal j ++ codes ".wav") behind in
    decimal_injective i j h k (append_cancel_right (decimal i) (decimal j) (codes ".wav") number)

others : (output : List ℕ) (i j : ℕ) (entries : List Recovered) → i < j → j + length entries ≤ 2 ^ 64 → AllByRecursion (λ name. bytes_eq (entry_name output i) name ≡ false) (names_in (entry_files output j entries))
unfolding entry_files
others output i j [] h few = tt
others output i j (entry ∷ entries) h few = (
  false_from_ne_true _ (λ same. let e = number_is output i j (omega (arith, h, few)) (omega (arith, few)) ((bytes_eq-Decides (entry_name output i) (entry_name output j)).0 same) in omega (arith, h, e)),
  others output i (suc j) entries (omega (arith, h)) (omega (arith, few)),
)

distinct_from : (output : List ℕ) (i : ℕ) (entries : List Recovered) → i + length entries ≤ 2 ^ 64 → IsDistinct bytes_eq (names_in (entry_files output i entries))
unfolding entry_files IsDistinct
distinct_from output i [] few = tt
distinct_from output i (entry ∷ entries) few = (others output i (suc i) entries (omega arith) (omega (arith, few)), distinct_from output (suc i) entries (omega (arith, few)))

pub names_distinct : (output : List ℕ) (entries : List Recovered) → length entries ≤ 64 → IsDistinct bytes_eq (names_in (entry_files output 0 entries))
names_distinct output entries few = distinct_from output 0 entries (omega (arith, few))

file_from : (output : List ℕ) (i : ℕ) (entries : List Recovered) (j : ℕ) (other : Recovered) → j < length entries → slice_get (entry_files output i entries) j ≡ Some (entry_file output (i + j) (get_or entries j other))
unfolding entry_files
file_from output i [] j other h = let no : ⊥ = omega (arith, h) in absurd no
file_from output i (entry ∷ entries) zero other h = ap (λ n. Some (entry_file output n entry)) (let e : i ≡ i + 0 = omega arith in e)
file_from output i (entry ∷ entries) (suc j) other h =
    file_from output (suc i) entries j other (omega (arith, h)) ∙ ap (λ n. Some (entry_file output n (get_or entries j other))) (let e : suc i + j ≡ i + suc j = omega arith in e)

-- file j
pub file_at : (output : List ℕ) (entries : List Recovered) (j : ℕ) (other : Recovered) → j < length entries → slice_get (entry_files output 0 entries) j ≡ Some (entry_file output j (get_or entries j other))
file_at output entries j other h = file_from output 0 entries j other h ∙ ap (λ n. Some (entry_file output n (get_or entries j other))) (let e : 0 + j ≡ j = omega arith in e)

names_from : (output : List ℕ) (i : ℕ) (entries : List Recovered) → length (names_in (entry_files output i entries)) ≡ length entries
unfolding entry_files
names_from output i [] = refl
names_from output i (entry ∷ entries) = ap suc (names_from output (suc i) entries)

-- there is one for each entry
pub names_count : (output : List ℕ) (entries : List Recovered) → length (names_in (entry_files output 0 entries)) ≡ length entries
names_count output entries = names_from output 0 entries
