-- The lists of segments, one after another, as one list.
use Rattle.std.proofs.Common.{◌≡◌, ℕ, List, [], ◌∷◌, ◌++◌, refl, sym, ap, ◌∙◌}
use Rattle.std.specs.List.{flat_map}
use Rattle.machine_core.specs.Blocks.{Blocks}
use Rattle.branch_bound.specs.declared.top.Found.{Found}
use Rattle.bank_compile.specs.Sample.{list_in}

-- the heads of all, and the symbols of all
abbrev pub all_heads : List Found → List ℕ
all_heads fs = flat_map (λ f. f.choice.heads) fs

abbrev pub all_symbols : List Found → List ℕ
all_symbols fs = flat_map (λ f. f.choice.symbols) fs

pub list_in-is : (fs : List Found) → list_in fs ≡ record { heads = all_heads fs; symbols = all_symbols fs }
list_in-is [] = refl
list_in-is (f ∷ fs) = ap (λ (l : Blocks). record { heads = f.choice.heads ++ l.heads; symbols = f.choice.symbols ++ l.symbols }) (list_in-is fs)

-- what a loop over them has taken over
pub joined-list : (heads symbols : List ℕ) (fs : List Found) → heads ≡ all_heads fs → symbols ≡ all_symbols fs → record { heads = heads; symbols = symbols } ≡ list_in fs
joined-list heads symbols fs h s =
    let mk : List ℕ → List ℕ → Blocks = λ a b. record { heads = a; symbols = b } in
    ap (λ a. mk a symbols) h ∙ (ap (mk (all_heads fs)) s ∙ sym (list_in-is fs))
