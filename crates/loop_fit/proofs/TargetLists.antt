-- Targets, one after another.
use Rattle.std.proofs.Common.{◌≡◌, ℕ, ◌+◌, ℤ, List, [], ◌∷◌, ◌++◌, Option, sym, ap, ◌∙◌, arith}
use Rattle.std.proofs.lemmas.List.FromFn.{map-range_with_len_more}
use Rattle.adpcm_nums.specs.declared.loop_at.LoopAt.{LoopAt}
use Rattle.loop_fit.specs.Fit.{target_of, targets_of}

-- one target more
pub targets_more : (samples : List ℤ) (looped : Option LoopAt) (front i : ℕ) (done more : List ℤ) (x : ℤ) → done ≡ targets_of samples looped front i
    → x ≡ target_of samples looped front i → more ≡ done ++ x ∷ [] → more ≡ targets_of samples looped front (i + 1)
targets_more samples looped front i done more x so_far here pushed =
    pushed ∙ (ap (λ (xs : List ℤ). xs ++ x ∷ []) so_far ∙ (ap (λ (y : ℤ). targets_of samples looped front i ++ y ∷ []) here
    ∙ sym (map-range_with_len_more (target_of samples looped front) 0 i i (omega arith))))
