-- The least floor of the heads that a rule allows, head after head.
use Rattle.std.proofs.Common.{◌≡◌, ℕ, ◌+◌, min, true, false, sym, ◌∙◌, arith, List}
use Rattle.std.specs.Prelude.{ℤ}
use Rattle.std.proofs.lemmas.Bool.{cond-true, cond-false}
use Rattle.adpcm_nums.specs.LeastValue.{least}
use Rattle.adpcm_nums.proofs.LeastValueLaws.{least-above, least_more}
use Rattle.machine_core.specs.declared.state.HeadRule.{HeadRule}
use Rattle.machine_core.specs.Rules.{Rules}
use Rattle.machine_core.specs.Floors.{allowed_floor, top}

-- a number that is the floor, or that is with it no less than the best so far
same-least : (best v f : ℕ) → min v best ≡ min f best → min best v ≡ min best f
same-least best v f e = grind arith

-- one more head, which the rule allows
pub least-allowed : (r : Rules) (rule : HeadRule) (targets : List ℤ) (head best v : ℕ) → r.decoder.allows head rule ≡ true → best ≡ least head (allowed_floor r rule targets) top
    → min v best ≡ min (r.floor head 0 r.whole targets) best → min best v ≡ least (head + 1) (allowed_floor r rule targets) top
least-allowed r rule targets head best v allowed so_far below =
    let here : allowed_floor r rule targets head ≡ r.floor head 0 r.whole targets = cond-true _ _ _ allowed in
    same-least best v (r.floor head 0 r.whole targets) below ∙ least_more head (allowed_floor r rule targets) top best (r.floor head 0 r.whole targets) so_far (sym here)

-- one that it does not allow
pub least-forbidden : (r : Rules) (rule : HeadRule) (targets : List ℤ) (head best : ℕ) → r.decoder.allows head rule ≡ false → best ≡ least head (allowed_floor r rule targets) top
    → best ≡ least (head + 1) (allowed_floor r rule targets) top
least-forbidden r rule targets head best forbidden so_far =
    let here : allowed_floor r rule targets head ≡ top = cond-false _ _ _ forbidden in
    let more = least_more head (allowed_floor r rule targets) top best top so_far (sym here) in
    let above = least-above head (allowed_floor r rule targets) top in
    let stays : best ≡ min best top = grind (arith, so_far, above) in
    stays ∙ more
