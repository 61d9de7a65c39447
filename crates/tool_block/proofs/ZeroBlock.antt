-- The best block of filter 0 is legal itself.
use Rattle.std.proofs.Common.{◌≡◌, ℕ, zero, suc, ◌*◌, ◌<◌, List, [], ◌∷◌, length, get_or, ℤ, pos, refl, sym, subst, ◌∙◌, arith, IsTrue}
use Rattle.std.proofs.lemmas.Bool.{eq-eqb}
use Rattle.std.proofs.lemmas.List.{get_or-map, length-map}
use Rattle.adpcm_nums.proofs.LeastLaws.{first_least-is}
use Rattle.machine_core.specs.Blocks.{IsLegal, rule_of, first_only}
use Rattle.brr_machine.specs.Brr.{brr, allows_head, filter_of}
use Rattle.brr_machine.specs.Zero.{zero_head, code_cost, nearest_code, shift_sum, best_shift, zero_block}

best_shift-fits : (ts : List ℤ) → best_shift ts < 16
unfolding best_shift
best_shift-fits ts = (first_least-is (shift_sum ts) 15).within

code-fits : (shift : ℕ) (t : ℤ) → nearest_code shift t < 16
code-fits shift t = (first_least-is (code_cost shift t) 15).within

only : (P : ℕ → Type 0) (b : ℕ) → b < 1 → P 0 → P b
only P zero h p = p
only P (suc b) h p = absurd (omega arith)

pub zero_block-legal : (ts : List ℤ) → length ts ≡ 16 → IsLegal brr 1 first_only (zero_block ts)
zero_block-legal ts len = record {
  in_range = record {
    head_count = refl;
    symbol_count = length-map ts (nearest_code (best_shift ts)) ∙ len;
    heads_fit = λ b h. only (λ x. get_or (4 * best_shift ts ∷ []) x 0 < 64) b h (omega (arith, best_shift-fits ts));
    symbols_fit = λ i h.
        let within : i < length ts = omega (arith, len, h) in
        let same = get_or-map (nearest_code (best_shift ts)) ts i (pos 0) 0 within in
        let P : ℕ → Type 0 = λ n. n < 16 in subst P (sym same) (code-fits (best_shift ts) (get_or ts i (pos 0)));
  };
  obeys = record {
    allowed = λ b h. only (λ x. IsTrue (allows_head (get_or (zero_head (best_shift ts) ∷ []) x 0) (rule_of first_only x))) b h (eq-eqb (filter_of (zero_head (best_shift ts))) 0 (omega arith));
  };
}
