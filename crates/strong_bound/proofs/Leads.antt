-- Where codes that are taken one by one lead.
use Rattle.std.proofs.Common.{◌≡◌, ℕ, zero, suc, ◌<◌, arith, ap, sym, subst, IsTrue}
use Rattle.std.specs.Prelude.{ℤ}
use Rattle.adpcm_nums.specs.Least.{first_least}
use Rattle.adpcm_nums.proofs.LeastLaws.{first_least-is}
use Rattle.machine_core.specs.declared.state.State.{State}
use Rattle.machine_core.specs.declared.taken.Taken.{Taken}
use Rattle.machine_core.specs.Nearest.{symbol_cost, nearest_symbol, taken}
use Rattle.machine_core.specs.Rules.{Rules, IsMachine}

first-within : (f : ℕ → ℕ) (n : ℕ) → 0 < n → first_least f n < n
first-within f zero some = absurd (omega (arith, some))
first-within f (suc n) some = (first_least-is f n).within

-- the nearest symbol leads to a state
pub nearest-leads : (r : Rules) → IsMachine r → (head p : ℕ) (from : State) (target : ℤ) (t : Taken) → t ≡ taken r.decoder head p from target
    → head < r.decoder.heads → p < r.decoder.samples → IsTrue (r.decoder.is_state from) → IsTrue (r.decoder.is_state t.state)
nearest-leads r laws head p from target t e head_fits within at =
    let symbol = first-within (symbol_cost r.decoder head p from target) (r.decoder.symbols p) (laws.some_symbols p within) in
    subst (λ (s : State). IsTrue (r.decoder.is_state s)) (sym (ap (λ (z : Taken). z.state) e)) (laws.steps head p (nearest_symbol r.decoder head p from target) from head_fits within symbol at)
