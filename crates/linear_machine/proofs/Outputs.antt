-- The outputs of a list of blocks, each after the two before it.
use Rattle.std.proofs.Common.{◌≡◌, ℕ, zero, suc, ◌%◌, ◌<◌, arith, ap, sym, subst}
use Rattle.std.proofs.lemmas.Int.{ints}
use Rattle.adpcm_nums.specs.Sample.{IsSample}
use Rattle.machine_core.specs.declared.state.State.{State}
use Rattle.machine_core.specs.Decoder.{start}
use Rattle.machine_core.specs.Blocks.{Blocks, head_at, symbol_at, state_at, output_at}
use Rattle.window_floor.specs.Clamps.{MayCome}
use Rattle.linear_machine.specs.Linear.{Linear, IsLinear}

pub output-follows : (l : Linear) → IsLinear l → (list : Blocks) (from : State) (i : ℕ) → symbol_at list i < 16
    → MayCome (l.windows (head_at l.decoder list i)) (state_at l.decoder list from i).b (state_at l.decoder list from i).a (output_at l.decoder list from i)
output-follows l is list from i within =
    let head = head_at l.decoder list i in
    let at = state_at l.decoder list from i in
    let step = is.steps head (i % l.decoder.samples) (symbol_at list i) at in
    subst (MayCome (l.windows head) at.b at.a) (sym (ap (λ (s : State). s.a) step)) (is.outcome head (symbol_at list i) at.a at.b within)

pub output-stays : (l : Linear) → IsLinear l → (list : Blocks) (from : State) (i : ℕ) → (state_at l.decoder list from (suc i)).b ≡ (state_at l.decoder list from i).a
output-stays l is list from i = ap (λ (s : State). s.b) (is.steps (head_at l.decoder list i) (i % l.decoder.samples) (symbol_at list i) (state_at l.decoder list from i))

-- from the start on the states have 16 bits
pub states-fit : (l : Linear) → IsLinear l → (list : Blocks) (i : ℕ) → IsSample (state_at l.decoder list start i).b × IsSample (state_at l.decoder list start i).a
states-fit l is list zero = (record { low = omega (arith, ints); high = omega (arith, ints) }, record { low = omega (arith, ints); high = omega (arith, ints) })
states-fit l is list (suc i) =
    let head = head_at l.decoder list i in
    let at = state_at l.decoder list start i in
    let step = is.steps head (i % l.decoder.samples) (symbol_at list i) at in
    let before = states-fit l is list i in
    (subst IsSample (sym (output-stays l is list start i)) before.1, subst IsSample (sym (ap (λ (s : State). s.a) step)) (is.range head (symbol_at list i) at.a at.b))
