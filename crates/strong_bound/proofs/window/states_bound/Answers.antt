use Rattle.std.proofs.Common.{arith, ap, subst, ◌≡◌, ◌+◌, ◌-◌, ◌*◌, ℕ}
use Rattle.std.specs.Prelude.{slice_range}
use Rattle.machine_core.proofs.Places.{block-ends}
use Rattle.linear_machine.proofs.Outputs.{output-stays}
use Rattle.strong_bound.proofs.QuietWindows.{Keeps, quiet-counted, later-enough, read-target}
use Rattle.strong_bound.proofs.window.states_bound.Goals as goal

pub returns-clause-below : goal.returns-clause-below
returns-clause-below g c =
    let l = g.M.LinearMachine.linear c.args.machine.now in
    let r = g.M.Machine.rules c.args.machine.now in
    let laws = g.met.M.LinearMachine.is_linear c.args.machine.now in
    let keeps : Keeps r.decoder = subst Keeps laws.1 (λ list i. output-stays l laws.0 list _ i) in
    let targets = c.args.targets.now in
    let b = c.args.block in
    let samples = c.block_samples-samples.result in
    let n = r.decoder.samples in
    let count : samples ≡ n = c.block_samples-samples.ensures in
    let first : b * samples ≡ b * n = ap (λ (z : ℕ). b * z) count in
    let enough = later-enough n b c.requires.some c.requires.later in
    let ends = block-ends b n c.args.blocks c.requires.within in
    let own = ap (λ (z : ℕ). slice_range targets (b * z) (b * z + z)) count in
    let older = read-target targets c.requires.range (b * samples - 2) (b * n - 2) (omega (arith, first)) (omega (arith, first, ends, enough, c.requires.count, c.requires.some)) in
    let last = read-target targets c.requires.range (b * samples - 1) (b * n - 1) (omega (arith, first)) (omega (arith, first, ends, enough, c.requires.count, c.requires.some)) in
    λ fixed list ruled legal. quiet-counted r (g.met.M.Machine.lawful c.args.machine.now) keeps c.args.rule c.leaving-leaving.result fixed c.args.blocks b c.quiet_bound.result list legal c.requires.some
    targets (slice_range targets (b * samples) (b * samples + samples)) _ c.requires.later c.requires.within ruled c.leaving-leaving.ensures (omega (arith, c.entering.ensures.value, c.if-entering-eq0.false)) own older last c.quiet_bound.ensures.under
