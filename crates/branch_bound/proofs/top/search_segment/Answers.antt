use Rattle.std.proofs.Common.{◌≢◌, ℕ, ◌≤◌, arith, ap, sym, ◌∙◌, refl, subst, Fits, w64, rules}
use Rattle.machine_core.specs.Floors.{top}
use Rattle.bound_cert.specs.Content.{Plain}
use Rattle.open_cells.specs.Paths.{HasLaws, IsWhole}
use Rattle.branch_bound.specs.Keyed.{stored_as}
use Rattle.branch_bound.proofs.Shown.{cert-near, bound-below, level-at}
use Rattle.branch_bound.proofs.Stored.{stored-of}
use Rattle.branch_bound.proofs.top.search_segment.Goals as goal

pub returns-clause-stored : goal.returns-clause-stored
returns-clause-stored g c =
    let m = g.M.Machine.rules c.args.machine.now in
    let laws : HasLaws m = record { machine = g.met.M.Machine.lawful c.args.machine.now; boxed = g.met.M.Machine.boxed c.args.machine.now; filed = c.requires.filed } in
    let k = c.in-Ok-search_levels.ensures in
    let cert = c.in-Ok-search_levels.c in
    let wide : Fits w64 cert.bound = search rules in
    stored-of m laws c.args.targets.now c.args.blocks c.args.best c.args.share cert c.in-Ok-stored.c c.requires.fit c.requires.few c.requires.best k.shown k.level (omega arith) c.requires.few_blocks (omega (arith, wide.fits))
    (c.in-Ok-stored.ensures ∙ ap (λ z. stored_as z cert) c.block_samples.ensures)

pub returns-clause-near : goal.returns-clause-near
returns-clause-near g c =
    let m = g.M.Machine.rules c.args.machine.now in
    let laws : HasLaws m = record { machine = g.met.M.Machine.lawful c.args.machine.now; boxed = g.met.M.Machine.boxed c.args.machine.now; filed = c.requires.filed } in
    let small : c.args.best.sum ≤ top = omega arith in
    let k = c.in-Ok-search_levels.ensures in
    subst (λ (p : Plain). p.level ≢ 255 → (w : ℕ) → w ≤ c.args.best.sum → ((cost : ℕ) → IsWhole m c.args.targets.now c.args.blocks p.level cost → w ≤ cost) → w ≤ p.bound) (sym c.in-Ok-stored.ensures)
    (λ ne. cert-near m laws c.args.targets.now c.args.blocks c.args.best.sum c.args.share c.in-Ok-search_levels.c k.shown.blocks_are k.level ne c.requires.fit c.requires.blocks small
    (k.shown.searched ne) k.shown.cert)

pub returns-clause-least : goal.returns-clause-least
returns-clause-least g c =
    let m = g.M.Machine.rules c.args.machine.now in
    let laws : HasLaws m = record { machine = g.met.M.Machine.lawful c.args.machine.now; boxed = g.met.M.Machine.boxed c.args.machine.now; filed = c.requires.filed } in
    let k = c.in-Ok-search_levels.ensures in
    let level = ap (λ (p : Plain). p.level) c.in-Ok-stored.ensures in
    λ le l legal. (
    let zero = sym level ∙ le in
    let b = bound-below m laws c.args.targets.now c.args.blocks c.in-Ok-search_levels.c k.shown.blocks_are (level-at _ 0 zero refl) k.shown.cert c.requires.fit l legal in
    let o = c.in-Ok-choose.ensures.optimal zero in omega arith)
