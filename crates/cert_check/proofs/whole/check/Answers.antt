use Rattle.machine_core.specs.Blocks.{first_only}
use Rattle.machine_core.specs.Sums.{sum_of}
use Rattle.cert_check.specs.Layers.{certificate_in}
use Rattle.cert_check.proofs.Accept.{accepted, bound}
use Rattle.cert_check.proofs.Refused.{refused}
use Rattle.cert_check.proofs.Ready.{layers-ready, level-ready}
use Rattle.cert_check.proofs.whole.check.Goals as goal

pub check_parts-requires-clause-level : goal.check_parts-requires-clause-level
check_parts-requires-clause-level g c = λ some. level-ready (g.M.Machine.rules c.args.machine.now) c.args.segment.now c.requires.fits some

pub check_parts-requires-clause-layers : goal.check_parts-requires-clause-layers
check_parts-requires-clause-layers g c = layers-ready (g.M.Machine.rules c.args.machine.now) c.args.segment.now c.requires.filed c.requires.fits

pub returns-in-Ok-clause-accepted : goal.returns-in-Ok-clause-accepted
returns-in-Ok-clause-accepted g c =
    let m = g.M.Machine.rules c.args.machine.now in
    let s = c.args.segment.now in
    accepted m c.args.targets.now s.level s.blocks s.layers (layers-ready m s c.requires.filed c.requires.fits) c.in-Ok.ensures.ok

pub returns-in-Ok-clause-bound : goal.returns-in-Ok-clause-bound
returns-in-Ok-clause-bound g c = λ list legal.
    (let m = g.M.Machine.rules c.args.machine.now in
    let s = c.args.segment.now in
    let laws = g.met.M.Machine.lawful c.args.machine.now in
    let boxed = g.met.M.Machine.boxed c.args.machine.now in
    let are = layers-ready m s c.requires.filed c.requires.fits in
    let is = accepted m c.args.targets.now s.level s.blocks s.layers are c.in-Ok.ensures.ok in
    bound m c.args.targets.now s.level s.blocks c.in-Ok.v (sum_of m.decoder list c.args.targets.now s.blocks) s.layers (level-ready m s c.requires.fits)
    (c.floors_hold.ensures m first_only s.blocks c.args.targets.now list laws legal c.requires.count c.requires.range)
    (λ level. c.accepted_values_hold.ensures m c.args.targets.now (certificate_in m s) list laws boxed level legal c.requires.count c.requires.range is)
    c.in-Ok.ensures.value)

pub returns-in-Err-clause-refused : goal.returns-in-Err-clause-refused
returns-in-Err-clause-refused g c = λ is.
    (let m = g.M.Machine.rules c.args.machine.now in
    let s = c.args.segment.now in
    refused m c.args.targets.now s.level s.blocks s.layers c.in-Err.e (layers-ready m s c.requires.filed c.requires.fits) c.requires.fits.sorted c.in-Err.ensures.err is)
