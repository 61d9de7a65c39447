use Rattle.std.proofs.Common.{arith}
use Rattle.std.proofs.lemmas.Result.{err_from_is_err_and}
use Rattle.command_plan.specs.Read.{whole_read}
use Rattle.command_plan.proofs.ReadOn.{fetched_first}
use Rattle.command_plan.proofs.Tests.{too_long, is_read}
use Rattle.command_plan.proofs.fetch.fetch_whole.Goals as goal

pub returns-in_err-bytes-clause-told : goal.returns-in_err-bytes-clause-told
returns-in_err-bytes-clause-told g c = λ files told.
    let p = err_from_is_err_and c.from_residual.result c.from_residual.ensures.1 in
    rw (p.1, p.2) (
    fetched_first c.args.name.now (whole_read files c.args.name.now c.args.most c.args.too_long).gives
    (g.H.Host.world c.args.host.now) (g.H.Host.world c.fetch_front.new.host) c.in_err-bytes.field-0.0 (c.in_err-bytes.ensures.told files told))

pub returns-then-len-most-clause-told : goal.returns-then-len-most-clause-told
returns-then-len-most-clause-told g c = λ files told.
    let got = c.in_ok-bytes.ensures.told files told in
    too_long files c.args.name.now c.in_ok-bytes.bytes.items c.args.most c.args.too_long _ (g.H.Host.world c.args.host.now) (g.H.Host.world c.fetch_front.new.host)
    got.0.quiet got.1 (omega arith) c.input_refused.ensures

pub returns-clause-told : goal.returns-clause-told
returns-clause-told g c = λ files told.
    let got = c.in_ok-bytes.ensures.told files told in
    is_read files c.args.name.now c.in_ok-bytes.bytes.items c.args.most c.args.too_long (g.H.Host.world c.args.host.now) (g.H.Host.world c.fetch_front.new.host) got.0.quiet got.1 (omega arith)
