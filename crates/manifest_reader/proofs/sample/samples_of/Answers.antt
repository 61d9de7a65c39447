use Rattle.std.proofs.lemmas.Result.{err_from_is_err_and}
use Rattle.std.proofs.lemmas.List.Elements.{All-push}
use Rattle.toml.specs.View.{view}
use Rattle.manifest_reader.specs.Ranges.{IsEntry}
use Rattle.manifest_reader.proofs.Rows.{one_more, goes_on, ends, is_done, left_at, left_none}
use Rattle.manifest_reader.proofs.sample.samples_of.Goals as goal

pub returns-in_err-sample-clause-value : goal.returns-in_err-sample-clause-value
returns-in_err-sample-clause-value c =
    let left = left_at c.args.values.now c.loop-value.value-index c.value-item.result c.value-item.is c.loop-value-test.true in
    let p = err_from_is_err_and c.from_residual.result c.from_residual.ensures.1 in
    rw (p.1, p.2) (ends c.loop-value.samples.items _ _ (view c.value-item.result) c.in_err-sample.field-0.0 _ left c.in_err-sample.ensures.value c.loop-value.invariant.0)

pub loop-value-preserved : goal.loop-value-preserved
loop-value-preserved c =
    let left = left_at c.args.values.now c.loop-value.value-index c.value-item.result c.value-item.is c.loop-value-test.true in
    rw c.in_ok-push.ensures.items (
      goes_on c.loop-value.samples.items _ _ (view c.value-item.result) c.in_ok-sample.sample _ left c.in_ok-sample.ensures.value c.loop-value.invariant.0,
      All-push IsEntry c.loop-value.samples.items c.in_ok-sample.sample c.loop-value.invariant.1 c.in_ok-sample.ensures.fits,
      one_more c.loop-value.samples.items c.in_ok-sample.sample _ c.loop-value.invariant.2,
    )

pub returns-clause-value : goal.returns-clause-value
returns-clause-value c = is_done c.loop-value.samples.items _ _ (left_none c.args.values.now c.loop-value.value-index c.loop-value-test.false) c.loop-value.invariant.0
