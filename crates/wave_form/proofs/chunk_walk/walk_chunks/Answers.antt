use Rattle.std.proofs.Common.{false, length, sym, ◌∙◌, ap, arith, subst}
use Rattle.std.specs.Prelude.{IfOk}
use Rattle.std.proofs.lemmas.Result.{err_from_is_err_and}
use Rattle.wave_form.specs.Heads.{heads_of}
use Rattle.wave_form.specs.Walk.{AllLieIn}
use Rattle.wave_form.proofs.Faults.{all_lie}
use Rattle.wave_form.proofs.Walking.{verdict, goes_on, stops, ends}
use Rattle.wave_form.proofs.chunk_walk.walk_chunks.Goals as goal

pub loop-at-init : goal.loop-at-init
loop-at-init c = record {
  place = omega arith;
  left = (length c.args.file.now, omega arith, ap (λ seen. verdict (length c.args.file.now) seen (heads_of c.args.file.now)) c.none-seen.ensures);
}

pub loop-at-preserved : goal.loop-at-preserved
loop-at-preserved c =
    let more = goes_on c.args.file.now c.loop-at.at c.in_ok-more.next c.loop-at.seen c.in_ok-more.more _ c.loop-at-test.true (sym (c.walk_chunk.ensures) ∙ c.in_ok-more.was) c.loop-at.invariant.left in
    record { place = more.1; left = more.2 }

pub returns-in_err-more-clause-exact : goal.returns-in_err-more-clause-exact
returns-in_err-more-clause-exact c =
    let same = err_from_is_err_and c.from_residual.result c.from_residual.ensures.1 in
    rw (same.1, same.2) (sym (stops c.args.file.now c.loop-at.at c.loop-at.seen c.in_err-more.field-0.0 _ c.loop-at-test.true (sym (c.walk_chunk.ensures) ∙ c.in_err-more.was) c.loop-at.invariant.left))

pub returns-clause-exact : goal.returns-clause-exact
returns-clause-exact c = sym (ends c.args.file.now c.loop-at.at c.loop-at.seen _ c.loop-at-test.false c.loop-at.invariant.left)

pub returns-clause-within : goal.returns-clause-within
returns-clause-within c =
    let file = c.args.file.now in
    let ended = ends file c.loop-at.at c.loop-at.seen _ c.loop-at-test.false c.loop-at.invariant.left in
    subst (λ r. IfOk r (AllLieIn (length file))) ended (all_lie (length file) false (heads_of file))
