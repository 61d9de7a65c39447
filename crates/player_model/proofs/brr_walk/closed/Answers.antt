use Rattle.std.proofs.Common.{ℕ, ◌/◌, ◌%◌, sym, ap, ◌∙◌}
use Rattle.std.specs.Prelude.{◌==◌}
use Rattle.std.proofs.lemmas.Bool.{eqb-true}
use Rattle.player_model.proofs.BrrWalks.{is_track, loop_is}
use Rattle.player_model.proofs.brr_walk.closed.Goals as goal
use Rattle.player_model.proofs.brr_walk.closed.Goals.{else-repeats-via-then-repeats+else-not-is_of_block, else-repeats-via-else-repeats}

pub invariant_of-result : goal.invariant_of-result
invariant_of-result c =
    let track = is_track c.args.memory.now c.args.start c.args.again c.args.last (λ i. (c.type_inv.memory i).fits) c.requires.last (λ repeats. elim c.else-repeats.branch [
      | else-repeats-via-then-repeats+else-not-is_of_block w ↦ sym w.is_of_block.ensures ∙ w.if-not-is_of_block.false
      | else-repeats-via-else-repeats w ↦ absurd (w.if-repeats.false (ap (λ (n : ℕ). n / 2 % 2) c.flags_at.ensures.value ∙ eqb-true _ _ repeats))
    ]) in
    let loop = loop_is c.args.memory.now c.args.start c.args.again c.args.last _ (ap (λ (n : ℕ). n / 2 % 2 == 1) c.flags_at.ensures.value) in
    (track, c.requires.small, c.loop_of.ensures ∙ loop)
