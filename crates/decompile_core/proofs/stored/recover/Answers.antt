use Rattle.std.proofs.Common.{ap, ◌∙◌, refl}
use Rattle.player_model.specs.Sound.{Playing}
use Rattle.decompile_core.proofs.Ranges.{played_samples}
use Rattle.decompile_core.proofs.RecoverSteps.{looped_is}
use Rattle.decompile_core.proofs.stored.recover.Goals as goal

pub from_vec-requires : goal.from_vec-requires
from_vec-requires g c =
    played_samples g.S.StoredFormat.decoder g.S.StoredFormat.format c.args.track c.new-player.result.track _ c.play_on.new.samples.items
    (ap (λ (p : Playing). p.track) c.new-player.ensures) c.in_ok-play_on.ensures.played c.requires.range

pub with_loop-requires-clause-range : goal.with_loop-requires-clause-range
with_loop-requires-clause-range g c =
    played_samples g.S.StoredFormat.decoder g.S.StoredFormat.format c.args.track c.play_on.new.player.track _ c.settle.new.samples.items
    (ap (λ (p : Playing). p.track) c.in_ok-play_on.ensures.player ∙ ap (λ (p : Playing). p.track) c.new-player.ensures) c.in_ok-settled-in-Some.ensures.kept c.requires.range

pub returns-in_ok-settled-in-Some : goal.returns-in_ok-settled-in-Some
returns-in_ok-settled-in-Some g c =
    looped_is g.S.StoredFormat.decoder g.S.StoredFormat.format c.args.rate c.args.trailing c.args.track c.play_on.new.player.track c.in-Some.block c.block_samples-in_block.result c.blocks-2.result _ _
    c.in_ok-settled-in-Some.settled c.with_loop.result (ap (λ (p : Playing). p.track) c.in_ok-play_on.ensures.player ∙ ap (λ (p : Playing). p.track) c.new-player.ensures)
    c.in-Some.ensures.value refl c.block_samples-in_block.ensures.value c.blocks-2.ensures.value
    c.in_ok-settled-in-Some.ensures.settled c.in_ok-settled-in-Some.ensures.kept c.with_loop.ensures
