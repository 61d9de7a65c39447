use Rattle.std.proofs.Common.{◌≡◌, ap, sym, ◌∙◌, subst}
use Rattle.std.specs.Prelude.{None}
use Rattle.adpcm_nums.specs.Sample.{AreSamples}
use Rattle.player_model.specs.ImaTrack.{ImaSound, first_outputs}
use Rattle.decompile_core.specs.Decompiled.{frames_of}
use Rattle.decompile_core.proofs.ImaSteps.{frames_samples, ima_found, outputs_long}
use Rattle.decompile_core.proofs.Keeping.{frames_few}
use Rattle.decompile_core.proofs.ima.ima_track_in.Goals as goal

pub returns-else-is_much-clause-once : goal.returns-else-is_much-clause-once
returns-else-is_much-clause-once c = ap (λ (t : ImaSound). t.loop_at) (ima_found _ c.in-Ok.track c.in-Ok.ensures)

pub returns-else-is_much-clause-range : goal.returns-else-is_much-clause-range
returns-else-is_much-clause-range c =
    let file = c.args.file.now in
    let track : c.in-Ok.track ≡ frames_of file =
    ima_found _ c.in-Ok.track c.in-Ok.ensures ∙ ap (λ bs. record { align = file.align; bytes = bs; frames = file.frames; loop_at = None }) c.as_slice.ensures in
    subst (λ (t : ImaSound). AreSamples (first_outputs t)) (sym track) (frames_samples file c.requires.kept)

pub returns-else-is_much-clause-long : goal.returns-else-is_much-clause-long
returns-else-is_much-clause-long c = outputs_long c.in-Ok.track ∙ ap (λ (t : ImaSound). t.frames) (ima_found _ c.in-Ok.track c.in-Ok.ensures)

pub returns-else-is_much-clause-short : goal.returns-else-is_much-clause-short
returns-else-is_much-clause-short c =
    let file = c.args.file.now in
    let track : c.in-Ok.track ≡ frames_of file =
    ima_found _ c.in-Ok.track c.in-Ok.ensures ∙ ap (λ bs. record { align = file.align; bytes = bs; frames = file.frames; loop_at = None }) c.as_slice.ensures in
    frames_few file c.in-Ok.track c.blocks-blocks.result c.block_samples-samples.result c.requires.kept track c.blocks-blocks.ensures c.block_samples-samples.ensures (sym c.is_much.ensures ∙ c.if-is_much.false)
