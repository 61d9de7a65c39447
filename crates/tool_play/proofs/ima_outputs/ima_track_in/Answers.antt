use Rattle.std.proofs.Common.{◌≡◌, sym, subst, ◌∙◌, arith, List, ℕ, true, false, nat_lt}
use Rattle.std.proofs.lemmas.Bool.{cond-true, cond-false, lt-ltb, le-ltb}
use Rattle.adpcm_nums.specs.Outcome.{Tells}
use Rattle.ima_machine.specs.Ima.{samples_in}
use Rattle.player_model.specs.ImaTrack.{IsImaSound, blocks_of}
use Rattle.command_faults.specs.declared.status.Status.TheVariants.{Input, Memory}
use Rattle.command_faults.specs.declared.input_fault.InputFault.TheVariants.{TooMuch, NoEntry}
use Rattle.player_model.specs.Limit.{is_much}
use Rattle.tool_play.specs.Play.{ima_track_in}
use Rattle.tool_play.proofs.PlaySteps.{is_sound, much_at, sound_found, told_refused}
use Rattle.tool_play.proofs.ima_outputs.ima_track_in.Goals as goal

pub ima_track-requires-clause-sound : goal.ima_track-requires-clause-sound
ima_track-requires-clause-sound c =
    let said = c.args.said.now in
    subst (λ (bs : List ℕ). IsImaSound (record { align = said.align; bytes = bs; frames = said.frames; loop_at = said.at })) (sym c.as_slice.ensures) (is_sound said c.requires.kept)

pub returns-then-is_much : goal.returns-then-is_much
returns-then-is_much c =
    let said = c.args.said.now in
    let file = c.args.file.now in
    let track = c.in-Ok.track in
    let s = c.input_refused-then-is_much.result in
    let much : is_much (blocks_of track) (samples_in said.align) ≡ true =
    much_at c.blocks-blocks.result c.block_samples-samples.result (blocks_of track) (samples_in said.align) c.is_much.result true c.is_much.ensures c.blocks-blocks.ensures c.block_samples-samples.ensures c.if-is_much.true in
    told_refused (ima_track_in file said c.args.entry) s (Input file (TooMuch (blocks_of track)))
    (subst (λ (n : ℕ). Tells Memory s (Input file (TooMuch n))) (c.from-blocks.ensures ∙ c.blocks-blocks.ensures) c.input_refused-then-is_much.ensures)
    (sound_found file said c.args.entry c.as_slice.result.now track c.as_slice.ensures c.in-Ok.ensures ∙ cond-true _ _ _ much)

pub returns-then-entry-ge1 : goal.returns-then-entry-ge1
returns-then-entry-ge1 c =
    let said = c.args.said.now in
    let file = c.args.file.now in
    let track = c.in-Ok.track in
    let few : is_much (blocks_of track) (samples_in said.align) ≡ false =
    much_at c.blocks-blocks.result c.block_samples-samples.result (blocks_of track) (samples_in said.align) c.is_much.result false c.is_much.ensures c.blocks-blocks.ensures c.block_samples-samples.ensures c.if-is_much.false in
    let past : nat_lt c.args.entry 1 ≡ false = le-ltb c.args.entry 1 (omega arith) in
    told_refused (ima_track_in file said c.args.entry) c.input_refused-then-entry-ge1.result (Input file (NoEntry c.args.entry 1)) c.input_refused-then-entry-ge1.ensures
    (sound_found file said c.args.entry c.as_slice.result.now track c.as_slice.ensures c.in-Ok.ensures ∙ (cond-false _ _ _ few ∙ cond-false _ _ _ past))

pub returns : goal.returns
returns c =
    let said = c.args.said.now in
    let file = c.args.file.now in
    let track = c.in-Ok.track in
    let few : is_much (blocks_of track) (samples_in said.align) ≡ false =
    much_at c.blocks-blocks.result c.block_samples-samples.result (blocks_of track) (samples_in said.align) c.is_much.result false c.is_much.ensures c.blocks-blocks.ensures c.block_samples-samples.ensures c.if-is_much.false in
    let there : nat_lt c.args.entry 1 ≡ true = lt-ltb c.args.entry 1 (omega arith) in
    sound_found file said c.args.entry c.as_slice.result.now track c.as_slice.ensures c.in-Ok.ensures ∙ (cond-false _ _ _ few ∙ cond-true _ _ _ there)
