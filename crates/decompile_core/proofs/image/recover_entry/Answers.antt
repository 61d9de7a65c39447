use Rattle.std.proofs.Common.{List, ℕ, get_or, sym, ap, ◌∙◌, subst, arith}
use Rattle.brr_machine.specs.Brr.{brr}
use Rattle.player_model.specs.BrrFormat.{brr_format}
use Rattle.snes_directory.specs.Reading.{IsRate}
use Rattle.player_model.specs.Limit.{is_much}
use Rattle.snes_directory.specs.EntryTracks.{blocks_in}
use Rattle.decompile_core.proofs.FileWays.{brr_way}
use Rattle.decompile_core.proofs.Keeping.{few_samples, kept_as, stored_kept}
use Rattle.decompile_core.proofs.Ranges.{brr_heard_fits}
use Rattle.decompile_core.proofs.image.recover_entry.Goals as goal

pub recover-requires-clause-range : goal.recover-requires-clause-range
recover-requires-clause-range c = brr_heard_fits c.in-Ok.track

pub returns-in_ok-recover-in-Ok-clause-kept : goal.returns-in_ok-recover-in-Ok-clause-kept
returns-in_ok-recover-in-Ok-clause-kept c =
    let image = c.args.image.now in
    let rate = subst (λ (rates : List ℕ). IsRate (get_or rates c.args.entry 0)) (sym c.as_slice.ensures) (c.requires.image.rates c.args.entry 0 (omega (arith, c.requires.image.starts, c.requires.within))) in
    let way = brr_way image.memory (get_or image.starts c.args.entry 0) (get_or image.agains c.args.entry 0) c.in-Ok.track (sym c.in-Ok.ensures) in
    let few = few_samples c.in-Ok.track.blocks brr.samples (ap (λ r. is_much (blocks_in r) brr.samples) c.in-Ok.ensures ∙ c.requires.few) in
    kept_as c.in_ok-recover-in-Ok.field-0 _ c.in_ok-recover-in-Ok.ensures
    (stored_kept brr brr_format (get_or c.as_slice.result.now c.args.entry 0) 0 c.in-Ok.track (omega arith) way few rate.some rate.high)
