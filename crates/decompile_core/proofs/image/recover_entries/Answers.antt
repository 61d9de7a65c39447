use Rattle.std.proofs.Common.{arith, refl, sym, subst}
use Rattle.adpcm_nums.proofs.FirstLaws.{none_passes}
use Rattle.std.specs.Prelude.{length, All}
use Rattle.std.proofs.lemmas.List.Elements.{All-nil, All-push}
use Rattle.decompile_core.specs.Recovered.{IsEntry}
use Rattle.snes_directory.specs.EntryTracks.{is_long}
use Rattle.decompile_core.proofs.EntrySteps.{entries_more, no_entries}
use Rattle.decompile_core.proofs.FileSounds.{entries_each}
use Rattle.decompile_core.proofs.image.recover_entries.Goals as goal

pub loop-i-init : goal.loop-i-init
loop-i-init c = record {
  so_far = no_entries c.args.image.now c.new-list.result.items c.new-list.ensures.items;
  kept = subst (All IsEntry) (sym c.new-list.ensures.items) (All-nil IsEntry);
}

pub recover_entry-requires-clause-few : goal.recover_entry-requires-clause-few
recover_entry-requires-clause-few c =
    none_passes (is_long c.args.image.now) (length c.args.image.now.starts) c.loop-i.i c.requires.few (omega arith)

pub loop-i-preserved : goal.loop-i-preserved
loop-i-preserved c = record {
  so_far = entries_more c.args.image.now c.loop-i.i _ c.loop-i.list.items c.push.new.self.items _ c.loop-i.invariant.so_far c.in-Ok.ensures.exact c.in-Ok-push.ensures.items refl;
  kept = subst (All IsEntry) (sym c.in-Ok-push.ensures.items) (All-push IsEntry c.loop-i.list.items c.in-Ok.entry c.loop-i.invariant.kept c.in-Ok.ensures.kept);
}

pub returns-clause-count : goal.returns-clause-count
returns-clause-count c =
    let are = entries_each c.args.image.now c.loop-i.i c.loop-i.list.items c.loop-i.invariant.so_far in
    omega (arith, are.count, c.entries-i-end.ensures)
