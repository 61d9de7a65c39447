-- A block of a list has a head and symbols of the decoder, and its written flags are flags of its format.
use Rattle.std.proofs.Common.{◌≡◌, sym, ◌∙◌}
use Rattle.block_flags.proofs.FlagLaws.{flags_fit}
use Rattle.player_model.proofs.StoredBytes.{fits-block}
use Rattle.bank_kinds.specs.Chosen.{list_of}
use Rattle.bank_kinds.proofs.spell.push_stored.Goals as goal

pub push_block-requires-clause-fits : goal.push_block-requires-clause-fits
push_block-requires-clause-fits g c =
    rw (c.as_slice.ensures, c.as_slice-2.ensures, c.block_samples-samples.ensures)
    (fits-block (g.C.Machine.rules c.args.codec.now).decoder (list_of c.args.choice.now) c.args.blocks c.args.b c.requires.in_range c.requires.block)

pub push_block-requires-clause-flags : goal.push_block-requires-clause-flags
push_block-requires-clause-flags g c =
    let kind : c.kind.result ≡ (g.C.Stored.format c.args.codec.now).kind = c.kind.ensures ∙ sym (g.met.C.Stored.stored c.args.codec.now).kind_is in
    rw (c.written_flags-flags.ensures, kind) (flags_fit (g.C.Stored.format c.args.codec.now).kind c.args.b c.args.blocks c.args.loop_block)

pub returns : goal.returns
returns g c =
    let kind : c.kind.result ≡ (g.C.Stored.format c.args.codec.now).kind = c.kind.ensures ∙ sym (g.met.C.Stored.stored c.args.codec.now).kind_is in
    rw (c.written_flags-flags.ensures, kind, c.as_slice.ensures, c.as_slice-2.ensures, c.block_samples-samples.ensures) at c.push_block.ensures
