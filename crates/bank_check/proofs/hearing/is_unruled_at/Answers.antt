use Rattle.std.proofs.Common.{ℕ, ◌+◌, ◌*◌, ◌<◌, get_or, Bool, sym, ap, ◌∙◌, subst}
use Rattle.std.specs.Prelude.{not}
use Rattle.machine_core.specs.Blocks.{must_forget, rule_of}
use Rattle.machine_core.specs.declared.state.Kind.{Kind}
use Rattle.machine_core.specs.declared.state.HeadRule.{HeadRule}
use Rattle.player_model.specs.Stored.{blocks_in}
use Rattle.bank_check.proofs.Heard.{head-here}
use Rattle.bank_check.proofs.hearing.is_unruled_at.Goals as goal

pub allows-requires : goal.allows-requires
allows-requires g c =
    let d = (g.C.Machine.rules c.args.codec.now).decoder in
    let f = g.C.Stored.format c.args.codec.now in
    let here = head-here d f c.args.memory.now c.args.start c.args.blocks c.args.b _ c.requires.b (ap (λ (z : ℕ). c.args.start + z * c.args.b) c.block_size.ensures) in
    subst (λ (z : ℕ). z < d.heads) (sym (c.head_at.ensures ∙ here)) (c.requires.in_range.heads_fit c.args.b c.requires.b)

pub returns : goal.returns
returns g c =
    let r = g.C.Machine.rules c.args.codec.now in
    let f = g.C.Stored.format c.args.codec.now in
    let here = head-here r.decoder f c.args.memory.now c.args.start c.args.blocks c.args.b _ c.requires.b (ap (λ (z : ℕ). c.args.start + z * c.args.b) c.block_size.ensures) in
    let rule = c.rule_for-rule.ensures ∙ ap (λ (k : Kind). rule_of (must_forget k c.args.loop_block) c.args.b) c.kind.ensures in
    ap (λ (z : Bool). not z) (c.allows.ensures ∙ (ap (λ (z : ℕ). r.decoder.allows z c.rule_for-rule.result) (c.head_at.ensures ∙ here) ∙ ap (λ (z : HeadRule). r.decoder.allows (get_or (blocks_in r.decoder f c.args.memory.now c.args.start c.args.blocks).heads c.args.b 0) z) rule))
