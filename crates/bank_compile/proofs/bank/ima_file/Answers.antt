use Rattle.std.proofs.Common.{◌≡◌, ◌<◌, ◌^◌, ℕ, List, length, sym, subst, ◌∙◌}
use Rattle.ima_wave.specs.Files.{IsImaFile}
use Rattle.bank_compile.proofs.ImaReplays.{ima-file, ima-small}
use Rattle.bank_compile.proofs.bank.ima_file.Goals as goal

pub write_ima-requires-clause-file : goal.write_ima-requires-clause-file
write_ima-requires-clause-file c =
    let out = c.args.out.now in
    let same : c.in_ok-copy_of.field-0 ≡ out.blocks = c.in_ok-copy_of.ensures ∙ c.as_slice.ensures in
    subst (λ (bs : List ℕ). IsImaFile (record { rate = out.rate; align = c.args.align; frames = out.fitted.frames; at = out.fitted.loop_frames; blocks = bs })) (sym same)
    (ima-file c.args.align c.requires.align out c.requires.out)

pub write_ima-requires-clause-small : goal.write_ima-requires-clause-small
write_ima-requires-clause-small c =
    let out = c.args.out.now in
    let same : c.in_ok-copy_of.field-0 ≡ out.blocks = c.in_ok-copy_of.ensures ∙ c.as_slice.ensures in
    subst (λ (bs : List ℕ). length bs < 2 ^ 30) (sym same) (ima-small c.args.align c.requires.align out c.requires.out)
