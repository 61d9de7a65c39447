use Rattle.std.proofs.Common.{ap, ◌∙◌, ◌++◌, ◌∷◌, [], ℕ, List}
use Rattle.std.specs.Prelude.{codes}
use Rattle.manifest_reader.specs.Stored.{joined, blocks_endings}
use Rattle.manifest_reader.proofs.NameLaws.{names_more}
use Rattle.manifest_reader.proofs.stored.push_names.Goals as goal

pub returns : goal.returns
returns c =
    let name = joined c.args.bank.now c.args.sample.now in
    let first = name (codes ".first.wav") in
    c.in_ok-push_name-2.ensures
    ∙ (ap (λ (xs : List (List ℕ)). xs ++ name (codes ".cert") ∷ []) (c.in_ok-push_name.ensures ∙ ap (λ (xs : List (List ℕ)). xs ++ first ∷ []) c.in_ok-push_blocks_name.ensures)
    ∙ names_more name c.args.names.now.items (blocks_endings c.args.kind) (codes ".first.wav") (codes ".cert"))
