use Rattle.std.proofs.Common.{◌≡◌, List, ap, ◌∙◌, take, arith}
use Rattle.std.proofs.lemmas.List.{take_all}
use Rattle.branch_bound.specs.declared.top.Found.{Found}
use Rattle.bank_compile.proofs.JoinedLists.{all_heads, all_symbols, joined-list}
use Rattle.bank_compile.proofs.joined.joined.Goals as goal

pub returns-clause-list : goal.returns-clause-list
returns-clause-list c =
    let founds = c.args.founds.now in
    let whole : take c.loop-found.found-index founds ≡ founds = take_all c.loop-found.found-index founds (omega arith) in
    let heads : c.from_vec.result ≡ all_heads founds = c.from_vec.ensures ∙ (c.loop-found.invariant.heads ∙ ap (λ (fs : List Found). all_heads fs) whole) in
    let symbols : c.from_vec-2.result ≡ all_symbols founds = c.from_vec-2.ensures ∙ (c.loop-found.invariant.symbols ∙ ap (λ (fs : List Found). all_symbols fs) whole) in
    joined-list c.from_vec.result c.from_vec-2.result founds heads symbols
