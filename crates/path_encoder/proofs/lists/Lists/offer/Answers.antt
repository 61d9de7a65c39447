use Rattle.std.proofs.Common.{rules, IsTrue, Vec, Global, sym, subst, ◌<◌, length, List}
use Rattle.std.specs.List.{All}
use Rattle.std.proofs.lemmas.List.Elements.{All-set, All-get_or}
use Rattle.std.proofs.lemmas.Result.{on_ok_weaker}
use Rattle.path_encoder.specs.declared.slot.Slot.{Slot}
use Rattle.path_encoder.proofs.lists.Lists.offer.Goals as goal

pub returns : goal.returns
returns c = λ d all fits.
    let Fit : Slot → Type 0 = λ s. IsTrue (d.is_state s.state) in
    let Fits : Vec Slot Global → Type 0 = λ v. All Fit v.items in
    let lists : List (Vec Slot Global) = c.args.self.now.by_index.items in
    let i = c.unsigned_abs-index.result in
    let within : i < length lists = search (rules, c.if-index-len.false) in
    let old : Fits c.index_mut.result.now = subst Fits (sym c.index_mut.ensures.value) (All-get_or Fits lists i c.index_mut.result.now within all) in
    on_ok_weaker c.put.result (λ kept. All-set Fits lists i c.put.new.list kept all) (c.put.ensures d.is_state old fits)
