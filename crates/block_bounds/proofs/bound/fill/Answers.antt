use Rattle.std.proofs.Common.{arith, ◌≡◌, ◌+◌, ◌-◌, ◌<◌, length, ap, sym, ◌∙◌}
use Rattle.std.specs.Prelude.{pos, get_or}
use Rattle.std.proofs.lemmas.List.{length-set}
use Rattle.window_floor.proofs.MissLaws.{kept_sample, kept_value}
use Rattle.window_floor.specs.Numbers.{windows_of}
use Rattle.block_bounds.specs.Outputs.{weight_of}
use Rattle.block_bounds.proofs.LayerLaws.{filled-none, filled-more, filled-all, covers-as}
use Rattle.block_bounds.proofs.bound.fill.Goals as goal

pub loop-place-init : goal.loop-place-init
loop-place-init c = record {
  len = c.requires.layers;
  within = omega arith;
  filled = λ samples stand. filled-none (windows_of c.args.b samples) c.args.leaving c.args.targets.now c.args.layers.now c.args.b.places c.requires.layers c.requires.count;
}

pub layer_at-layer-requires-clause-r : goal.layer_at-layer-requires-clause-r
layer_at-layer-requires-clause-r c = kept_sample c.args.targets.now (c.loop-place.place - 1) c.requires.targets (omega (arith, c.requires.count, c.loop-place.invariant.within, c.loop-place-test.true))

pub layer_at-layer-requires-clause-o : goal.layer_at-layer-requires-clause-o
layer_at-layer-requires-clause-o c = kept_sample c.args.targets.now (c.loop-place.place - 1 + 1) c.requires.targets (omega (arith, c.requires.count, c.loop-place.invariant.within, c.loop-place-test.true))

pub layer_at-layer-requires-clause-x : goal.layer_at-layer-requires-clause-x
layer_at-layer-requires-clause-x c = kept_sample c.args.targets.now (c.loop-place.place - 1 + 2) c.requires.targets (omega (arith, c.requires.count, c.loop-place.invariant.within, c.loop-place-test.true))

pub loop-place-preserved : goal.loop-place-preserved
loop-place-preserved c =
    let b = c.args.b in
    let targets = c.args.targets.now in
    let p = c.loop-place.place - 1 in
    let old = c.loop-place.invariant in
    let some : 0 < c.loop-place.place = c.loop-place-test.true in
    let r = kept_value targets p c.requires.targets (omega (arith, c.requires.count, old.within, some)) in
    let o = kept_value targets (p + 1) c.requires.targets (omega (arith, c.requires.count, old.within, some)) in
    let x = kept_value targets (p + 2) c.requires.targets (omega (arith, c.requires.count, old.within, some)) in
    let count : length c.loop-place.layers ≡ b.places = old.len in
    record {
      len = length-set c.loop-place.layers p _ ∙ old.len;
      within = omega (arith, old.within);
      filled = λ samples stand. filled-more (windows_of b samples) c.args.leaving targets c.loop-place.layers p c.loop-place.place c.weight_at-weight.result c.layer_at-layer.result (omega (arith, some)) (omega (arith, some, count, old.within)) (omega (arith, c.requires.count, count))
          (c.weight_at-weight.ensures.value ∙ ap (λ n. weight_of c.args.leaving (n - c.loop-place.place)) (sym count))
          (covers-as (windows_of b samples) (get_or targets p (pos 0)) (get_or targets (p + 1) (pos 0)) (get_or targets (p + 2) (pos 0)) _ _ _ c.weight_at-weight.result c.layer_at-layer.result r o x (c.layer_at-layer.ensures samples stand))
          (old.filled samples stand);
    }

pub returns : goal.returns
returns c samples stand = filled-all (windows_of c.args.b samples) c.args.leaving c.args.targets.now c.loop-place.layers c.loop-place.place (omega (arith, c.loop-place-test.false)) (c.loop-place.invariant.filled samples stand)
