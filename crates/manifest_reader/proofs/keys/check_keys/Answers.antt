use Rattle.std.proofs.Common.{inr, true, false, map, string_bytes, Err, sym, ap, ◌∙◌}
use Rattle.std.proofs.lemmas.Map.Iter.{rest_more, rest_all}
use Rattle.std.specs.Map.Iter.{deref}
use Rattle.manifest_reader.specs.declared.fault.ManifestFault.TheVariants.{UnknownKey}
use Rattle.manifest_reader.proofs.KeyLaws.{check_each, checked, keys_seen, among_is, check_on, check_stops, check_ends}
use Rattle.manifest_reader.proofs.keys.check_keys.Goals as goal

pub loop-key-init : goal.loop-key-init
loop-key-init c = ap (check_each (map (λ k. k.now) c.args.known.now)) (ap (map string_bytes) (c.into_iter-key-iterator.ensures.into_iter_gives ∙ c.keys-key-items.ensures.rest) ∙ keys_seen c.args.table.now.entries)

pub returns-then-not-is_among : goal.returns-then-not-is_among
returns-then-not-is_among c =
    let left = rest_more deref c.loop-key.key-iterator c.next.new.self c.next.result c.in-Some.key c.in-Some.is c.next.ensures.steps in
    let other = among_is c.is_among.result false c.as_str-key.result.now (string_bytes c.in-Some.key.now) c.args.known.now c.as_str-key.ensures.value c.is_among.ensures c.if-not-is_among.true in
    let stops = check_stops (map (λ k. k.now) c.args.known.now) c.loop-key.key-iterator c.next.new.self c.in-Some.key.now _ left other c.loop-key.invariant in
    inr (checked _ c.args.table.now.entries c.keys-key-items.ensures.ordered ∙ (stops ∙ ap (λ t. Err (UnknownKey t)) (sym c.as_str-key.ensures.value ∙ sym c.in_ok-copy_of.ensures)))

pub loop-key-preserved : goal.loop-key-preserved
loop-key-preserved c =
    let left = rest_more deref c.loop-key.key-iterator c.next.new.self c.next.result c.in-Some.key c.in-Some.is c.next.ensures.steps in
    let among = among_is c.is_among.result true c.as_str-key.result.now (string_bytes c.in-Some.key.now) c.args.known.now c.as_str-key.ensures.value c.is_among.ensures c.if-not-is_among.false in
    check_on (map (λ k. k.now) c.args.known.now) c.loop-key.key-iterator c.next.new.self c.in-Some.key.now _ left among c.loop-key.invariant

pub returns : goal.returns
returns c = checked (map (λ k. k.now) c.args.known.now) c.args.table.now.entries c.keys-key-items.ensures.ordered ∙ check_ends (map (λ k. k.now) c.args.known.now) c.loop-key.key-iterator _ (rest_all deref c.loop-key.key-iterator c.next.new.self c.next.result c.in-None.is c.next.ensures.steps) c.loop-key.invariant
