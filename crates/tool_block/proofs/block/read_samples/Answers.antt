use Rattle.std.proofs.Common.{arith, rules, ◌≡◌, ◌∙◌, ap, ◌*◌, ◌+◌, ◌<◌, length, get_or, to_z, of_z, w32}
use mir.Val.{SFits}
use Rattle.std.proofs.lemmas.Int.{to_z-of_z, ints}
use Rattle.std.proofs.lemmas.Grind.{common_steps}
use Rattle.std.specs.Int.{w16, cast_signed}
use Rattle.tool_block.proofs.ReadSamples.{same_samples, number_at, samples_more, range_kept}
use Rattle.tool_block.proofs.block.read_samples.Goals as goal

pub returns-clause-samples : goal.returns-clause-samples
returns-clause-samples c = same_samples _ _ c.requires c.loop-i.invariant.len (λ k h. c.loop-i.invariant.each k (omega arith))

pub loop-i-preserved : goal.loop-i-preserved
loop-i-preserved c =
    let wide : SFits w32 c.from.result = search rules in
    let narrow : SFits w16 c.read_i16.result = search rules in
    let inside : c.loop-i.i < length c.loop-i.samples = omega arith in
    let same : c.from.result ≡ c.read_i16.result = c.from.ensures ∙ to_z-of_z w16 c.read_i16.result narrow in
    let value : to_z w32 (of_z w32 c.from.result) ≡ cast_signed w16 (get_or c.args.bytes.now (2 * c.loop-i.i) 0 + 256 * get_or c.args.bytes.now (2 * c.loop-i.i + 1) 0) =
    to_z-of_z w32 c.from.result wide ∙ same ∙ c.read_i16.ensures ∙ ap (cast_signed w16) (number_at c.args.bytes.now c.loop-i.i (omega (arith, c.requires))) in
    record {
      len = grind (arith, common_steps);
      each = samples_more c.loop-i.samples c.loop-i.i _ (λ k. cast_signed w16 (get_or c.args.bytes.now (2 * k) 0 + 256 * get_or c.args.bytes.now (2 * k + 1) 0)) inside c.loop-i.invariant.each value;
      range = range_kept c.loop-i.samples c.loop-i.i _ c.loop-i.invariant.range (omega (arith, ints)) (omega (arith, ints));
    }
