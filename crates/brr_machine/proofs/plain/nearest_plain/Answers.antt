use Rattle.std.proofs.Common.{rules, ap, ◌∙◌, w32, w64, ◌^◌}
use Rattle.std.specs.Prelude.{pos, negsuc}
use mir.Val.{SFits}
use Rattle.std.proofs.lemmas.Int.{to_z-of_z}
use Rattle.adpcm_nums.specs.Nums.{floor_of}
use Rattle.adpcm_nums.specs.Nearest.{within_of}
use Rattle.brr_machine.proofs.PlainCodes.{nearest-plain}
use Rattle.brr_machine.proofs.plain.nearest_plain.Goals as goal

pub returns-clause-value : goal.returns-clause-value
returns-clause-value c =
    let codes = c.args.codes in
    let target : SFits w32 codes.target = search rules in
    let prediction : SFits w64 codes.prediction = search rules in
    let left : SFits w64 c.left_of.result = search rules in
    let below = simp to_z-of_z at c.nibbles_around-below.ensures.below in
    nearest-plain codes.shift codes.prediction codes.target c.nibbles_around-below.result.0 c.nibbles_around-below.result.1 _ c.requires
    c.nibbles_around-below.ensures.below_range c.nibbles_around-below.ensures.above_range
    (below ∙ ap (λ z. within_of (negsuc 7) (pos 7) (floor_of z (2 ^ codes.shift))) c.left_of.ensures) c.nibbles_around-below.ensures.above c.least_of_two.ensures.value
