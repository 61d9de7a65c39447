-- The parts are those of the samples, so the written image is that of the samples.
use Rattle.std.proofs.Common.{ℕ, map, subst, List, Result}
use Rattle.std.proofs.lemmas.List.Elements.{recursion_from_All, All-from_recursion}
use Rattle.adpcm_nums.specs.Outcome.{Gives}
use Rattle.snes_directory.specs.declared.fault.LayFault.{LayFault}
use Rattle.snes_directory.specs.declared.fault.LayFault.TheVariants.{NoMemory}
use Rattle.snes_directory.specs.Part.{IsPart}
use Rattle.bank_kinds.specs.Kinds.{brr_codec}
use Rattle.bank_compile.specs.Bank.{IsOut, part_of}
use Rattle.bank_compile.proofs.OutLaws.{out-parts, image-written}
use Rattle.bank_compile.proofs.image.image.Goals as goal

pub write_image-requires-clause-parts : goal.write_image-requires-clause-parts
write_image-requires-clause-parts c =
    All-from_recursion IsPart (map part_of c.args.outs.now) (out-parts c.args.outs.now (recursion_from_All (IsOut brr_codec) c.args.outs.now c.requires.outs))

pub returns : goal.returns
returns c =
    subst (λ (r : Result (List ℕ) LayFault). Gives NoMemory (λ image. image) c.write_image.result r) (image-written c.args.base c.args.outs.now c.requires.outs) c.write_image.ensures.value
