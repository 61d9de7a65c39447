-- The line that tells a fault.
use Rattle.std.specs.Prelude.{ℕ, List, ◌++◌, codes, decimal}
use Rattle.std.specs.Fmt.{signed_decimal}
use Rattle.std.specs.List.{flat_map}
use Rattle.report_text.specs.declared.part.LinePart.{LinePart}
use Rattle.report_text.specs.declared.part.LinePart.TheVariants.{Word, Number}

-- one part, as it is printed
abbrev pub part_text : LinePart → List ℕ
part_text (Word text) = text
part_text (Number value) = signed_decimal value

-- each part in order, after one space
unfoldable pub parts_text : List LinePart → List ℕ
parts_text parts = flat_map (λ part. codes " " ++ part_text part) parts

-- the line of a fault with this code
unfoldable pub fault_text : ℕ → List LinePart → List ℕ
fault_text code parts = codes "fault " ++ (decimal code ++ (parts_text parts ++ codes "\n"))
