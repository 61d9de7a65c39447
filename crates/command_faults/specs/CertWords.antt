-- The words of a refused certificate, and of a stored bank that is not the one that is asked for.
use Rattle.std.specs.Prelude.{List, ℕ, [], ◌∷◌, codes}
use Rattle.report_text.specs.declared.part.LinePart.{LinePart}
use Rattle.bound_cert.specs.declared.fault.CertFault.{CertFault}
use Rattle.bound_cert.specs.declared.fault.CertFault.TheVariants.{BadMagic, BadVersion, ShapeDiffers, BadLevel, BadZero, LayerRange, LayerOrder, CellRange, CellOrder, Short, Trailing}
use Rattle.command_faults.specs.declared.input_fault.ShapePart.{ShapePart}
use Rattle.command_faults.specs.declared.input_fault.ShapePart.TheVariants.{Entries, Align, Blocks, LoopBlock, Head, Frames, LoopStart, LoopEnd}
use Rattle.command_faults.specs.declared.refusal.CertRefusal.{CertRefusal}
use Rattle.command_faults.specs.declared.refusal.CertRefusal.TheVariants.{Grammar, Cell, Bound}
use Rattle.command_faults.specs.Rows.{row}

-- the name of what differs
abbrev pub part_word : ShapePart → List ℕ
part_word Entries = codes "Entries"
part_word Align = codes "Align"
part_word Blocks = codes "Blocks"
part_word LoopBlock = codes "LoopBlock"
part_word Head = codes "Head"
part_word Frames = codes "Frames"
part_word LoopStart = codes "LoopStart"
part_word LoopEnd = codes "LoopEnd"

-- the faults of a certificate's bytes
abbrev pub cert_parts : CertFault → List LinePart
cert_parts BadMagic = row (codes "BadMagic") []
cert_parts (BadVersion version) = row (codes "BadVersion") (version ∷ [])
cert_parts (ShapeDiffers have need) = row (codes "ShapeDiffers") (have ∷ need ∷ [])
cert_parts (BadLevel level) = row (codes "BadLevel") (level ∷ [])
cert_parts (BadZero at) = row (codes "BadZero") (at ∷ [])
cert_parts (LayerRange at) = row (codes "LayerRange") (at ∷ [])
cert_parts (LayerOrder at) = row (codes "LayerOrder") (at ∷ [])
cert_parts (CellRange at) = row (codes "CellRange") (at ∷ [])
cert_parts (CellOrder at) = row (codes "CellOrder") (at ∷ [])
cert_parts (Short at) = row (codes "Short") (at ∷ [])
cert_parts (Trailing at) = row (codes "Trailing") (at ∷ [])

-- why a certificate is refused; the number of the segment stands before those of the cell
abbrev pub refusal_parts : CertRefusal → List LinePart
refusal_parts (Grammar fault) = cert_parts fault
refusal_parts (Cell segment fault) = row (codes "CellFault") (segment ∷ fault.layer ∷ fault.cell ∷ fault.value ∷ fault.found ∷ [])
refusal_parts (Bound segment have found) = row (codes "Bound") (segment ∷ have ∷ found ∷ [])
