-- The code and the line that tell a status.
use Rattle.std.specs.Prelude.{List, ℕ, [], ◌∷◌, codes}
use Rattle.report_text.specs.declared.part.LinePart.{LinePart}
use Rattle.report_text.specs.declared.part.LinePart.TheVariants.{Word}
use Rattle.report_text.specs.Fault.{fault_text}
use Rattle.command_faults.specs.declared.status.Status.{Status}
use Rattle.command_faults.specs.declared.status.Status.TheVariants.{Done, Words, Manifest, Input, Unfit, Full, Refused, Device, Memory}
use Rattle.command_faults.specs.declared.status.HostCall.{HostCall}
use Rattle.command_faults.specs.declared.status.HostCall.TheVariants.{Fetch, Store, Say}
use Rattle.command_faults.specs.Rows.{row, text_row}
use Rattle.command_faults.specs.CertWords.{refusal_parts}
use Rattle.command_faults.specs.FaultWords.{manifest_parts, input_parts, fit_parts}

-- the code that the program ends with
abbrev pub code_of : Status → ℕ
code_of Done = 0
code_of Words = 2
code_of (Manifest fault) = 3
code_of (Input name fault) = 4
code_of (Unfit name fault) = 5
code_of (Full bank total) = 6
code_of (Refused name fault) = 7
code_of (Device at) = 8
code_of Memory = 9

-- a call of the host, and the file that it is about
abbrev pub call_parts : HostCall → List LinePart
call_parts (Fetch name) = text_row (codes "fetch") name
call_parts (Store name) = text_row (codes "store") name
call_parts Say = Word (codes "say") ∷ []

-- what follows the code in a status' line
abbrev pub parts_of : Status → List LinePart
parts_of Done = []
parts_of Words = Word (codes "words") ∷ []
parts_of (Manifest fault) = Word (codes "manifest") ∷ manifest_parts fault
parts_of (Input name fault) = Word name ∷ input_parts fault
parts_of (Unfit name fault) = Word name ∷ fit_parts fault
parts_of (Full bank total) = Word bank ∷ row (codes "ImageFull") (total ∷ [])
parts_of (Refused name fault) = Word name ∷ refusal_parts fault
parts_of (Device at) = call_parts at
parts_of Memory = []

-- the line of a status
unfoldable pub fault_line : Status → List ℕ
fault_line s = fault_text (code_of s) (parts_of s)
