-- A block is read where it stands as it is read alone.
use Rattle.std.proofs.Common.{◌≡◌, ℕ, ◌+◌, ◌%◌, ◌/◌, ◌<◌, ◌≤◌, List, drop, take, get_or, refl, ap, ◌∙◌, arith}
use Rattle.std.specs.Prelude.{◌==◌, if◌then◌else◌, Option}
use Rattle.std.proofs.lemmas.List.{get_or-drop, get_or-take}
use Rattle.ima_machine.specs.Spelling.{head_in, first_in, code_in}
use Rattle.ima_machine.specs.Faults.{head_fault, fault_in}

pub head-placed : (memory : List ℕ) (address : ℕ) → head_in (drop address memory) 0 ≡ head_in memory address
head-placed memory address = get_or-drop address memory 2 0

pub first-placed : (memory : List ℕ) (address : ℕ) → first_in (drop address memory) 0 ≡ first_in memory address
first-placed memory address = refl

pub code-placed : (memory : List ℕ) (address k : ℕ) → code_in (drop address memory) 0 k ≡ code_in memory address k
code-placed memory address k =
    let place : address + (4 + k / 2) ≡ address + 4 + k / 2 = omega arith in
    ap (λ byte. if k % 2 == 0 then byte % 16 else byte / 16) (get_or-drop address memory (4 + k / 2) 0 ∙ ap (λ i. get_or memory i 0) place)

pub fault-placed : (memory : List ℕ) (address : ℕ) → fault_in (drop address memory) 0 ≡ fault_in memory address
fault-placed memory address =
    ap (λ index. head_fault index (get_or (drop address memory) 3 0)) (get_or-drop address memory 2 0)
    ∙ ap (head_fault (get_or memory (address + 2) 0)) (get_or-drop address memory 3 0)
