-- What the hosts in memory hold.
use Rattle.std.specs.Prelude.{ℕ, List, refl, String, Vec, map, string_bytes}
use Rattle.std.specs.FinMap as finite
use Rattle.std.specs.Coded.{Coded, code_by, coded×, coded_list, coded_ℕ}
use Rattle.std.specs.Global.{Global}
use Rattle.host_files.specs.Outside.{Files, raised}

-- files, what has been said, and how many calls were made
pub record Held : Type 0 where
  pub files : Files
  pub said : List ℕ
  pub calls : ℕ

-- the tuple of its parts, as which it is stored
abbrev pub held_code : Coded Held
held_code =
    code_by (Files × (List ℕ × ℕ)) (coded× (finite.code (coded_list coded_ℕ) (coded_list coded_ℕ)) (coded× (coded_list coded_ℕ) coded_ℕ))
    (λ h. (h.files, (h.said, h.calls))) (λ p. record { files = p.0; said = p.1.0; calls = p.1.1 }) (λ _. refl)

-- the writes as names and bytes
abbrev pub entries_of : List (String Global × Vec ℕ Global) → List (List ℕ × List ℕ)
entries_of writes = map (λ w. (string_bytes w.0, w.1.items)) writes

-- the same with the numbers, from 0, of the calls that fail, and how many have failed
pub record Failing : Type 0 where
  pub held : Held
  pub fails : List ℕ
  pub faults : ℕ

-- the tuple of its parts, as which it is stored
abbrev pub failing_code : Coded Failing
failing_code =
    code_by (Held × (List ℕ × ℕ)) (coded× held_code (coded× (coded_list coded_ℕ) coded_ℕ))
    (λ h. (h.held, (h.fails, h.faults))) (λ p. record { held = p.0; fails = p.1.0; faults = p.1.1 }) (λ _. refl)

-- after a call that failed and changed nothing but the counts
abbrev pub one_failed : Failing → Failing
one_failed h = record { held = record h.held { calls = raised 1 h.held.calls }; fails = h.fails; faults = raised 1 h.faults }
