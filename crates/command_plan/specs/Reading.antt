-- The calls of a command in order, and what they come to.
use Rattle.std.specs.Prelude.{◌≡◌, ⊤, ℕ, List, [], ◌∷◌, ◌++◌, map, Result, Ok, Err}
use Rattle.command_faults.specs.declared.status.Status.{Status}
use Rattle.command_faults.specs.declared.status.Status.TheVariants.{Done}
use Rattle.command_faults.specs.declared.status.HostCall.{HostCall}
use Rattle.command_faults.specs.declared.status.HostCall.TheVariants.{Fetch, Store, Say}
use Rattle.command_plan.specs.Ending.{Declined, ending_of}
use Rattle.command_plan.specs.Plan.{Plan}

-- calls of the host up to the test that decides, and what it decides; `Done` where all is well so far
pub record Reading : Type 0 where
  pub calls : List HostCall
  pub outcome : Status

-- a test of what was read
abbrev pub decided : Status → Reading
decided outcome = record { calls = []; outcome = outcome }

-- a file is fetched
abbrev pub fetched : List ℕ → Reading
fetched name = record { calls = Fetch name ∷ []; outcome = Done }

-- files are stored under these names in order, and then a line is said
abbrev pub writing_calls : List (List ℕ) → List HostCall
writing_calls names = map (λ n. Store n) names ++ (Say ∷ [])

-- a reading as a plan that stores and says nothing
abbrev pub unwritten : Reading → Plan
unwritten c = record { calls = c.calls; outcome = c.outcome; writes = []; line = [] }

-- the status of a reading of bytes, which is `Done` where nothing was refused
abbrev pub status_of : {T : Type 0} → Result T Status → Status
status_of (Ok v) = Done
status_of (Err s) = s

-- nothing but a refusal comes of it
abbrev pub Declines : {T : Type 0} → Result T Status → Type 0
Declines (Ok v) = ⊤
Declines (Err s) = ending_of s ≡ Declined
