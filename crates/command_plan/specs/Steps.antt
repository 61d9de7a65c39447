-- How a command comes to its status, one part after another: what the functions of this crate say of the world.
use Rattle.std.specs.Prelude.{Bool, true, false, ◌≡◌, ◌≢◌, ◌⊎◌, ℕ, ◌+◌, ◌≤◌, List, length, Option, Some, slice_get, Result, Ok, Err}
use Rattle.host_files.specs.Outside.{World, grown, GrowsByFront, raised, Rose}
use Rattle.host_files.specs.declared.named_file.NamedFile.{NamedFile}
use Rattle.command_faults.specs.declared.status.Status.{Status}
use Rattle.command_faults.specs.declared.status.Status.TheVariants.{Done, Words, Memory}
use Rattle.command_faults.specs.declared.status.HostCall.{HostCall}
use Rattle.command_faults.specs.declared.status.HostCall.TheVariants.{Fetch, Store, Say}
use Rattle.command_plan.specs.Ending.{Ending, Finished, Declined, Broken, Starved, ending_of, is_early, is_device}
use Rattle.command_faults.specs.Lines.{fault_line}
use Rattle.command_plan.specs.Plan.{Plan, Completes, LeftAt, PartlySet, names_in, all_stored}
use Rattle.command_plan.specs.Reading.{Reading, unwritten, writing_calls}

-- it was refused, and nothing was said of that yet
pub record Stays (p : Plan) (a b : World) (s : Status) : Type 0 where
  pub outcome : p.outcome ≡ s
  pub files : b.files ≡ a.files
  pub said : b.said ≡ a.said
  pub calls : b.calls ≡ raised (length p.calls) a.calls

-- what has been said where this call failed
abbrev pub SaidAt : Plan → HostCall → Option (List ℕ) → Option (List ℕ) → Type 0
SaidAt p (Fetch name) before after = after ≡ before
SaidAt p (Store name) before after = after ≡ before
SaidAt p Say before after = GrowsByFront before after p.line

-- a call of the plan failed, and nothing was said of that yet
pub record Stops (p : Plan) (a b : World) (at : HostCall) : Type 0 where
  pub rose : Rose a.faults b.faults
  -- which of the calls that was, from 0
  pub place : ℕ
  pub reached : slice_get p.calls place ≡ Some at
  pub files : LeftAt p place at a.files b.files
  pub said : SaidAt p at a.said b.said
  pub calls : b.calls ≡ raised (place + 1) a.calls

-- there was no memory for a part of it
pub record Lacks (p : Plan) (a b : World) : Type 0 where
  pub files : PartlySet p.writes a.files b.files
  pub said : GrowsByFront a.said b.said p.line
  -- how many calls were made
  pub count : ℕ
  pub few : count ≤ length p.calls
  pub calls : b.calls ≡ raised count a.calls

-- from a to b a plan was tried and ended so, and nothing was said of that yet
abbrev pub ComesTo : Ending → Plan → World → World → Status → Type 0
ComesTo Finished p a b s = Completes p a b s
ComesTo Declined p a b s = Stays p a b s
ComesTo (Broken at) p a b s = Stops p a b at
ComesTo Starved p a b s = Lacks p a b

-- from a to b a plan was tried and came to a status, and nothing was said of that yet
abbrev pub Comes : Plan → World → World → Status → Type 0
Comes p a b s = ComesTo (ending_of s) p a b s

-- the files and what was said are as they were, after n calls
pub record Waits (n : ℕ) (a b : World) : Type 0 where
  pub files : b.files ≡ a.files
  pub said : b.said ≡ a.said
  -- no fault is taken back
  pub later : a.faults ≤ b.faults
  pub calls : b.calls ≡ raised n a.calls

-- from a to b all was read
pub record HasRead (c : Reading) (a b : World) : Type 0 where
  pub outcome : c.outcome ≡ Done
  pub quiet : Waits (length c.calls) a b

-- from a to b some was read, and that came to a status other than `Done`
pub record Halts (c : Reading) (a b : World) (s : Status) : Type 0 where
  pub comes : Comes (unwritten c) a b s
  pub early : is_early (ending_of s) ≡ true

-- what each part of a command keeps to, whatever the host tells: no fault is taken back, its status tells of a failed call only
-- where a fault rose, and it never says that the words are no command
pub record Keeps (a b : World) (s : Status) : Type 0 where
  pub later : a.faults ≤ b.faults
  pub device : is_device s ≡ true → Rose a.faults b.faults
  pub words : s ≢ Words

-- a status that no call of the host brought about, nor the words
pub record IsPlain (s : Status) : Type 0 where
  pub device : is_device s ≡ false
  pub words : s ≢ Words

-- what a function that reads promises: with its value all was read and the value is right, or else it halts at the status
abbrev pub ReadsTo : {T : Type 0} → Reading → World → World → Result T Status → (T → Type 0) → Type 0
ReadsTo c a b (Ok v) P = HasRead c a b × P v
ReadsTo c a b (Err s) P = Halts c a b s

-- files are stored in order, and a line is said
abbrev pub writing : List NamedFile → List ℕ → Plan
writing writes line = record { calls = writing_calls (names_in writes); outcome = Done; writes = writes; line = line }

-- from a to b the files have been stored
pub record HasStored (writes : List NamedFile) (a b : World) : Type 0 where
  pub files : b.files ≡ all_stored a.files writes
  pub said : b.said ≡ a.said
  -- no fault is taken back
  pub later : a.faults ≤ b.faults
  pub calls : b.calls ≡ raised (length writes) a.calls

-- what a function that stores them promises, whatever line is said after it
abbrev pub StoresTo : {T : Type 0} → List NamedFile → World → World → Result T Status → Type 0
StoresTo writes a b (Ok v) = HasStored writes a b
StoresTo writes a b (Err s) = (line : List ℕ) → Comes (writing writes line) a b s

-- the line of a status was said, whole where the host did not fail
pub record SaysIts (s : Status) (a b : World) : Type 0 where
  pub calls : b.calls ≡ raised 1 a.calls
  pub whole : (Rose a.faults b.faults → ⊥) → b.said ≡ grown a.said (fault_line s)

-- from a to b the line of a status was tried, and r is what is answered
pub record Tries (s : Status) (a b : World) (r : Status) : Type 0 where
  pub files : b.files ≡ a.files
  -- no fault is taken back
  pub later : a.faults ≤ b.faults
  pub front : GrowsByFront a.said b.said (fault_line s)
  -- how many calls were made
  pub count : ℕ
  pub few : count ≤ 1
  pub calls : b.calls ≡ raised count a.calls
  pub answer : ((r ≡ s) × SaysIts s a b) ⊎ (r ≡ Memory)

-- from a to b all was said that is to be said of a status, and r is what is answered
abbrev pub Told : Bool → Status → World → World → Status → Type 0
Told true s a b r = Tries s a b r
Told false s a b r = (b ≡ a) × (r ≡ s)
