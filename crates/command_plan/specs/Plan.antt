-- What a command is to do, and how the world may stand after it was tried.
use Rattle.std.specs.Prelude.{◌≡◌, ◌⊎◌, ℕ, ◌+◌, ◌≤◌, if◌then◌else◌, List, [], ◌∷◌, length, take, map, Option, Some, slice_get}
use Rattle.host_files.specs.Outside.{World, Files, stored, without, grown, GrowsByFront, raised, Rose}
use Rattle.host_files.specs.declared.named_file.NamedFile.{NamedFile}
use Rattle.command_faults.specs.declared.status.Status.{Status}
use Rattle.command_faults.specs.declared.status.HostCall.{HostCall}
use Rattle.command_faults.specs.declared.status.HostCall.TheVariants.{Fetch, Store, Say}
use Rattle.command_plan.specs.Ending.{Ending, Finished, Declined, Broken, Starved, ending_of, is_say}
use Rattle.command_faults.specs.Lines.{fault_line}

-- what a command is to do
pub record Plan : Type 0 where
  -- the calls of the host in order, up to the test that decides
  pub calls : List HostCall
  -- how it ends, where the host does not fail and memory does not run out
  pub outcome : Status
  -- the files that are stored, in order
  pub writes : List NamedFile
  -- what is said when they are
  pub line : List ℕ

-- the names of the files, in order
abbrev pub names_in : List NamedFile → List (List ℕ)
names_in writes = map (λ (w : NamedFile). w.name) writes

-- the files of the world with some of them set, in order
abbrev pub all_stored : Option Files → List NamedFile → Option Files
all_stored files [] = files
all_stored files (w ∷ ws) = all_stored (stored files w.name w.bytes) ws

-- the first k are set, the next one has this name and is not known, and all other files stay
pub record SetBut (writes : List NamedFile) (k : ℕ) (name : List ℕ) (before after : Option Files) : Type 0 where
  pub next : slice_get (names_in writes) k ≡ Some name
  pub others : without name after ≡ without name (all_stored before (take k writes))

-- the first k are set for some k, and at most the next one is not known
abbrev pub PartlySet : List NamedFile → Option Files → Option Files → Type 0
PartlySet writes before after =
    (k : ℕ) × ((after ≡ all_stored before (take k writes)) ⊎ ((name : List ℕ) × SetBut writes k name before after))

-- the files where the call number j failed; the plan's last calls are one for each write and one to say the line
abbrev pub LeftAt : Plan → ℕ → HostCall → Option Files → Option Files → Type 0
LeftAt p j (Fetch name) before after = after ≡ before
LeftAt p j (Store name) before after = (k : ℕ) × (j + (length p.writes + 1) ≡ length p.calls + k) × SetBut p.writes k name before after
LeftAt p j Say before after = after ≡ all_stored before p.writes

-- all was done
pub record Completes (p : Plan) (a b : World) (s : Status) : Type 0 where
  pub outcome : p.outcome ≡ s
  pub files : b.files ≡ all_stored a.files p.writes
  pub said : b.said ≡ grown a.said p.line
  pub calls : b.calls ≡ raised (length p.calls) a.calls

-- it was refused: nothing was stored, and the line of the status was said, whole where the host did not fail
pub record Refuses (p : Plan) (a b : World) (s : Status) : Type 0 where
  pub outcome : p.outcome ≡ s
  pub files : b.files ≡ a.files
  pub front : GrowsByFront a.said b.said (fault_line s)
  pub whole : (Rose a.faults b.faults → ⊥) → b.said ≡ grown a.said (fault_line s)
  pub calls : b.calls ≡ raised (length p.calls + 1) a.calls

-- a call of the plan failed; where that was not the last, the line of the status was tried after it
pub record Breaks (p : Plan) (a b : World) (s : Status) (at : HostCall) : Type 0 where
  pub rose : Rose a.faults b.faults
  -- which of the calls that was, from 0
  pub place : ℕ
  pub reached : slice_get p.calls place ≡ Some at
  pub files : LeftAt p place at a.files b.files
  pub front : GrowsByFront a.said b.said (if is_say at then p.line else fault_line s)
  pub calls : b.calls ≡ raised (if is_say at then place + 1 else place + 2) a.calls

-- a status that has a line was come to: the plan was refused, or one of its calls failed
pub data CameTo (p : Plan) (a b : World) (s : Status) : Type 0 where
  refused : p.outcome ≡ s → ending_of s ≡ Declined → b.files ≡ a.files → CameTo p a b s
  failed : (at : HostCall) (place : ℕ) → ending_of s ≡ Broken at → slice_get p.calls place ≡ Some at → LeftAt p place at a.files b.files
      → Rose a.faults b.faults → CameTo p a b s

-- there was no memory: some of it was done, and a front of its line was said, or of the line of the status that was come to
pub record RunsShort (p : Plan) (a b : World) : Type 0 where
  pub files : PartlySet p.writes a.files b.files
  pub said : GrowsByFront a.said b.said p.line ⊎ ((s : Status) × CameTo p a b s × GrowsByFront a.said b.said (fault_line s))
  -- how many calls were made
  pub count : ℕ
  pub few : count ≤ length p.calls + 1
  pub calls : b.calls ≡ raised count a.calls

-- how the world stands after a plan was tried and ended so
abbrev pub FollowsTo : Ending → Plan → World → World → Status → Type 0
FollowsTo Finished p a b s = Completes p a b s
FollowsTo Declined p a b s = Refuses p a b s
FollowsTo (Broken at) p a b s = Breaks p a b s at
FollowsTo Starved p a b s = RunsShort p a b

-- how the world stands after a plan was tried and came to a status
abbrev pub Follows : Plan → World → World → Status → Type 0
Follows p a b s = FollowsTo (ending_of s) p a b s
