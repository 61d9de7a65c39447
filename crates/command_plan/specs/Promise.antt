-- What a command promises: the calls and the outcome are determined, and of what is stored and said it may leave a choice.
use Rattle.std.specs.Prelude.{true, ◌≡◌, ◌⊎◌, ℕ, List, [], length}
use Rattle.host_files.specs.Outside.{World, grown, raised}
use Rattle.host_files.specs.declared.named_file.NamedFile.{NamedFile}
use Rattle.command_faults.specs.declared.status.Status.{Status}
use Rattle.command_faults.specs.declared.status.Status.TheVariants.{Done}
use Rattle.command_plan.specs.Ending.{ending_of, is_early}
use Rattle.command_plan.specs.Plan.{Plan, Follows, all_stored}
use Rattle.command_plan.specs.Reading.{Reading}
use Rattle.command_plan.specs.Steps.{Comes}

-- which files and which line a command may choose to store and to say
abbrev pub Choice : Type 1
Choice = List NamedFile → List ℕ → Type 0

-- p is a plan of a course where it ends as r: what it stores and says may be chosen,
-- or it came to no store and to no line, and nothing has been chosen
pub record IsPlanOf (course : Reading) (May : Choice) (r : Status) (p : Plan) : Type 0 where
  pub calls : p.calls ≡ course.calls
  pub outcome : p.outcome ≡ course.outcome
  pub choice : May p.writes p.line ⊎ ((is_early (ending_of r) ≡ true) × (p.writes ≡ []) × (p.line ≡ []))

-- from a to b a command came to a status, and nothing was said of that yet
abbrev pub Reaches : Reading → Choice → World → World → Status → Type 0
Reaches course May a b s = (p : Plan) × IsPlanOf course May s p × Comes p a b s

-- from a to b a command ran and answered r: the world stands as one of its plans says, whatever the host did
abbrev pub Promises : Reading → Choice → World → World → Status → Type 0
Promises course May a b r = (p : Plan) × IsPlanOf course May r p × Follows p a b r

-- what that says where all was done: no test refused, one choice was made, and all of it was stored and said
pub record Finishes (course : Reading) (May : Choice) (a b : World) : Type 0 where
  pub outcome : course.outcome ≡ Done
  pub writes : List NamedFile
  pub line : List ℕ
  pub may : May writes line
  pub files : b.files ≡ all_stored a.files writes
  pub said : b.said ≡ grown a.said line
  pub calls : b.calls ≡ raised (length course.calls) a.calls
