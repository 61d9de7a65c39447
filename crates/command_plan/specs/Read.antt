-- Readings that give a value: the calls of the host up to the test that decides, and what that gives or refuses.
use Rattle.std.specs.Prelude.{◌≡◌, ⊤, ℕ, suc, nat_lt, if◌then◌else◌, List, [], ◌∷◌, ◌++◌, length, Result, Ok, Err}
use Rattle.host_files.specs.Outside.{World, Files, content_of}
use Rattle.command_faults.specs.declared.status.Status.{Status}
use Rattle.command_faults.specs.declared.status.Status.TheVariants.{Input}
use Rattle.command_faults.specs.declared.input_fault.InputFault.{InputFault}
use Rattle.command_faults.specs.declared.status.HostCall.{HostCall}
use Rattle.command_faults.specs.declared.status.HostCall.TheVariants.{Fetch}
use Rattle.command_plan.specs.Reading.{Reading, status_of, writing_calls}
use Rattle.command_plan.specs.Steps.{ReadsTo}

pub record Read (T : Type 0) : Type 0 where
  pub calls : List HostCall
  pub gives : Result T Status

-- its calls and how it ends
abbrev pub as_reading : {T : Type 0} → Read T → Reading
as_reading r = record { calls = r.calls; outcome = status_of r.gives }

-- what was read or refused before needs no call
abbrev pub given : {T : Type 0} → Result T Status → Read T
given r = record { calls = []; gives = r }

-- nothing to do
abbrev pub nothing : Read ⊤
nothing = given (Ok tt)

-- a file is fetched, and what its front says decides
abbrev pub fetched_for : {T : Type 0} → List ℕ → Result T Status → Read T
fetched_for name r = record { calls = Fetch name ∷ []; gives = r }

-- a file is fetched, which may have at most so many bytes
abbrev pub whole_read : Files → List ℕ → ℕ → InputFault → Read (List ℕ)
whole_read files name most too_long =
    fetched_for name (if nat_lt most (length (content_of files name)) then Err (Input name too_long) else Ok (content_of files name))

-- files are stored under these names in order, and then a line is said
abbrev pub written_under : List (List ℕ) → Read ⊤
written_under names = record { calls = writing_calls names; gives = Ok tt }

-- what comes after these calls, where they gave a value
abbrev pub read_on : {A B : Type 0} → List HostCall → Result A Status → (A → Read B) → Read B
read_on calls (Ok v) f = record { calls = calls ++ (f v).calls; gives = (f v).gives }
read_on calls (Err s) f = record { calls = calls; gives = Err s }

infixl 10 ◌>>=◌
-- one reading and then another, which may go by what the first gave
abbrev pub ◌>>=◌ : {A B : Type 0} → Read A → (A → Read B) → Read B
r >>= f = read_on r.calls r.gives f

-- a value for each element in order, which may go by its number, from number j on
unfoldable pub read_all : {X Y : Type 0} → (ℕ → X → Read Y) → ℕ → List X → Read (List Y)
read_all f j [] = given (Ok [])
read_all f j (x ∷ xs) = do
  y ← f j x
  ys ← read_all f (suc j) xs
  given (Ok (y ∷ ys))

-- what a function that reads promises: with its value all was read, and as `view` shows it, it is what the reading gives
abbrev pub Reads : {T X : Type 0} → (X → T) → Read T → World → World → Result X Status → Type 0
Reads view c a b r = ReadsTo (as_reading c) a b r (λ v. c.gives ≡ Ok (view v))
