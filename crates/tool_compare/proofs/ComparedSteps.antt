-- A command that compares, over plain variables.
use Rattle.std.specs.Prelude.{⊤}
use Rattle.std.proofs.Common.{◌≡◌, ℕ, List, [], refl, subst, inl, inr, Ok}
use Rattle.host_files.specs.Outside.{World, Files}
use Rattle.manifest_reader.specs.Meaning.{Content}
use Rattle.command_faults.specs.declared.status.Status.{Status}
use Rattle.command_plan.specs.Reading.{Reading}
use Rattle.command_plan.specs.Read.{Read, as_reading, ◌>>=◌, written_under}
use Rattle.command_plan.specs.Steps.{HasRead, Halts, Comes, writing}
use Rattle.command_plan.specs.Plan.{Plan}
use Rattle.command_plan.specs.Promise.{Choice, IsPlanOf, Reaches, Promises, Finishes}
use Rattle.command_plan.proofs.Promised.{first_ends, then_reaches, written, answers, done_is}
use Rattle.tool_files.specs.declared.source.Source.{Source}
use Rattle.tool_files.specs.Sources.{manifest_read, sources_read}
use Rattle.tool_compare.specs.Compared.{compared, MaySay, HasCompared, AnswersCompared}
use Rattle.command_plan.proofs.Unwritten.{unwritten_files}

-- what is stored for the sources is read, and then the report is said
abbrev pub stored_for : {T : Type 0} → (Files → Content → List Source → Read T) → Files → Content → List Source → Read ⊤
stored_for stored files m sources = stored files m sources >>= (λ found. written_under [])

-- what was read of a manifest's sources
pub record HasSources (files : Files) (m : Content) (sources : List Source) (a n : World) : Type 0 where
  pub read : HasRead (as_reading (sources_read files m)) a n
  pub gives : (sources_read files m).gives ≡ Ok sources

-- what is stored is refused
pub stored_refused : {T : Type 0} (stored : Files → Content → List Source → Read T) (May : Choice) (files : Files) (m : Content) (sources : List Source) (a n b : World) (s : Status)
    → HasSources files m sources a n → Halts (as_reading (stored files m sources)) n b s → Reaches (as_reading (compared stored files m)) May a b s
stored_refused stored May files m sources a n b s h k =
    then_reaches (sources_read files m) (stored_for stored files m) sources May a n b s h.gives h.read (first_ends (stored files m sources) (λ found. written_under []) May n b s k)

-- the report is said, or that failed
pub report_told : {T : Type 0} (stored : Files → Content → List Source → Read T) (Says : Content → List Source → List ℕ → Type 0) (files : Files) (name : List ℕ) (m : Content) (sources : List Source) (found : T) (line said : List ℕ) (a n k b : World) (s : Status)
    → said ≡ line → (manifest_read files name).gives ≡ Ok m → HasSources files m sources a n → HasRead (as_reading (stored files m sources)) n k → (stored files m sources).gives ≡ Ok found → Says m sources line
    → Comes (writing [] said) k b s → Reaches (as_reading (compared stored files m)) (MaySay Says files name) a b s
report_told stored Says files name m sources found line said a n k b s same meaning h read gives says r =
    let may : MaySay Says files name [] line = record { none = refl; content = m; meaning = meaning; sources = sources; read = h.gives; says = says } in
    then_reaches (sources_read files m) (stored_for stored files m) sources (MaySay Says files name) a n b s h.gives h.read
    (then_reaches (stored files m sources) (λ found. written_under []) found (MaySay Says files name) n k b s gives read
    (written (MaySay Says files name) [] [] line k b s may refl (subst (λ (x : List ℕ). Comes (writing [] x) k b s) same r)))

-- nothing is stored, whether or not a report was made
stores_none : (Says : Content → List Source → List ℕ → Type 0) (course : Reading) (files : Files) (name : List ℕ) (r : Status) (p : Plan) → IsPlanOf course (MaySay Says files name) r p → p.writes ≡ []
stores_none Says course files name r p is = elim is.choice [ inl may ↦ may.none | inr early ↦ early.1 ]

-- what was done at `Done`
has_compared : (Says : Content → List Source → List ℕ → Type 0) (course : Reading) (held : Files) (name : List ℕ) (a b : World) → Finishes course (MaySay Says held name) a b → HasCompared Says course held name a b
has_compared Says course held name a b f = record {
  content = f.may.content;
  meaning = f.may.meaning;
  sources = f.may.sources;
  read = f.may.read;
  line = f.line;
  says = f.may.says;
  said = f.said;
  calls = f.calls;
}

-- what the promise says in the command's own words
pub answers_compared : (Says : Content → List Source → List ℕ → Type 0) (course : Reading) (held : Files) (name : List ℕ) (a b : World) (r : Status) → Promises course (MaySay Says held name) a b r → AnswersCompared Says course held name a b r
answers_compared Says course held name a b r h = record {
  files = unwritten_files h.0 a b r (stores_none Says course held name r h.0 h.1) h.2;
  done = λ e. has_compared Says course held name a b (done_is course (MaySay Says held name) a b r h e);
  outcome = λ calm. answers course (MaySay Says held name) a b r h calm;
}
