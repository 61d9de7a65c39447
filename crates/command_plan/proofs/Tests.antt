-- One file fetched, and tests of what was read.
use Rattle.std.proofs.Common.{◌≡◌, ℕ, ◌+◌, ◌<◌, ◌≤◌, Bool, true, false, cond, nat_lt, List, length, take, refl, sym, ap, ◌∙◌, arith, Ok, Err}
use Rattle.std.proofs.lemmas.Bool.{cond-true, cond-false, lt-ltb, le-ltb}
use Rattle.adpcm_nums.specs.Outcome.{Tells}
use Rattle.host_files.specs.Outside.{World, Files, content_of, raised, Rose}
use Rattle.command_faults.specs.declared.status.Status.{Status}
use Rattle.command_faults.specs.declared.status.Status.TheVariants.{Done, Input, Device, Memory}
use Rattle.command_faults.specs.declared.input_fault.InputFault.{InputFault}
use Rattle.command_faults.specs.declared.status.HostCall.TheVariants.{Fetch}
use Rattle.command_plan.specs.Ending.{Declined, ending_of}
use Rattle.command_plan.specs.Read.{as_reading, whole_read}
use Rattle.command_plan.specs.Reading.{Reading, decided, fetched, status_of}
use Rattle.command_plan.specs.Steps.{Waits, HasRead, Halts}
use Rattle.command_plan.proofs.Fronts.{longer, as_long, whole}
use Rattle.command_plan.proofs.Cases.{either}
use Rattle.command_plan.proofs.Readings.{waits_none, halts_short, halts_declined}

-- one call was made
pub waits_once : (a b : World) → b.files ≡ a.files → b.said ≡ a.said → a.faults ≤ b.faults → b.calls ≡ raised 1 a.calls → Waits 1 a b
waits_once a b files said later calls = record { files = files; said = said; later = later; calls = calls }

-- a refusal after all calls of a reading, unless there was no memory for it
pub halts_refused : (c : Reading) (a b : World) (s t : Status) → ending_of t ≡ Declined → c.outcome ≡ t → Waits (length c.calls) a b → Tells Memory s t → Halts c a b s
halts_refused c a b s t is e w one =
    either (λ x. Halts c a b x) s t one (halts_declined c a b t is e w) (halts_short c a b (length c.calls) (omega arith) w)

-- the host could not fetch the file
pub fetch_fails : (name : List ℕ) (s : Status) (a b : World) → Waits 1 a b → Rose a.faults b.faults → Tells Memory s (Device (Fetch name)) → Halts (fetched name) a b s
fetch_fails name s a b w rose one =
    either (λ t. Halts (fetched name) a b t) s (Device (Fetch name)) one
    (record { comes = record { rose = rose; place = 0; reached = refl; files = w.files; said = w.said; calls = w.calls }; early = refl })
    (halts_short _ a b 1 (omega arith) w)

-- the file is too long
pub too_long : (files : Files) (name ys : List ℕ) (most : ℕ) (fault : InputFault) (s : Status) (a b : World) → Waits 1 a b → ys ≡ take (most + 1) (content_of files name) → most < length ys → Tells Memory s (Input name fault) → Halts (as_reading (whole_read files name most fault)) a b s
too_long files name ys most fault s a b w e h one =
    halts_refused (as_reading (whole_read files name most fault)) a b s (Input name fault) refl
    (ap status_of (cond-true _ _ _ (lt-ltb most _ (longer most _ ys e h)))) w one

-- it is not, and all of it was read
pub is_read : (files : Files) (name ys : List ℕ) (most : ℕ) (fault : InputFault) (a b : World) → Waits 1 a b → ys ≡ take (most + 1) (content_of files name) → length ys ≤ most → HasRead (as_reading (whole_read files name most fault)) a b × ((whole_read files name most fault).gives ≡ Ok ys)
is_read files name ys most fault a b w e h =
    let all : (whole_read files name most fault).gives ≡ Ok (content_of files name) = cond-false _ _ _ (le-ltb most _ (as_long most (content_of files name) ys e h)) in
    (record { outcome = ap status_of all; quiet = w }, all ∙ ap Ok (sym (whole most (content_of files name) ys e h)))

by_test : (long : Bool) (s : Status) (xs ys : List ℕ) → cond long (Err s) (Ok xs) ≡ Ok ys → ys ≡ xs
by_test true s xs ys e = cc
by_test false s xs ys e = cc

-- what was read of it is the file
pub is_whole : (files : Files) (name ys : List ℕ) (most : ℕ) (fault : InputFault) → (whole_read files name most fault).gives ≡ Ok ys → ys ≡ content_of files name
is_whole files name ys most fault e = by_test (nat_lt most (length (content_of files name))) (Input name fault) (content_of files name) ys e

-- a test that passes
pub decides : (o : Status) (a : World) → o ≡ Done → HasRead (decided o) a a
decides o a e = record { outcome = e; quiet = waits_none a }

-- a test that refuses
pub decides_not : (o s t : Status) (a : World) → ending_of t ≡ Declined → o ≡ t → Tells Memory s t → Halts (decided o) a a s
decides_not o s t a is e one = halts_refused (decided o) a a s t is e (waits_none a) one
