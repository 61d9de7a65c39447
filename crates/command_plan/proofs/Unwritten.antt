-- A plan that stores nothing, over plain variables.
use Rattle.std.proofs.Common.{◌≡◌, ℕ, zero, suc, List, [], length, take, refl, ap, ◌∙◌, arith, inl, inr, Option}
use Rattle.std.proofs.lemmas.Option.{slice_get_within}
use Rattle.host_files.specs.Outside.{World, Files}
use Rattle.host_files.specs.declared.named_file.NamedFile.{NamedFile}
use Rattle.command_faults.specs.declared.status.Status.{Status}
use Rattle.command_faults.specs.declared.status.HostCall.{HostCall}
use Rattle.command_faults.specs.declared.status.HostCall.TheVariants.{Fetch, Store, Say}
use Rattle.command_plan.specs.Ending.{Ending, Finished, Declined, Broken, Starved, ending_of}
use Rattle.command_plan.specs.Plan.{Plan, names_in, all_stored, SetBut, PartlySet, LeftAt, FollowsTo, Follows}

-- where no file is to be stored, none is the next one
no_next : (ws : List NamedFile) (k : ℕ) (name : List ℕ) (before after : Option Files) → ws ≡ [] → SetBut ws k name before after → ⊥
no_next ws k name before after none h =
    let within = slice_get_within (names_in ws) k name h.next in
    let empty : length (names_in ws) ≡ 0 = ap (λ (xs : List NamedFile). length (names_in xs)) none in
    omega arith

-- storing the first of no files changes nothing
none_stored : (files : Option Files) (k : ℕ) → all_stored files (take k []) ≡ files
none_stored files zero = refl
none_stored files (suc k) = refl

-- nor does a part of what is to be stored, where that is nothing
none_partly : (ws : List NamedFile) (before after : Option Files) → ws ≡ [] → PartlySet ws before after → after ≡ before
none_partly ws before after none h = elim h.1 [
  | inl e ↦ e ∙ ap (λ (xs : List NamedFile). all_stored before (take h.0 xs)) none ∙ none_stored before h.0
  | inr next ↦ absurd (no_next ws h.0 next.0 before after none next.1)
]

-- nor does a call that failed, whichever it was
none_left : (p : Plan) (j : ℕ) (at : HostCall) (before after : Option Files) → p.writes ≡ [] → LeftAt p j at before after → after ≡ before
none_left p j (Fetch name) before after none h = h
none_left p j (Store name) before after none h = absurd (no_next p.writes h.0 name before after none h.2)
none_left p j Say before after none h = h ∙ ap (all_stored before) none

-- nor does the plan, in each case of its ending
unwritten_by : (e : Ending) (p : Plan) (a b : World) (r : Status) → p.writes ≡ [] → FollowsTo e p a b r → b.files ≡ a.files
unwritten_by Finished p a b r none f = f.files ∙ ap (all_stored a.files) none
unwritten_by Declined p a b r none f = f.files
unwritten_by (Broken at) p a b r none f = none_left p f.place at a.files b.files none f.files
unwritten_by Starved p a b r none f = none_partly p.writes a.files b.files none f.files

-- a plan that stores nothing leaves the files as they were, however it ends
pub unwritten_files : (p : Plan) (a b : World) (r : Status) → p.writes ≡ [] → Follows p a b r → b.files ≡ a.files
unwritten_files p a b r none f = unwritten_by (ending_of r) p a b r none f
