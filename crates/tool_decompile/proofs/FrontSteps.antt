-- How far the files of a plan are set, whatever its end, over plain variables.
use Rattle.std.proofs.Common.{◌≡◌, ◌∙◌, ◌⊎◌, inl, inr, ℕ, zero, suc, List, [], Option, Some, take, length, ap, sym, subst, refl, arith, Result, Ok}
use Rattle.std.specs.Prelude.{slice_get}
use Rattle.std.proofs.lemmas.List.{take_all}
use Rattle.host_files.specs.Outside.{World, Files}
use Rattle.host_files.specs.declared.named_file.NamedFile.{NamedFile}
use Rattle.decompile_core.specs.declared.recovered.Recovered.{Recovered}
use Rattle.command_faults.specs.declared.status.Status.{Status}
use Rattle.command_faults.specs.declared.status.HostCall.{HostCall}
use Rattle.command_faults.specs.declared.status.HostCall.TheVariants.{Fetch, Store, Say}
use Rattle.command_plan.specs.Ending.{Ending, Finished, Declined, Broken, Starved, ending_of}
use Rattle.command_plan.specs.Plan.{Plan, FollowsTo, LeftAt, PartlySet, all_stored, names_in}
use Rattle.command_plan.specs.Promise.{Promises}
use Rattle.command_plan.specs.Reading.{Reading}
use Rattle.tool_decompile.specs.Decompile.{IsDecompiled}
use Rattle.tool_decompile.specs.EntryFiles.{entry_files}

-- all of them
all_set : (writes : List NamedFile) (before after : Option Files) → after ≡ all_stored before writes → PartlySet writes before after
all_set writes before after h = (length writes, inl (h ∙ ap (all_stored before) (sym (take_all (length writes) writes (omega arith)))))

-- those before the call that failed
left_set : (p : Plan) (j : ℕ) (at : HostCall) (before after : Option Files) → LeftAt p j at before after → PartlySet p.writes before after
left_set p j (Fetch name) before after h = (0, inl h)
left_set p j (Store name) before after h = (h.0, inr (name, h.2))
left_set p j Say before after h = all_set p.writes before after h

-- at each end
partly_set : (e : Ending) (p : Plan) (a b : World) (s : Status) → FollowsTo e p a b s → PartlySet p.writes a.files b.files
partly_set Finished p a b s h = all_set p.writes a.files b.files h.files
partly_set Declined p a b s h = (0, inl h.files)
partly_set (Broken at) p a b s h = left_set p h.place at a.files b.files h.files
partly_set Starved p a b s h = h.files

take_none : (k : ℕ) → take {A = NamedFile} k [] ≡ []
take_none zero = refl
take_none (suc k) = refl

-- none of them
none_set : (writes : List NamedFile) (before after : Option Files) → PartlySet [] before after → PartlySet writes before after
none_set writes before after (k, inl h) = (0, inl (h ∙ ap (all_stored before) (take_none k)))
none_set writes before after (k, inr h) = absurd (no_name k h.0 h.1.next)
  where
    no_name : (k : ℕ) (name : List ℕ) → slice_get (names_in []) k ≡ Some name → ⊥
    no_name k name e = grind (arith, e)

same_entries : (read : Result (List Recovered) Status) (x y : List Recovered) → read ≡ Ok x → read ≡ Ok y → x ≡ y
same_entries read x y e f = grind (arith, e, f)

-- the files of entries, where those are what was chosen or nothing was chosen yet
chosen_set : (read : Result (List Recovered) Status) (output : List ℕ) (p : Plan) (a b : World) (entries : List Recovered) (early : Type 0)
    → IsDecompiled read output p.writes p.line ⊎ (early × (p.writes ≡ []) × (p.line ≡ [])) → read ≡ Ok entries → PartlySet p.writes a.files b.files
    → PartlySet (entry_files output 0 entries) a.files b.files
chosen_set read output p a b entries early (inl m) is set =
    let same : m.entries ≡ entries = same_entries read m.entries entries m.entries_are is in
    subst (λ (ws : List NamedFile). PartlySet ws a.files b.files) (m.files ∙ ap (entry_files output 0) same) set
chosen_set read output p a b entries early (inr n) is set =
    none_set (entry_files output 0 entries) a.files b.files (subst (λ (ws : List NamedFile). PartlySet ws a.files b.files) n.1 set)

-- whatever the end, the files of a front of the entries
pub front_set : (course : Reading) (read : Result (List Recovered) Status) (output : List ℕ) (a b : World) (r : Status) → Promises course (IsDecompiled read output) a b r
    → (entries : List Recovered) → read ≡ Ok entries → PartlySet (entry_files output 0 entries) a.files b.files
front_set course read output a b r h entries is = chosen_set read output h.0 a b entries _ h.1.choice is (partly_set (ending_of r) h.0 a b r h.2)
