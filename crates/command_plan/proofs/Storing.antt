-- Files stored in order, and the ways in which that ends.
use Rattle.std.proofs.Common.{◌≡◌, ℕ, zero, suc, ◌+◌, ◌≤◌, List, [], ◌∷◌, ◌++◌, length, take, refl, sym, ap, subst, ◌∙◌, arith, inl, inr, Some, Option, option_map, slice_get}
use Rattle.std.proofs.lemmas.Grind.{common_steps}
use Rattle.std.proofs.lemmas.Option.{slice_get_within}
use Rattle.std.proofs.lemmas.List.{take_all}
use Rattle.adpcm_nums.specs.Outcome.{Tells}
use Rattle.host_files.specs.Outside.{World, Files, stored, without, grown, GrowsByFront, raised, Rose}
use Rattle.host_files.specs.declared.named_file.NamedFile.{NamedFile}
use Rattle.command_faults.specs.declared.status.Status.{Status}
use Rattle.command_faults.specs.declared.status.Status.TheVariants.{Done, Device, Memory}
use Rattle.command_faults.specs.declared.status.HostCall.TheVariants.{Store, Say}
use Rattle.command_plan.specs.Plan.{names_in, all_stored, SetBut, Completes}
use Rattle.command_plan.specs.Reading.{writing_calls}
use Rattle.command_plan.specs.Steps.{Comes, Stops, Lacks, writing, HasStored}
use Rattle.command_plan.proofs.Fronts.{front_of, front_none, take-next, length-front}
use Rattle.command_plan.proofs.Cases.{either}

all_stored-more : (files : Option Files) (ws : List NamedFile) (w : NamedFile) → all_stored files (ws ++ w ∷ []) ≡ stored (all_stored files ws) w.name w.bytes
all_stored-more files [] w = refl
all_stored-more files (v ∷ ws) w = all_stored-more (stored files v.name v.bytes) ws w

length-more : {X : Type 0} (xs : List X) (x : X) → length (xs ++ x ∷ []) ≡ length xs + 1
length-more xs x = grind (arith, common_steps)

length-calls : (ws : List NamedFile) → length (writing_calls (names_in ws)) ≡ length ws + 1
length-calls ws = grind (arith, common_steps)

-- the call that stores a file, and the last one
call_at : (ws : List NamedFile) (k : ℕ) (w : NamedFile) → slice_get ws k ≡ Some w → slice_get (writing_calls (names_in ws)) k ≡ Some (Store w.name)
call_at [] k w e = let h = slice_get_within [] k w e in let no : ⊥ = omega arith in absurd no
call_at (v ∷ ws) zero w e = ap (option_map (λ (x : NamedFile). Store x.name)) e
call_at (v ∷ ws) (suc k) w e = call_at ws k w e

last_call : (ws : List NamedFile) → slice_get (writing_calls (names_in ws)) (length ws) ≡ Some Say
last_call [] = refl
last_call (v ∷ ws) = last_call ws

name_at : (ws : List NamedFile) (k : ℕ) (w : NamedFile) → slice_get ws k ≡ Some w → slice_get (names_in ws) k ≡ Some w.name
name_at [] k w e = let h = slice_get_within [] k w e in let no : ⊥ = omega arith in absurd no
name_at (v ∷ ws) zero w e = ap (option_map (λ (x : NamedFile). x.name)) e
name_at (v ∷ ws) (suc k) w e = name_at ws k w e

-- one more is stored
pub stored_more : (ws : List NamedFile) (k : ℕ) (w : NamedFile) (name bytes : List ℕ) (a m b : World) → slice_get ws k ≡ Some w → name ≡ w.name → bytes ≡ w.bytes → HasStored (take k ws) a m → b.files ≡ stored m.files name bytes → b.said ≡ m.said → m.faults ≤ b.faults → b.calls ≡ raised 1 m.calls → HasStored (take (k + 1) ws) a b
stored_more ws k w name bytes a m b at n bs h files said later calls =
    let next = take-next ws k w at in
    record {
      files = files ∙ ap (λ x. stored m.files x bytes) n ∙ ap (λ x. stored m.files w.name x) bs ∙ ap (λ f. stored f w.name w.bytes) h.files ∙ sym (ap (all_stored a.files) next ∙ all_stored-more a.files (take k ws) w);
      said = said ∙ h.said;
      later = let l = h.later in omega arith;
      calls = let e = ap length next ∙ length-more (take k ws) w in let x = h.calls in omega arith;
    }

-- one was not stored
set_but : (ws : List NamedFile) (k : ℕ) (w : NamedFile) (name : List ℕ) (a m b : World) → slice_get ws k ≡ Some w → name ≡ w.name → HasStored (take k ws) a m → without name b.files ≡ without name m.files → SetBut ws k w.name a.files b.files
set_but ws k w name a m b at n h e = record {
  next = name_at ws k w at;
  others = subst (λ x. without x b.files ≡ without x m.files) n e ∙ ap (without w.name) h.files;
}

-- there was no memory for one of them
pub store_lacks : (ws : List NamedFile) (k : ℕ) (w : NamedFile) (name : List ℕ) (a m b : World) → slice_get ws k ≡ Some w → name ≡ w.name → HasStored (take k ws) a m → without name b.files ≡ without name m.files → b.said ≡ m.said → b.calls ≡ raised 1 m.calls → (line : List ℕ) → Lacks (writing ws line) a b
store_lacks ws k w name a m b at n h left said calls line = record {
  files = (k, inr (w.name, set_but ws k w name a m b at n h left));
  said = front_none a.said b.said line (said ∙ h.said);
  count = k + 1;
  few = let l = length-calls ws in let s = slice_get_within ws k w at in omega arith;
  calls = let f = length-front ws k w at in let x = h.calls in omega arith;
}

-- the host failed at one of them
pub store_stops : (ws : List NamedFile) (k : ℕ) (w : NamedFile) (name : List ℕ) (a m b : World) (s : Status) → slice_get ws k ≡ Some w → name ≡ w.name → HasStored (take k ws) a m → without name b.files ≡ without name m.files → b.said ≡ m.said → b.calls ≡ raised 1 m.calls → Rose m.faults b.faults → Tells Memory s (Device (Store name)) → (line : List ℕ) → Comes (writing ws line) a b s
store_stops ws k w name a m b s at n h left said calls rose one line =
    let named : Tells Memory s (Device (Store w.name)) = subst (λ (x : List ℕ). Tells Memory s (Device (Store x))) n one in
    either (λ t. Comes (writing ws line) a b t) s _ named
    (record {
      rose = let l = h.later in omega arith;
      place = k;
      reached = call_at ws k w at;
      files = (k, (let l = length-calls ws in omega arith), set_but ws k w name a m b at n h left);
      said = said ∙ h.said;
      calls = let f = length-front ws k w at in let x = h.calls in omega arith;
    })
    (store_lacks ws k w name a m b at n h left said calls line)

-- all are stored, and the line is said
pub all_written : (ws : List NamedFile) (line : List ℕ) (a m b : World) → HasStored ws a m → b.files ≡ m.files → b.said ≡ grown m.said line → b.calls ≡ raised 1 m.calls → Completes (writing ws line) a b Done
all_written ws line a m b h files said calls = record {
  outcome = refl;
  files = files ∙ h.files;
  said = said ∙ ap (λ o. grown o line) h.said;
  calls = let l = length-calls ws in let x = h.calls in omega arith;
}

-- the host failed at the line
pub say_stops : (ws : List NamedFile) (line : List ℕ) (a m b : World) → HasStored ws a m → b.files ≡ m.files → GrowsByFront m.said b.said line → b.calls ≡ raised 1 m.calls → Rose m.faults b.faults → Stops (writing ws line) a b Say
say_stops ws line a m b h files front calls rose = record {
  rose = let l = h.later in omega arith;
  place = length ws;
  reached = last_call ws;
  files = files ∙ h.files;
  said = front_of a.said m.said b.said line h.said front;
  calls = let x = h.calls in omega arith;
}

-- there was no memory for the line
pub say_lacks : (ws : List NamedFile) (line : List ℕ) (a m b : World) → HasStored ws a m → b.files ≡ m.files → GrowsByFront m.said b.said line → b.calls ≡ raised 1 m.calls → Lacks (writing ws line) a b
say_lacks ws line a m b h files front calls = record {
  files = (length ws, inl (files ∙ h.files ∙ ap (all_stored a.files) (sym (take_all (length ws) ws (omega arith)))));
  said = front_of a.said m.said b.said line h.said front;
  count = length ws + 1;
  few = let l = length-calls ws in omega arith;
  calls = let x = h.calls in omega arith;
}
