-- Readings one after another, and before the writing.
use Rattle.std.proofs.Common.{◌≡◌, ℕ, ◌+◌, ◌≤◌, List, [], ◌++◌, length, refl, sym, ap, subst, ◌∙◌, arith, inl, true, Option, Result, Ok, Err}
use Rattle.host_files.specs.Outside.{World, Files, grown}
use Rattle.command_faults.specs.declared.status.Status.{Status}
use Rattle.command_faults.specs.declared.status.Status.TheVariants.{Done, Memory}
use Rattle.command_faults.specs.declared.status.HostCall.{HostCall}
use Rattle.command_faults.specs.declared.status.HostCall.TheVariants.{Fetch, Store, Say}
use Rattle.command_plan.specs.Ending.{Ending, Finished, Declined, Broken, Starved, ending_of, is_early}
use Rattle.command_plan.specs.Plan.{Plan, PartlySet, LeftAt, SetBut, all_stored}
use Rattle.command_plan.specs.Reading.{Reading, unwritten}
use Rattle.command_plan.specs.Steps.{SaidAt, ComesTo, Comes, Waits, HasRead, Halts, ReadsTo}
use Rattle.command_plan.proofs.Fronts.{front_of, front_none, length-append, slice_get-front, slice_get-past}

waits_on : (n m : ℕ) (a b d : World) → Waits n a b → Waits m b d → Waits (n + m) a d
waits_on n m a b d w v = record {
  files = v.files ∙ w.files;
  said = v.said ∙ w.said;
  later = let x = w.later in let y = v.later in omega arith;
  calls = let x = w.calls in let y = v.calls in omega arith;
}

-- no call was made
pub waits_none : (a : World) → Waits 0 a a
waits_none a = record { files = refl; said = refl; later = omega arith; calls = omega arith }

-- a plan after calls that only read
abbrev pub moved : List HostCall → Plan → Plan
moved cs p = record { calls = cs ++ p.calls; outcome = p.outcome; writes = p.writes; line = p.line }

left_moved : (at : HostCall) (cs : List HostCall) (p : Plan) (j : ℕ) (a m b : Option Files) → m ≡ a → LeftAt p j at m b → LeftAt (moved cs p) (length cs + j) at a b
left_moved (Fetch name) cs p j a m b e h = h ∙ e
left_moved (Store name) cs p j a m b e h = (
  h.0,
  (let l = length-append cs p.calls in let x = h.1 in omega arith),
  subst (λ (f : Option Files). SetBut p.writes h.0 name f b) e h.2,
)
left_moved Say cs p j a m b e h = h ∙ ap (λ (f : Option Files). all_stored f p.writes) e

said_moved : (at : HostCall) (cs : List HostCall) (p : Plan) (a m b : Option (List ℕ)) → m ≡ a → SaidAt p at m b → SaidAt (moved cs p) at a b
said_moved (Fetch name) cs p a m b e h = h ∙ e
said_moved (Store name) cs p a m b e h = h ∙ e
said_moved Say cs p a m b e h = front_of a m b p.line e h

moved_to : (e : Ending) (cs : List HostCall) (p : Plan) (a m b : World) (s : Status) → Waits (length cs) a m → ComesTo e p m b s → ComesTo e (moved cs p) a b s
moved_to Finished cs p a m b s w h = record {
  outcome = h.outcome;
  files = h.files ∙ ap (λ (f : Option Files). all_stored f p.writes) w.files;
  said = h.said ∙ ap (λ o. grown o p.line) w.said;
  calls = let l = length-append cs p.calls in let x = w.calls in let y = h.calls in omega arith;
}
moved_to Declined cs p a m b s w h = record {
  outcome = h.outcome;
  files = h.files ∙ w.files;
  said = h.said ∙ w.said;
  calls = let l = length-append cs p.calls in let x = w.calls in let y = h.calls in omega arith;
}
moved_to (Broken at) cs p a m b s w h = record {
  rose = let x = w.later in let y = h.rose in omega arith;
  place = length cs + h.place;
  reached = slice_get-past cs p.calls h.place at h.reached;
  files = left_moved at cs p h.place a.files m.files b.files w.files h.files;
  said = said_moved at cs p a.said m.said b.said w.said h.said;
  calls = let x = w.calls in let y = h.calls in omega arith;
}
moved_to Starved cs p a m b s w h = record {
  files = subst (λ f. PartlySet p.writes f b.files) w.files h.files;
  said = front_of a.said m.said b.said p.line w.said h.said;
  count = length cs + h.count;
  few = let l = length-append cs p.calls in let f = h.few in omega arith;
  calls = let x = w.calls in let y = h.calls in omega arith;
}

-- a plan that came to a status after calls that only read
pub comes_moved : (cs : List HostCall) (p : Plan) (a m b : World) (s : Status) → Waits (length cs) a m → Comes p m b s → Comes (moved cs p) a b s
comes_moved cs p a m b s w h = moved_to (ending_of s) cs p a m b s w h

-- no memory after some calls that only read
pub halts_short : (c : Reading) (a b : World) (n : ℕ) → n ≤ length c.calls → Waits n a b → Halts c a b Memory
halts_short c a b n few w = record {
  comes = record { files = (0, inl w.files); said = front_none a.said b.said [] w.said; count = n; few = few; calls = w.calls };
  early = refl;
}

-- no memory after a reading
pub halts_after : (c : Reading) (a b : World) → HasRead c a b → Halts c a b Memory
halts_after c a b h = halts_short c a b (length c.calls) (omega arith) h.quiet

-- a reading that is refused after all of its calls
pub halts_declined : (c : Reading) (a b : World) (s : Status) → ending_of s ≡ Declined → c.outcome ≡ s → Waits (length c.calls) a b → Halts c a b s
halts_declined c a b s is e w = record {
  comes = subst (λ x. ComesTo x (unwritten c) a b s) (sym is) (record { outcome = e; files = w.files; said = w.said; calls = w.calls });
  early = ap is_early is;
}

-- calls that only read, and then a reading
abbrev pub behind : List HostCall → Reading → Reading
behind cs d = record { calls = cs ++ d.calls; outcome = d.outcome }

-- one reading after another
pub reads_behind : (c d : Reading) (a m b : World) → HasRead c a m → HasRead d m b → HasRead (behind c.calls d) a b
reads_behind c d a m b h r = record {
  outcome = r.outcome;
  quiet = subst (λ (k : ℕ). Waits k a b) (sym (length-append c.calls d.calls)) (waits_on _ _ a m b h.quiet r.quiet);
}

-- a reading that halts after one that was done
pub halts_behind : (c d : Reading) (a m b : World) (s : Status) → HasRead c a m → Halts d m b s → Halts (behind c.calls d) a b s
halts_behind c d a m b s h r = record { comes = comes_moved c.calls (unwritten d) a m b s h.quiet r.comes; early = r.early }

-- an early end stays one where more would be read after it
front_to : (e : Ending) (cs : List HostCall) (d : Reading) (a b : World) (s : Status) → ending_of s ≡ e → is_early e ≡ true → ComesTo e (unwritten (record { calls = cs; outcome = Done })) a b s → ComesTo e (unwritten (behind cs d)) a b s
front_to Finished cs d a b s is early h = cc
front_to Declined cs d a b s is early h = let no : Finished ≡ Declined = ap ending_of h.outcome ∙ is in cc
front_to (Broken (Fetch name)) cs d a b s is early h = record {
  rose = h.rose;
  place = h.place;
  reached = slice_get-front cs _ h.place (Fetch name) h.reached;
  files = h.files;
  said = h.said;
  calls = h.calls;
}
front_to (Broken (Store name)) cs d a b s is early h = cc
front_to (Broken Say) cs d a b s is early h = cc
front_to Starved cs d a b s is early h = record {
  files = h.files;
  said = h.said;
  count = h.count;
  few = let l = length-append cs d.calls in let f = h.few in omega arith;
  calls = h.calls;
}

-- a reading that refuses nothing and halts does so whatever would come after it
pub halts_before : (cs : List HostCall) (d : Reading) (a b : World) (s : Status) → Halts (record { calls = cs; outcome = Done }) a b s → Halts (behind cs d) a b s
halts_before cs d a b s h = record { comes = front_to (ending_of s) cs d a b s refl h.early h.comes; early = h.early }

-- a reading after another, as a function's result says it
pub reads_on : {T : Type 0} (c d : Reading) (a m b : World) (r : Result T Status) (P : T → Type 0) → HasRead c a m → ReadsTo d m b r P → ReadsTo (behind c.calls d) a b r P
reads_on c d a m b (Ok v) P h r = (reads_behind c d a m b h r.0, r.1)
reads_on c d a m b (Err s) P h r = halts_behind c d a m b s h r
