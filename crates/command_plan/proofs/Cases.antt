-- The cases of a status, and the last act of a command.
use Rattle.std.proofs.Common.{◌≡◌, ◌⊎◌, ℕ, ◌+◌, ◌<◌, ◌≤◌, length, refl, sym, ap, subst, ◌∙◌, arith, inl, inr, Bool, true, false, Option}
use Rattle.std.proofs.lemmas.Bool.{true≢false}
use Rattle.std.proofs.lemmas.Option.{slice_get_within}
use Rattle.adpcm_nums.specs.Outcome.{Tells}
use Rattle.host_files.specs.Outside.{World, Files, grown, raised}
use Rattle.command_faults.specs.declared.status.Status.{Status}
use Rattle.command_faults.specs.declared.status.Status.TheVariants.{Memory}
use Rattle.command_faults.specs.declared.status.HostCall.{HostCall}
use Rattle.command_faults.specs.declared.status.HostCall.TheVariants.{Fetch, Store, Say}
use Rattle.command_plan.specs.Ending.{Ending, Finished, Declined, Broken, Starved, ending_of, is_device, is_broken, has_line}
use Rattle.command_faults.specs.Lines.{fault_line}
use Rattle.command_plan.specs.Plan.{Plan, PartlySet, Refuses, Breaks, LeftAt, CameTo, refused as was_refused, failed, RunsShort, FollowsTo, Follows}
use Rattle.command_plan.specs.Steps.{Stays, Stops, ComesTo, Comes, SaysIts, Tries, Told}
use Rattle.command_plan.proofs.Fronts.{front_none, front_of}

-- what holds of a status and of want of memory holds of the one that is answered
pub either : (P : Status → Type 0) (r s : Status) → Tells Memory r s → P s → P Memory → P r
either P r s one p q = elim one [ inl e ↦ subst P (sym e) q | inr e ↦ subst P (sym e) p ]

-- `Memory` alone tells of want of memory
pub is_memory : (s : Status) → ending_of s ≡ Starved → s ≡ Memory
is_memory Memory e = refl
is_memory s e = cc

-- a refusal, whichever it is
pub comes_declined : (p : Plan) (a b : World) (s : Status) → ending_of s ≡ Declined → Stays p a b s → Comes p a b s
comes_declined p a b s e h = subst (λ x. ComesTo x p a b s) (sym e) h

-- a status that was come to stays so while its line is said
came_on : (p : Plan) (a b d : World) (s : Status) → d.files ≡ b.files → b.faults ≤ d.faults → CameTo p a b s → CameTo p a d s
came_on p a b d s files later (was_refused outcome declined same) = was_refused outcome declined (files ∙ same)
came_on p a b d s files later (failed at place broken reached left rose) =
    failed at place broken reached (subst (λ (x : Option Files). LeftAt p place at a.files x) (sym files) left) (omega (arith, later, rose))

-- no memory for the line of a status that was come to, after some files were set
short_after : (p : Plan) (a b d : World) (s r : Status) (n : ℕ) → PartlySet p.writes a.files b.files → CameTo p a b s → b.said ≡ a.said → n ≤ length p.calls → b.calls ≡ raised n a.calls → Tries s b d r → RunsShort p a d
short_after p a b d s r n set came same few count t = record {
  files = subst (λ (f : Option Files). PartlySet p.writes a.files f) (sym t.files) set;
  said = inr (s, came_on p a b d s t.files t.later came, front_of a.said b.said d.said (fault_line s) same t.front);
  count = n + t.count;
  few = let one = t.few in omega arith;
  calls = let more = t.calls in omega arith;
}

-- how a command ends that comes to a status and then says its line: as that status says, or short of memory
abbrev pub Ends : Ending → Plan → World → World → Status → Status → Type 0
Ends e p a d s r = ((r ≡ s) × FollowsTo e p a d s) ⊎ ((r ≡ Memory) × RunsShort p a d)

refused : (p : Plan) (a b d : World) (s r : Status) → Stays p a b s → Tries s b d r → a.faults ≤ b.faults → SaysIts s b d → Refuses p a d s
refused p a b d s r st t later is = record {
  outcome = st.outcome;
  files = t.files ∙ st.files;
  front = front_of a.said b.said d.said (fault_line s) st.said t.front;
  whole = λ calm. is.whole (λ rose. calm (omega (arith, rose))) ∙ ap (λ o. grown o (fault_line s)) st.said;
  calls = let more = is.calls in let first = st.calls in omega arith;
}

-- a refusal and its line
ends_refused : (p : Plan) (a b d : World) (s r : Status) → ending_of s ≡ Declined → a.faults ≤ b.faults → Stays p a b s → Tries s b d r → Ends Declined p a d s r
ends_refused p a b d s r is later st t = elim t.answer [
  | inl h ↦ inl (h.0, refused p a b d s r st t later h.1)
  | inr e ↦ inr (e, short_after p a b d s r (length p.calls) (0, inl st.files) (was_refused st.outcome is st.files) st.said (omega arith) st.calls t)
]

le_same : (b d : World) → d ≡ b → b.faults ≤ d.faults
le_same b d e = let same = ap (λ (w : World). w.faults) e in omega arith

-- a call of the host that failed, and the line of that
ends_broken : (p : Plan) (a b d : World) (at : HostCall) (s r : Status) → ending_of s ≡ Broken at → (st : Stops p a b at) (t : Tries s b d r) → PartlySet p.writes a.files b.files → b.said ≡ a.said → (SaysIts s b d → Breaks p a d s at) → Ends (Broken at) p a d s r
ends_broken p a b d at s r is st t set same breaks =
    let few : st.place < length p.calls = slice_get_within p.calls st.place at st.reached in
    elim t.answer [
      | inl h ↦ inl (h.0, breaks h.1)
      | inr e ↦ inr (e, short_after p a b d s r (st.place + 1) set (failed at st.place is st.reached st.files st.rose) same (omega arith) st.calls t)
    ]

told_none : (e : Ending) (p : Plan) (a b d : World) (s r : Status) → FollowsTo e p a b s → d ≡ b → r ≡ s → Ends e p a d s r
told_none e p a b d s r f same answer = inl (answer, subst (λ (w : World). FollowsTo e p a w s) (sym same) f)

-- a command up to its status, and then the line of that status
ends_from : (e : Ending) (p : Plan) (a b d : World) (s r : Status) → ending_of s ≡ e → a.faults ≤ b.faults → ComesTo e p a b s → Told (has_line e) s b d r → Ends e p a d s r
ends_from Finished p a b d s r is later f t = told_none Finished p a b d s r f t.0 t.1
ends_from Declined p a b d s r is later f t = ends_refused p a b d s r is later f t
ends_from (Broken (Fetch name)) p a b d s r is later f t = ends_broken p a b d (Fetch name) s r is f t (0, inl f.files) f.said (λ whole. record {
  rose = let l = t.later in let ro = f.rose in omega arith;
  place = f.place;
  reached = f.reached;
  files = t.files ∙ f.files;
  front = front_of a.said b.said d.said (fault_line s) f.said t.front;
  calls = let more = whole.calls in let first = f.calls in omega arith;
})
ends_from (Broken (Store name)) p a b d s r is later f t = ends_broken p a b d (Store name) s r is f t (f.files.0, inr (name, f.files.2)) f.said (λ whole. record {
  rose = let l = t.later in let ro = f.rose in omega arith;
  place = f.place;
  reached = f.reached;
  files = subst (λ (x : Option Files). LeftAt p f.place (Store name) a.files x) (sym t.files) f.files;
  front = front_of a.said b.said d.said (fault_line s) f.said t.front;
  calls = let more = whole.calls in let first = f.calls in omega arith;
})
ends_from (Broken Say) p a b d s r is later f t =
    told_none (Broken Say) p a b d s r (record { rose = f.rose; place = f.place; reached = f.reached; files = f.files; front = f.said; calls = f.calls }) t.0 t.1
ends_from Starved p a b d s r is later f t =
    told_none Starved p a b d s r (record { files = f.files; said = inl f.said; count = f.count; few = let n = f.few in omega arith; calls = f.calls }) t.0 t.1

-- a plan up to its status, and then the line of that status: the world stands as the plan says
pub follows_from : (p : Plan) (a b d : World) (s r : Status) → a.faults ≤ b.faults → Comes p a b s → Told (has_line (ending_of s)) s b d r → Follows p a d r
follows_from p a b d s r later f t = elim (ends_from (ending_of s) p a b d s r refl later f t) [
  | inl h ↦ subst (λ (x : Status). Follows p a d x) (sym h.0) h.1
  | inr h ↦ subst (λ (x : Status). Follows p a d x) (sym h.0) h.1
]

told_by : (line : Bool) (s : Status) (b d : World) (r : Status) → Told line s b d r → Tells Memory r s × (b.faults ≤ d.faults)
told_by true s b d r t = (elim t.answer [ inl h ↦ inr h.0 | inr e ↦ inl e ], t.later)
told_by false s b d r t = (inr t.1, le_same b d t.0)

-- the answer is the status or `Memory`, and no fault is taken back
pub told_answer : (s : Status) (b d : World) (r : Status) → Told (has_line (ending_of s)) s b d r → Tells Memory r s × (b.faults ≤ d.faults)
told_answer s b d r t = told_by (has_line (ending_of s)) s b d r t

-- no memory for the words
pub short_at_once : (p : Plan) (a : World) → RunsShort p a a
short_at_once p a = record { files = (0, inl refl); said = inl (front_none a.said a.said p.line refl); count = 0; few = omega arith; calls = omega arith }

outcome_by : (e : Ending) (p : Plan) (a b : World) (r : Status) → ending_of r ≡ e → FollowsTo e p a b r → is_broken e ≡ false → Tells Memory r p.outcome
outcome_by Finished p a b r same f calm = inr (sym f.outcome)
outcome_by Declined p a b r same f calm = inr (sym f.outcome)
outcome_by (Broken at) p a b r same f calm = absurd (true≢false calm)
outcome_by Starved p a b r same f calm = inl (is_memory r same)

-- where the host did not fail, the answer is the plan's outcome or `Memory`
pub outcome_of : (p : Plan) (a b : World) (r : Status) → Follows p a b r → is_device r ≡ false → Tells Memory r p.outcome
outcome_of p a b r f calm = outcome_by (ending_of r) p a b r refl f calm
