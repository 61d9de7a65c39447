-- How a command that reads, chooses and writes comes to what it promises.
use Rattle.std.proofs.Common.{[], ◌≡◌, ℕ, Ok, ◌≤◌, List, ◌++◌, refl, sym, ap, subst, ◌∙◌, arith, inl, inr, false, length}
use Rattle.std.proofs.lemmas.Bool.{true≢false}
use Rattle.adpcm_nums.specs.Outcome.{Tells}
use Rattle.host_files.specs.Outside.{World, raised}
use Rattle.host_files.specs.declared.named_file.NamedFile.{NamedFile}
use Rattle.command_faults.specs.declared.status.Status.{Status}
use Rattle.command_faults.specs.declared.status.Status.TheVariants.{Done, Memory}
use Rattle.command_faults.specs.declared.status.HostCall.{HostCall}
use Rattle.command_plan.specs.Ending.{Declined, ending_of, has_line, is_early, is_device}
use Rattle.command_plan.specs.Plan.{Plan, Completes, Follows, names_in}
use Rattle.command_plan.specs.Reading.{Reading, decided, unwritten, writing_calls}
use Rattle.command_plan.specs.Read.{Read, as_reading, nothing, ◌>>=◌, written_under}
use Rattle.command_plan.specs.Steps.{Comes, HasRead, Halts, Told, writing}
use Rattle.command_plan.specs.Promise.{Choice, IsPlanOf, Reaches, Promises, Finishes}
use Rattle.command_plan.proofs.Fronts.{grown_none}
use Rattle.command_plan.proofs.Cases.{either, follows_from, told_answer, outcome_of, short_at_once}
use Rattle.command_plan.proofs.Readings.{comes_moved, moved, halts_after, halts_short, waits_none}
use Rattle.command_plan.proofs.ReadOn.{then-reading, first_halts}
use Rattle.command_plan.proofs.Tests.{decides_not}

-- it came to a status by reading alone
pub ends_read : (c : Reading) (May : Choice) (a b : World) (s : Status) → Halts c a b s → Reaches c May a b s
ends_read c May a b s h = (unwritten c, record { calls = refl; outcome = refl; choice = inr (h.early, refl, refl) }, h.comes)

-- there was no memory before any call
pub short_before : (c : Reading) (May : Choice) (a : World) → Reaches c May a a Memory
short_before c May a = ends_read c May a a Memory (halts_short c a a 0 (omega arith) (waits_none a))

-- the first part of it came to a status
pub first_ends : {A B : Type 0} (c : Read A) (f : A → Read B) (May : Choice) (a b : World) (s : Status) → Halts (as_reading c) a b s → Reaches (as_reading (c >>= f)) May a b s
first_ends c f May a b s h = ends_read (as_reading (c >>= f)) May a b s (first_halts c f a b s h)

-- it was read, and there was no memory for more
pub first_short : {A B : Type 0} (c : Read A) (f : A → Read B) (May : Choice) (a b : World) → HasRead (as_reading c) a b → Reaches (as_reading (c >>= f)) May a b Memory
first_short c f May a b h = first_ends c f May a b Memory (halts_after (as_reading c) a b h)

-- it was read, and the rest came to a status
pub then_reaches : {A B : Type 0} (c : Read A) (f : A → Read B) (v : A) (May : Choice) (a m b : World) (s : Status) → c.gives ≡ Ok v → HasRead (as_reading c) a m → Reaches (as_reading (f v)) May m b s → Reaches (as_reading (c >>= f)) May a b s
then_reaches c f v May a m b s e h r =
    subst (λ (x : Reading). Reaches x May a b s) (sym (then-reading c f v e)) (
      moved c.calls r.0,
      record { calls = ap (λ (xs : List HostCall). c.calls ++ xs) r.1.calls; outcome = r.1.outcome; choice = r.1.choice },
      comes_moved c.calls r.0 a m b s h.quiet r.2,
    )

-- a choice was made, and writing it came to a status
pub written : (May : Choice) (names : List (List ℕ)) (ws : List NamedFile) (line : List ℕ) (a b : World) (s : Status) → May ws line → names_in ws ≡ names → Comes (writing ws line) a b s → Reaches (as_reading (written_under names)) May a b s
written May names ws line a b s may same r = (writing ws line, record { calls = ap writing_calls same; outcome = refl; choice = inl may }, r)

-- nothing is stored or said
pub unsaid : (May : Choice) (a : World) → May [] [] → Reaches (as_reading nothing) May a a Done
unsaid May a may = (unwritten (decided Done), record { calls = refl; outcome = refl; choice = inl may }, record { outcome = refl; files = refl; said = sym (grown_none a.said); calls = omega arith })

-- the plan stays one where there was no memory for the line of its status
kept : (c : Reading) (May : Choice) (s r : Status) (p : Plan) → Tells Memory r s → IsPlanOf c May s p → IsPlanOf c May r p
kept c May s r p one is = either (λ (t : Status). IsPlanOf c May t p) r s one is (record {
  calls = is.calls;
  outcome = is.outcome;
  choice = elim is.choice [ inl may ↦ inl may | inr none ↦ inr (refl, none.1, none.2) ];
})

-- a command up to its status, and then the line of that status
pub promised : (c : Reading) (May : Choice) (a b d : World) (s r : Status) → a.faults ≤ b.faults → Reaches c May a b s → Told (has_line (ending_of s)) s b d r → Promises c May a d r
promised c May a b d s r later h told =
    (h.0, kept c May s r h.0 (told_answer s b d r told).0 h.1, follows_from h.0 a b d s r later h.2 told)

-- where the host did not fail, the answer is the course's outcome or `Memory`
pub answers : (c : Reading) (May : Choice) (a d : World) (r : Status) → Promises c May a d r → is_device r ≡ false → Tells Memory r c.outcome
answers c May a d r h calm = subst (λ (o : Status). Tells Memory r o) h.1.outcome (outcome_of h.0 a d r h.2 calm)

-- no memory for the words
pub short_for_words : (c : Reading) (May : Choice) (a : World) → Promises c May a a Memory
short_for_words c May a = (unwritten c, record { calls = refl; outcome = refl; choice = inr (refl, refl, refl) }, short_at_once (unwritten c) a)

-- words that are no command: a refusal before any call, and its line
pub refused_at_once : (May : Choice) (a d : World) (s r : Status) → ending_of s ≡ Declined → Told (has_line (ending_of s)) s a d r → Promises (decided s) May a d r
refused_at_once May a d s r is told =
    promised (decided s) May a a d s r (omega arith) (ends_read (decided s) May a a s (decides_not s s s a is refl (inr refl))) told

-- at `Done` one choice was made, and all of it was stored and said
pub done_is : (c : Reading) (May : Choice) (a b : World) (r : Status) → Promises c May a b r → r ≡ Done → Finishes c May a b
done_is c May a b r h e =
    let f : Completes h.0 a b Done = subst (λ (s : Status). Follows h.0 a b s) e h.2 in
    elim h.1.choice as (λ _. Finishes c May a b) [
      | inl may ↦ record { outcome = sym h.1.outcome ∙ f.outcome; writes = h.0.writes; line = h.0.line; may = may; files = f.files; said = f.said; calls = f.calls ∙ ap (λ (xs : List HostCall). raised (length xs) a.calls) h.1.calls }
      | inr none ↦ absurd (true≢false (sym none.0 ∙ ap (λ (s : Status). is_early (ending_of s)) e))
    ]
