-- What is read of a certificate, over plain variables.
use Rattle.std.proofs.Common.{◌≡◌, ℕ, ◌+◌, ◌≤◌, List, length, take, refl, ap, subst, ◌∙◌, arith, Result, Ok, Err, nat_lt}
use Rattle.std.specs.Result.{IfOk}
use Rattle.std.proofs.lemmas.List.{length-take, take_all}
use Rattle.host_files.specs.Outside.{World}
use Rattle.command_faults.specs.declared.status.Status.{Status}
use Rattle.command_faults.specs.declared.status.Status.TheVariants.{Input, Refused}
use Rattle.command_plan.specs.Reading.{Reading, Declines}
use Rattle.command_plan.specs.Steps.{ReadsTo}
use Rattle.command_faults.specs.declared.input_fault.InputFault.TheVariants.{FileLong}
use Rattle.manifest_reader.specs.Meaning.{Content}
use Rattle.bank_kinds.specs.Kinds.{codec_for}
use Rattle.bank_check.specs.Proven.{proven_of}
use Rattle.tool_files.specs.declared.source.Source.{Source}
use Rattle.tool_compare.specs.Check.{proven_in}
use Rattle.command_plan.proofs.Telling.{told-declines, test-declines}

-- what else is known of a value that was read
pub reads_with : {T : Type 0} (c : Reading) (a b : World) (r : Result T Status) (P Q : T → Type 0) → ReadsTo c a b r P → IfOk r Q → ReadsTo c a b r (λ v. P v × Q v)
reads_with c a b (Ok v) P Q h q = (h.0, (h.1, q))
reads_with c a b (Err s) P Q h q = h

-- a front that is not longer than a file may be is the file
pub whole_front : (most : ℕ) (front xs : List ℕ) → front ≡ take (most + 1) xs → length front ≤ most → front ≡ xs
whole_front most front xs e few =
    let same = ap (λ (z : List ℕ). length z) e in
    e ∙ take_all (most + 1) xs (omega (arith, length-take (most + 1) xs, same, few))

-- what holds of the front then holds of the file
pub of_whole : {T : Type 0} (most : ℕ) (front xs : List ℕ) (r : Result T Status) (P : List ℕ → T → Type 0) → front ≡ take (most + 1) xs → IfOk r (λ v. length front ≤ most) → IfOk r (P front) → IfOk r (P xs)
of_whole most front xs (Ok v) P e few h = subst (λ (z : List ℕ). P z v) (whole_front most front xs e few) h
of_whole most front xs (Err s) P e few h = tt

-- what the front of a certificate proves is refused or told
pub proven-declines : (m : Content) (s : Source) (front : List ℕ) → Declines (proven_in m s front)
unfolding proven_in
proven-declines m s front =
    test-declines (nat_lt 33554432 (length front)) (Err (Input s.name (FileLong 33554432))) _ refl (told-declines (λ f. Refused s.name f) (proven_of (codec_for m.kind m.block) s.fitted front) (λ f. refl))
