-- What is read of the stored files of a bank, over plain variables.
use Rattle.std.proofs.Common.{◌≡◌, ℕ, List, refl, ap, subst, inl, inr, Result, Ok, Err}
use Rattle.std.specs.Result.{IfOk}
use Rattle.adpcm_nums.specs.Outcome.{Gives}
use Rattle.host_files.specs.Outside.{World}
use Rattle.machine_core.specs.Blocks.{Blocks}
use Rattle.loop_fit.specs.declared.fitted.Fitted.{Fitted}
use Rattle.bank_kinds.specs.Codec.{Codec}
use Rattle.bank_check.specs.Errors.{error_in, IsStoredError}
use Rattle.command_faults.specs.declared.status.Status.{Status}
use Rattle.command_faults.specs.declared.status.Status.TheVariants.{Input, Memory}
use Rattle.command_faults.specs.declared.input_fault.InputFault.{InputFault}
use Rattle.command_plan.specs.Reading.{fetched, status_of}
use Rattle.command_plan.specs.Read.{as_reading, fetched_for, given}
use Rattle.command_plan.specs.Steps.{HasRead, ReadsTo}
use Rattle.command_plan.proofs.Tests.{decides}
use Rattle.command_plan.proofs.Readings.{reads_on}
use Rattle.command_plan.proofs.ReadOn.{given_refused}
use Rattle.command_plan.specs.Front.{or_told}
use Rattle.command_plan.proofs.Telling.{told-declines}

-- of an error and of its list the same is refused
same-fault : (d : Codec) (fitted : Fitted) (tell : InputFault → Status) (list : Result Blocks InputFault) (s : Status) → or_told tell (error_in d.rules.decoder fitted list) ≡ Err s → or_told tell list ≡ Err s
same-fault d fitted tell (Ok l) s e = absurd (cc)
same-fault d fitted tell (Err f) s e = let same : tell f ≡ s = cc in ap (λ z. Err z) same

answered : {E : Type 0} (c : Codec) (fitted : Fitted) (list : Result Blocks InputFault) (answer : Result ℕ E) (r : Result ℕ Status) → IfOk answer (IsStoredError c fitted list) → IfOk r (λ e. answer ≡ Ok e) → IfOk r (IsStoredError c fitted list)
answered {E = E} c fitted list answer (Ok e) stored same = subst (λ (z : Result ℕ E). IfOk z (IsStoredError c fitted list)) same stored
answered c fitted list answer (Err s) stored same = tt

-- a list was looked at, or its fault was found
list_reads : {E : Type 0} (c : Codec) (fitted : Fitted) (sample : List ℕ) (list : Result Blocks InputFault) (answer : Result ℕ E) (r : Result ℕ Status) (a : World) → IfOk answer (IsStoredError c fitted list) → IfOk r (λ e. answer ≡ Ok e)
    → Gives Memory (λ e. e) r (or_told (λ f. Input sample f) (error_in c.rules.decoder fitted list)) → ReadsTo (as_reading (given (or_told (λ f. Input sample f) list))) a a r (IsStoredError c fitted list)
list_reads c fitted sample list answer (Ok e) a stored same g =
    let is = answered c fitted list answer (Ok e) stored same in
    (decides (status_of (or_told (λ f. Input sample f) list)) a (ap status_of (ap (or_told (λ f. Input sample f)) is.list_is)), is)
list_reads c fitted sample list answer (Err s) a stored same g =
    given_refused (or_told (λ f. Input sample f) list) s a (told-declines (λ f. Input sample f) list (λ f. refl)) (elim g [ inl e ↦ inl e | inr e ↦ inr (same-fault c fitted (λ f. Input sample f) list s e) ])

-- that of a file of its own, which was fetched
pub own_reads : {E : Type 0} (c : Codec) (fitted : Fitted) (name sample : List ℕ) (list : Result Blocks InputFault) (answer : Result ℕ E) (r : Result ℕ Status) (a b : World) → HasRead (fetched name) a b
    → IfOk answer (IsStoredError c fitted list) → IfOk r (λ e. answer ≡ Ok e) → Gives Memory (λ e. e) r (or_told (λ f. Input sample f) (error_in c.rules.decoder fitted list))
    → ReadsTo (as_reading (fetched_for name (or_told (λ f. Input sample f) list))) a b r (IsStoredError c fitted list)
own_reads c fitted name sample list answer r a b h stored same g =
    reads_on (fetched name) (as_reading (given (or_told (λ f. Input sample f) list))) a b b r (IsStoredError c fitted list) h (list_reads c fitted sample list answer r b stored same g)

-- that of an entry of the image
pub entry_reads : (c : Codec) (fitted : Fitted) (sample : List ℕ) (list : Result Blocks InputFault) (found : Result ℕ InputFault) (r : Result ℕ Status) (a : World) → found ≡ error_in c.rules.decoder fitted list
    → IfOk found (IsStoredError c fitted list) → IfOk r (λ e. found ≡ Ok e) → Gives Memory (λ e. e) r (or_told (λ f. Input sample f) found)
    → ReadsTo (as_reading (given (or_told (λ f. Input sample f) list))) a a r (IsStoredError c fitted list)
entry_reads c fitted sample list found r a value stored same g =
    list_reads c fitted sample list found r a stored same (subst (λ (z : Result ℕ InputFault). Gives Memory (λ e. e) r (or_told (λ f. Input sample f) z)) value g)
