-- What follows where a file of chunks has a fault or none.
use Rattle.std.proofs.Common.{◌≡◌, ℕ, ◌+◌, ◌≤◌, Bool, true, false, List, [], ◌∷◌, Option, Some, None, Ok, Err, refl, cond}
use Rattle.std.specs.Prelude.{find, IfOk, option_map, if◌then◌else◌, ◌||◌}
use Rattle.std.specs.Option.{option_or}
use Rattle.std.proofs.lemmas.Bool.{ltb-false}
use Rattle.wave_form.specs.declared.chunks.Chunks.{Chunks}
use Rattle.wave_form.specs.declared.fault.WaveFault.{WaveFault}
use Rattle.wave_form.specs.declared.fault.WaveFault.TheVariants.{Streaming, Truncated, DataTwice}
use Rattle.wave_form.specs.Span.{LiesIn}
use Rattle.wave_form.specs.Heads.{Head}
use Rattle.wave_form.specs.Walk.{is_named, is_data, body_of, first_body, chunks_of, head_fault, first_fault, unless, AllLieIn}

-- an answer comes where there is no fault
pub unless-ok : {A : Type 0} (fault : Option WaveFault) (x y : A) → unless fault x ≡ Ok y → (fault ≡ None) × (x ≡ y)
unless-ok None x y e = (refl, cc)
unless-ok (Some fault) x y e = cc

-- a fault that is answered is there
pub unless-err : {A : Type 0} (fault : Option WaveFault) (x : A) (e : WaveFault) → unless fault x ≡ Err e → fault ≡ Some e
unless-err None x e is = cc
unless-err (Some fault) x e is = cc

-- no fault early or late: neither of both
pub or-none : (early late : Option WaveFault) → option_or early late ≡ None → (early ≡ None) × (late ≡ None)
or-none None late e = (refl, e)
or-none (Some fault) late e = cc

-- of the three tests the second was passed
whole_body : (streams cut twice : Bool) (at : ℕ)
    → (if streams then Some Streaming else (if cut then Some (Truncated at) else (if twice then Some DataTwice else None))) ≡ None → cut ≡ false
whole_body true cut twice at e = cc
whole_body false true twice at e = cc
whole_body false false twice at e = refl

-- a chunk without fault has its whole body
pub head_fits : (len : ℕ) (before : Bool) (head : Head) → head_fault len before head ≡ None → head.at + 8 + head.size ≤ len
unfolding head_fault
head_fits len before head e = ltb-false _ _ (whole_body _ _ _ head.at e)

-- what is found here or later lies in the file
found_lies : (len : ℕ) (here : Bool) (head : Head) (later : Option Head) → head.at + 8 + head.size ≤ len → LiesIn len (option_map body_of later)
    → LiesIn len (option_map body_of (cond here (Some head) later))
found_lies len true head later fits rest = fits
found_lies len false head later fits rest = rest

-- where there is no fault the bodies lie in the file
body_lies : (len : ℕ) (before : Bool) (id : List ℕ) (heads : List Head) → first_fault len before heads ≡ None → LiesIn len (first_body id heads)
unfolding first_fault
body_lies len before id [] none = tt
body_lies len before id (head ∷ heads) none =
    let both = or-none (head_fault len before head) (first_fault len (before || is_data head) heads) none in
    found_lies len (is_named id head) head (find (is_named id) heads) (head_fits len before head both.0) (body_lies len (before || is_data head) id heads both.1)

-- what holds where there is no fault holds of an answer
unless_fault : (len : ℕ) (chunks : Chunks) (fault : Option WaveFault) → (fault ≡ None → AllLieIn len chunks) → IfOk (unless fault chunks) (AllLieIn len)
unless_fault len chunks None lie = lie refl
unless_fault len chunks (Some fault) lie = tt

-- so all bodies that are answered lie in the file
pub all_lie : (len : ℕ) (before : Bool) (heads : List Head) → IfOk (unless (first_fault len before heads) (chunks_of heads)) (AllLieIn len)
all_lie len before heads =
    unless_fault len (chunks_of heads) (first_fault len before heads)
    (λ none. record { fmt = body_lies len before _ heads none; pcm = body_lies len before _ heads none; smpl = body_lies len before _ heads none; fact = body_lies len before _ heads none })
