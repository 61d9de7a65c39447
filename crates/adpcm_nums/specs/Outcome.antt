-- Reading that stops at the first fault, and what a function of the code has to do with it.
use Rattle.std.specs.Prelude.{◌≡◌, ◌⊎◌, Result, Ok, Err}

infixl 10 ◌>>=◌
-- go on with what was read, or stop at the fault
abbrev pub ◌>>=◌ : {A B E : Type 0} → Result A E → (A → Result B E) → Result B E
(Ok x) >>= f = f x
(Err e) >>= f = Err e

-- the answered fault is this one, unless memory ran out
abbrev pub Tells : {E : Type 0} → E → E → E → Type 0
Tells no_memory e fault = (e ≡ no_memory) ⊎ (e ≡ fault)

-- what a function returned, seen by view, is what reading gives, unless memory ran out
abbrev pub Gives : {X Y E : Type 0} → E → (X → Y) → Result X E → Result Y E → Type 0
Gives no_memory view (Ok x) read = read ≡ Ok (view x)
Gives no_memory view (Err e) read = (e ≡ no_memory) ⊎ (read ≡ Err e)
