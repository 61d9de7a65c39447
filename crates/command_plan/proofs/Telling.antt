-- Readings of what was fetched, over plain variables: a refusal, and the bytes that were fetched.
use Rattle.std.proofs.Common.{◌≡◌, ℕ, ◌+◌, List, take, Bool, true, false, cond, Result, Ok, Err}
use Rattle.adpcm_nums.specs.Outcome.{◌>>=◌}
use Rattle.host_files.specs.Outside.{Files, content_of}
use Rattle.command_faults.specs.declared.status.Status.{Status}
use Rattle.command_plan.specs.Ending.{Declined, ending_of}
use Rattle.command_plan.specs.Reading.{Declines}
use Rattle.command_plan.specs.Front.{front_in, or_told}

-- a fault that is told is a refusal
pub told-declines : {X E : Type 0} (tell : E → Status) (r : Result X E) → ((e : E) → ending_of (tell e) ≡ Declined) → Declines (or_told tell r)
told-declines tell (Ok x) d = tt
told-declines tell (Err e) d = d e

-- one reading after another
pub then-declines : {X Y : Type 0} (r : Result X Status) (f : X → Result Y Status) → Declines r → ((x : X) → Declines (f x)) → Declines (r >>= f)
then-declines (Ok x) f d k = k x
then-declines (Err s) f d k = d

-- a test between two readings
pub test-declines : {X : Type 0} (b : Bool) (r q : Result X Status) → Declines r → Declines q → Declines (cond b r q)
test-declines true r q d k = d
test-declines false r q d k = k

-- the bytes that were fetched
pub is_front : (files : Files) (name bytes : List ℕ) (most : ℕ) → bytes ≡ take (most + 1) (content_of files name) → bytes ≡ front_in files name most
unfolding front_in
is_front files name bytes most e = e

-- an answer is one value or one refusal
pub ok-one : {A E : Type 0} (r : Result A E) (x y : A) → r ≡ Ok x → r ≡ Ok y → x ≡ y
ok-one r x y one other = cc

pub ok-err : {A E : Type 0} (r : Result A E) (x : A) (e : E) → r ≡ Ok x → r ≡ Err e → ⊥
ok-err r x e good bad = cc
