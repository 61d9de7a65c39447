-- What the tests of a shape tell, and what comes of a list that passes them.
use Rattle.std.proofs.Common.{◌≡◌, ℕ, Bool, true, false, get_or, refl, sym, ◌∙◌, subst, Ok, Err, inl, inr, IsTrue}
use Rattle.std.specs.Prelude.{not, ◌==◌, Result, Option, Some, None, IfOk}
use Rattle.std.specs.Bool.{⊤}
use Rattle.std.proofs.lemmas.Bool.{cases_Bool, cond-false, eqb-true, true≢false}
use Rattle.adpcm_nums.specs.Outcome.{◌>>=◌}
use Rattle.adpcm_nums.specs.First.{first_where}
use Rattle.adpcm_nums.proofs.FirstLaws.{none_passes}
use Rattle.machine_core.specs.Decoder.{Decoder}
use Rattle.machine_core.specs.Blocks.{Blocks, IsInRange, IsLegal, Obeys, rule_of}
use Rattle.loop_fit.specs.declared.fitted.Fitted.{Fitted}
use Rattle.command_faults.specs.declared.input_fault.InputFault.{InputFault}
use Rattle.command_faults.specs.declared.input_fault.ShapePart.{ShapePart}
use Rattle.bank_kinds.specs.Codec.{Codec, fixed_in}
use Rattle.bank_check.specs.Shape.{tested, head_tested, is_unruled, flagged_shape, block_number}
use Rattle.bank_check.specs.Errors.{error_in, where_shaped, IsStoredError}
use Rattle.bank_check.proofs.Certifying.{past-first}

pub tested-ok : (what : ShapePart) (have need : ℕ) (u : ⊤) → tested what have need ≡ Ok u → have ≡ need
tested-ok what have need u e = elim (cases_Bool (have == need)) [
  | inl same ↦ eqb-true have need same
  | inr other ↦ absurd (let err = sym (cond-false (have == need) _ _ other) ∙ e in cc)
]

head-ok : (o : Option ℕ) (u : ⊤) → head_tested o ≡ Ok u → o ≡ None
head-ok None u e = refl
head-ok (Some block) u e = absurd (cc)

-- blocks that passed the tests
pub record IsFlagged (d : Decoder) (fixed : ℕ → Bool) (fitted : Fitted) (blocks : ℕ) (list : Blocks) : Type 0 where
  pub blocks_are : blocks ≡ fitted.blocks
  pub ruled : first_where (is_unruled d fixed list) blocks ≡ None

pub flagged-ok : (d : Decoder) (fixed : ℕ → Bool) (fitted : Fitted) (blocks : ℕ) (loop_block : Option ℕ) (list : Blocks) (u : ⊤) → flagged_shape d fixed fitted blocks loop_block list ≡ Ok u → IsFlagged d fixed fitted blocks list
unfolding flagged_shape
flagged-ok d fixed fitted blocks loop_block list u e =
    let counted = past-first (tested ShapePart.Blocks blocks fitted.blocks) _ u e in
    let looped = past-first (tested ShapePart.LoopBlock (block_number loop_block) (block_number fitted.loop_block)) _ u counted.2 in
    record { blocks_are = tested-ok _ _ _ counted.0 counted.1; ruled = head-ok (first_where (is_unruled d fixed list) blocks) u looped.2 }

not-not : (a : Bool) → not a ≡ false → IsTrue a
not-not true e = refl
not-not false e = absurd (true≢false e)

pub ruled-obeys : (d : Decoder) (fixed : ℕ → Bool) (blocks : ℕ) (list : Blocks) → first_where (is_unruled d fixed list) blocks ≡ None → Obeys d blocks fixed list
ruled-obeys d fixed blocks list none = record { allowed = λ b below. not-not (d.allows (get_or list.heads b 0) (rule_of fixed b)) (none_passes (is_unruled d fixed list) blocks b none below) }

-- so such a list is legal
pub flagged-legal : (d : Decoder) (fixed : ℕ → Bool) (fitted : Fitted) (blocks : ℕ) (list : Blocks) → IsInRange d blocks list → IsFlagged d fixed fitted blocks list → IsLegal d fitted.blocks fixed list
flagged-legal d fixed fitted blocks list range is =
    subst (λ (n : ℕ). IsLegal d n fixed list) is.blocks_are (record { in_range = range; obeys = ruled-obeys d fixed blocks list is.ruled })

-- a list where its shape was tested
pub shaped-ok : (shape : Result ⊤ InputFault) (list found : Blocks) → where_shaped shape list ≡ Ok found → (u : ⊤) × (shape ≡ Ok u) × (list ≡ found)
shaped-ok (Ok u) list found e = (u, refl, (cc))
shaped-ok (Err f) list found e = absurd (cc)

pub same-list : (shape : Result ⊤ InputFault) (list : Blocks) → (shape >>= (λ u. Ok list)) ≡ where_shaped shape list
same-list (Ok u) list = refl
same-list (Err f) list = refl

-- what is answered for a list that is legal
pub stored-if : (c : Codec) (fitted : Fitted) (read : Result Blocks InputFault) (answer : Result ℕ InputFault) → answer ≡ error_in c.rules.decoder fitted read
    → ((list : Blocks) → read ≡ Ok list → IsLegal c.rules.decoder fitted.blocks (fixed_in c fitted) list) → IfOk answer (IsStoredError c fitted read)
stored-if c fitted (Ok list) answer e legal =
    subst (λ (z : Result ℕ InputFault). IfOk z (IsStoredError c fitted (Ok list))) (sym e) (record { list = list; list_is = refl; legal = legal list refl; error_is = refl })
stored-if c fitted (Err f) answer e legal = subst (λ (z : Result ℕ InputFault). IfOk z (IsStoredError c fitted (Err f))) (sym e) tt
