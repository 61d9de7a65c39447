-- The command `block`, over plain variables.
use Rattle.std.proofs.Common.{◌≡◌, ℕ, ◌<◌, ◌≤◌, ◌==◌, min, List, [], ◌∷◌, length, ℤ, refl, sym, ap, subst, ◌∙◌, arith, inl, inr, true, false, cond, nat_lt, Ok, Err}
use Rattle.std.proofs.lemmas.Bool.{cases_eq, cases_order, cond-true, cond-false, lt-ltb, le-ltb, eq-eqb, ne_eqb}
use Rattle.adpcm_nums.specs.Outcome.{Tells}
use Rattle.machine_core.specs.Blocks.{Blocks, IsLegal, first_only}
use Rattle.machine_core.specs.Sums.{sum_of}
use Rattle.brr_machine.specs.Brr.{brr}
use Rattle.brr_machine.specs.Spelling.{spelling}
use Rattle.brr_machine.specs.Zero.{zero_head, best_shift, nearest_codes, zero_sum, shift_sum}
use Rattle.host_files.specs.Outside.{World, Files, content_of, grown, raised}
use Rattle.report_text.specs.Report.{block_line}
use Rattle.command_faults.specs.declared.status.Status.{Status}
use Rattle.command_faults.specs.declared.status.Status.TheVariants.{Done, Input, Memory}
use Rattle.command_faults.specs.declared.input_fault.InputFault.TheVariants.{BlockLength}
use Rattle.command_faults.specs.declared.status.HostCall.TheVariants.{Fetch, Store, Say}
use Rattle.command_plan.specs.Plan.{all_stored}
use Rattle.command_plan.specs.Read.{Read, as_reading, given, fetched_for, whole_read, ◌>>=◌, written_under}
use Rattle.command_plan.specs.Reading.{Reading, Declines, status_of}
use Rattle.command_plan.specs.Steps.{HasRead, Halts}
use Rattle.command_plan.specs.Promise.{Promises, Finishes}
use Rattle.command_plan.proofs.Promised.{answers, done_is}
use Rattle.command_plan.proofs.ReadOn.{then_has, then_halts, then-gives, then-gave, given_refused}
use Rattle.command_plan.proofs.Tests.{decides, is_whole}
use Rattle.tool_block.specs.Samples.{samples_of}
use Rattle.command_plan.proofs.Telling.{test-declines, ok-one, ok-err}
use Rattle.tool_block.proofs.ZeroBlock.{zero_block-legal}
use Rattle.tool_block.specs.Block.{length_outcome, raw_in, targets_read, block_course, block_outcome, targets_in, zero_bytes, error_of, IsBlock, HasBlock, AnswersBlock}

-- the test of a length, passed and not
length_is : (input : List ℕ) (n : ℕ) → n ≡ 32 → length_outcome input n ≡ Done
length_is input n e = cond-true _ _ _ (eq-eqb n 32 e)

length_is_not : (input : List ℕ) (n : ℕ) → (n ≡ 32 → ⊥) → length_outcome input n ≡ Input input (BlockLength n)
length_is_not input n e = cond-false _ _ _ (ne_eqb n 32 e)

-- the error is the sum of what the best block decodes to
zero_sum-is : (ts : List ℤ) → zero_sum ts ≡ error_of ts
unfolding shift_sum
zero_sum-is ts = refl

spelled : (ts : List ℤ) (head flags : ℕ) (codes : List ℕ) → head ≡ zero_head (best_shift ts) → flags ≡ 1 → codes ≡ nearest_codes (best_shift ts) ts → spelling head flags codes ≡ zero_bytes ts
spelled ts head flags codes h f k =
    ap (λ n. spelling n flags codes) h ∙ ap (λ n. spelling (zero_head (best_shift ts)) n codes) f ∙ ap (λ cs. spelling (zero_head (best_shift ts)) 1 cs) k

-- the block that was made, as a file, and its line
pub is_block : (ts : List ℤ) (output name bytes line : List ℕ) (head flags : ℕ) (codes : List ℕ) (error : ℕ) → name ≡ output → bytes ≡ spelling head flags codes → head ≡ zero_head (best_shift ts) → flags ≡ 1 → codes ≡ nearest_codes (best_shift ts) ts → line ≡ block_line error error → error ≡ zero_sum ts → length ts ≡ 16 → ((list : Blocks) → IsLegal brr 1 first_only list → error ≤ sum_of brr list ts 1) → IsBlock ts output (record { name = name; bytes = bytes } ∷ []) line
is_block ts output name bytes line head flags codes error n b h f k l e len least =
    let same : error ≡ error_of ts = e ∙ zero_sum-is ts in
    record {
      file = ap (λ (x : List ℕ). record { name = x; bytes = bytes } ∷ []) n ∙ ap (λ (x : List ℕ). record { name = output; bytes = x } ∷ []) (b ∙ spelled ts head flags codes h f k);
      told = l ∙ ap (λ x. block_line x x) same;
      legal = zero_block-legal ts len;
      least = λ list legal. subst (λ (x : ℕ). x ≤ sum_of brr list ts 1) same (least list legal);
    }

raw-is : (input bytes : List ℕ) → length bytes ≡ 32 → raw_in input bytes ≡ Ok (samples_of bytes)
raw-is input bytes e = cond-true _ _ _ (eq-eqb (length bytes) 32 e)

raw-is-not : (input bytes : List ℕ) → (length bytes ≡ 32 → ⊥) → raw_in input bytes ≡ Err (Input input (BlockLength (length bytes)))
raw-is-not input bytes e = cond-false _ _ _ (ne_eqb (length bytes) 32 e)

raw-declines : (input bytes : List ℕ) → Declines (raw_in input bytes)
raw-declines input bytes = test-declines (length bytes == 32) (Ok (samples_of bytes)) (Err (Input input (BlockLength (length bytes)))) tt refl

-- the file has another length
pub block_refused : (files : Files) (input bytes raw : List ℕ) (s : Status) (a m : World) → raw ≡ bytes → HasRead (as_reading (whole_read files input 32 (BlockLength 33))) a m → (whole_read files input 32 (BlockLength 33)).gives ≡ Ok bytes
    → (length raw ≡ 32 → ⊥) → Tells Memory s (Input input (BlockLength (length raw))) → Halts (as_reading (targets_read files input)) a m s
block_refused files input bytes raw s a m same h e other one =
    let wrong : raw_in input bytes ≡ Err (Input input (BlockLength (length raw))) = ap (raw_in input) (sym same) ∙ raw-is-not input raw other in
    then_halts (whole_read files input 32 (BlockLength 33)) (λ bs. given (raw_in input bs)) bytes a m m s e h
    (given_refused (raw_in input bytes) s m (raw-declines input bytes) (elim one [ inl none ↦ inl none | inr is ↦ inr (wrong ∙ ap Err (sym is)) ]))

-- its samples were read
pub block_read : (files : Files) (input bytes raw : List ℕ) (targets : List ℤ) (a m : World) → raw ≡ bytes → HasRead (as_reading (whole_read files input 32 (BlockLength 33))) a m → (whole_read files input 32 (BlockLength 33)).gives ≡ Ok bytes
    → length raw ≡ 32 → targets ≡ samples_of raw → HasRead (as_reading (targets_read files input)) a m × ((targets_read files input).gives ≡ Ok targets)
block_read files input bytes raw targets a m same h e len is =
    let right : raw_in input bytes ≡ Ok targets = ap (raw_in input) (sym same) ∙ (raw-is input raw len ∙ ap Ok (sym is)) in
    let c = whole_read files input 32 (BlockLength 33) in
    let f : List ℕ → Read (List ℤ) = λ bs. given (raw_in input bs) in (
      then_has c f bytes a m m e h (decides (status_of (raw_in input bytes)) m (ap status_of right)),
      then-gives c f bytes e ∙ right,
    )

raw-length : (input bytes : List ℕ) (targets : List ℤ) → raw_in input bytes ≡ Ok targets → targets ≡ samples_of bytes
raw-length input bytes targets e = elim (cases_eq (length bytes) 32) as (λ _. targets ≡ samples_of bytes) [
  | inl same ↦ ok-one (raw_in input bytes) targets (samples_of bytes) e (raw-is input bytes same)
  | inr other ↦ absurd (ok-err (raw_in input bytes) targets (Input input (BlockLength (length bytes))) e (raw-is-not input bytes other))
]

-- they are the file's
pub targets_are : (files : Files) (input : List ℕ) (targets : List ℤ) → (targets_read files input).gives ≡ Ok targets → targets ≡ targets_in files input
targets_are files input targets e =
    let c = whole_read files input 32 (BlockLength 33) in
    let read = then-gave c (λ bs. given (raw_in input bs)) targets e in
    raw-length input read.0 targets read.2 ∙ ap samples_of (is_whole files input read.0 32 (BlockLength 33) read.1)

-- the course of a file of these bytes
abbrev course_by : List ℕ → List ℕ → List ℕ → Reading
course_by input output bytes = as_reading (
    (fetched_for input (cond (nat_lt 32 (length bytes)) (Err (Input input (BlockLength 33))) (Ok bytes)) >>= (λ bs. given (raw_in input bs))) >>= (λ ts. written_under (output ∷ []))
    )

course-32 : (input output bytes : List ℕ) → length bytes ≡ 32 → course_by input output bytes ≡ record { calls = Fetch input ∷ Store output ∷ Say ∷ []; outcome = Done }
course-32 input output bytes e =
    let less : nat_lt 32 (length bytes) ≡ false = le-ltb 32 (length bytes) (omega (arith, e)) in
    let same : (length bytes == 32) ≡ true = eq-eqb (length bytes) 32 e in
    rw less (rw same refl)

course-more : (input output bytes : List ℕ) → 32 < length bytes → (course_by input output bytes).outcome ≡ Input input (BlockLength 33)
course-more input output bytes h = let more : nat_lt 32 (length bytes) ≡ true = lt-ltb 32 (length bytes) h in rw more refl

course-less : (input output bytes : List ℕ) → length bytes < 32 → (course_by input output bytes).outcome ≡ Input input (BlockLength (length bytes))
course-less input output bytes h =
    let less : nat_lt 32 (length bytes) ≡ false = le-ltb 32 (length bytes) (omega arith) in
    let other : (length bytes == 32) ≡ false = ne_eqb (length bytes) 32 (λ e. omega (arith, e)) in
    rw less (rw other refl)

-- whether the file has 32 bytes decides, and 33 stands for more
course-outcome : (input output bytes : List ℕ) → (course_by input output bytes).outcome ≡ length_outcome input (min (length bytes) 33)
course-outcome input output bytes = elim (cases_order (length bytes) 32) [
  | inl e ↦ ap (λ (c : Reading). c.outcome) (course-32 input output bytes e) ∙ sym (length_is input (min (length bytes) 33) (omega (arith, e)))
  | inr (inl h) ↦ course-less input output bytes h ∙ ap (λ k. Input input (BlockLength k)) (omega (arith, h)) ∙ sym (length_is_not input (min (length bytes) 33) (λ e. omega (arith, e, h)))
  | inr (inr h) ↦ course-more input output bytes h ∙ ap (λ k. Input input (BlockLength k)) (omega (arith, h)) ∙ sym (length_is_not input (min (length bytes) 33) (λ e. omega (arith, e, h)))
]

course-is : (held : Files) (input output : List ℕ) → (block_course held input output).outcome ≡ block_outcome held input
course-is held input output = course-outcome input output (content_of held input)

length_done : (input : List ℕ) (n : ℕ) → length_outcome input (min n 33) ≡ Done → n ≡ 32
length_done input n e = elim (cases_eq n 32) [
  | inl same ↦ same
  | inr other ↦ let no : Input input (BlockLength (min n 33)) ≡ Done = sym (length_is_not input (min n 33) (λ m. other (omega (arith, m)))) ∙ e in cc
]

-- what was done at `Done`
has_block : (held : Files) (input output : List ℕ) (a b : World) → Finishes (block_course held input output) (IsBlock (targets_in held input) output) a b → HasBlock held input output a b
has_block held input output a b f =
    let len : length (content_of held input) ≡ 32 = length_done input _ (sym (course-is held input output) ∙ f.outcome) in
    record {
      whole = len;
      files = f.files ∙ ap (all_stored a.files) f.may.file;
      said = f.said ∙ ap (grown a.said) f.may.told;
      calls = f.calls ∙ ap (λ (c : Reading). raised (length c.calls) a.calls) (course-32 input output (content_of held input) len);
      legal = f.may.legal;
      least = f.may.least;
    }

-- what the promise says in the command's own words
pub answers_block : (held : Files) (input output : List ℕ) (a b : World) (r : Status) → Promises (block_course held input output) (IsBlock (targets_in held input) output) a b r → AnswersBlock held input output a b r
answers_block held input output a b r h = record {
  done = λ e. has_block held input output a b (done_is (block_course held input output) (IsBlock (targets_in held input) output) a b r h e);
  outcome = λ calm. subst (λ (s : Status). Tells Memory r s) (course-is held input output) (answers (block_course held input output) (IsBlock (targets_in held input) output) a b r h calm);
}
