-- The cases of a command, over plain variables.
use Rattle.std.proofs.Common.{◌≡◌, List, ℕ, sym, subst, Option, Some, None, refl}
use Rattle.host_files.specs.Outside.{World, Files}
use Rattle.command_faults.specs.declared.status.Status.{Status}
use Rattle.command_faults.specs.declared.status.Status.TheVariants.{Words}
use Rattle.command_plan.specs.Ending.{has_line, ending_of}
use Rattle.command_plan.specs.Steps.{Told}
use Rattle.command_plan.specs.Promise.{Promises}
use Rattle.command_plan.proofs.Promised.{refused_at_once}
use Rattle.tool_words.specs.declared.words.Command.{Command}
use Rattle.tool_words.specs.declared.words.Command.TheVariants.{Block, Compile, Check, Bound, Decompile, Play, Make}
use Rattle.machine_core.specs.declared.state.Kind.{Kind}
use Rattle.tool_block.specs.Block.{block_course, targets_in, IsBlock, AnswersBlock}
use Rattle.tool_decompile.specs.Decompile.{decompile_course, entries_in, IsDecompiled, AnswersDecompile}
use Rattle.tool_decompile.proofs.DecompiledSteps.{answers_decompile, Sounds}
use Rattle.tool_play.specs.Played.{said_read, play_course, IsPlayed, AnswersPlay}
use Rattle.tool_play.proofs.PlaySteps.{answers_play}
use Rattle.tool_block.proofs.BlockSteps.{answers_block}
use Rattle.tool_compile.specs.Compile.{compile_course, MayStore}
use Rattle.tool_compile.specs.Compiled.{AnswersCompile}
use Rattle.tool_compile.proofs.CompiledSteps.{answers_compile}
use Rattle.tool_compare.specs.Check.{check_course}
use Rattle.tool_compare.specs.Checked.{MayTell, AnswersCheck}
use Rattle.tool_compare.proofs.CheckedSteps.{answers_check}
use Rattle.tool_compare.specs.Bound.{bound_course}
use Rattle.tool_compare.specs.Bounded.{MayBound, AnswersBound}
use Rattle.tool_compare.proofs.BoundedSteps.{answers_bound}
use Rattle.tool_compile.specs.Make.{make_course, IsMade, AnswersMake}
use Rattle.tool_compile.proofs.MakeSteps.{answers_make}
use Rattle.bank_tool.specs.Commands.{course_of, choice_of}

-- words that are no command, and the line that says so
pub no_command : (o : Option Command) (files : Files) (a d : World) (r : Status) → o ≡ None → Told (has_line (ending_of Words)) Words a d r → Promises (course_of o files) (choice_of o files) a d r
no_command o files a d r e told =
    subst (λ (x : Option Command). Promises (course_of x files) (choice_of x files) a d r) (sym e) (refused_at_once (choice_of None files) a d Words r refl told)

-- words that are `block`
pub block_answers : (o : Option Command) (files : Files) (input output : List ℕ) (a b : World) (r : Status) → o ≡ Some (Block input output) → Promises (course_of o files) (choice_of o files) a b r → AnswersBlock files input output a b r
block_answers o files input output a b r e h =
    answers_block files input output a b r (subst (λ (x : Option Command). Promises (course_of x files) (choice_of x files) a b r) e h)

-- words that are `play`
pub play_answers : (o : Option Command) (files : Files) (kind : Kind) (file : List ℕ) (entry count : ℕ) (a b : World) (r : Status) → o ≡ Some (Play kind file entry count) → Promises (course_of o files) (choice_of o files) a b r → AnswersPlay files kind file entry count a b r
play_answers o files kind file entry count a b r e h =
    answers_play files kind file entry count a b r (subst (λ (x : Option Command). Promises (course_of x files) (choice_of x files) a b r) e h)

-- words that are `decompile`
pub decompile_answers : (o : Option Command) (files : Files) (kind : Kind) (file output : List ℕ) (a b : World) (r : Status) → a.files ≡ Some files → Sounds → o ≡ Some (Decompile kind file output) → Promises (course_of o files) (choice_of o files) a b r → AnswersDecompile files kind file output a b r
decompile_answers o files kind file output a b r told sounds e h =
    answers_decompile files kind file output a b r told sounds (subst (λ (x : Option Command). Promises (course_of x files) (choice_of x files) a b r) e h)

-- words that are `compile`
pub compile_answers : (o : Option Command) (files : Files) (manifest : List ℕ) (a b : World) (r : Status) → a.files ≡ Some files → o ≡ Some (Compile manifest) → Promises (course_of o files) (choice_of o files) a b r → AnswersCompile files manifest a b r
compile_answers o files manifest a b r told e h =
    answers_compile files manifest a b r told (subst (λ (x : Option Command). Promises (course_of x files) (choice_of x files) a b r) e h)

-- a command that is `block`
pub block_obeys : (command : Command) (files : Files) (x y input output : List ℕ) (a b : World) (r : Status) → command ≡ Block x y → input ≡ x → output ≡ y → Promises (block_course files input output) (IsBlock (targets_in files input) output) a b r → Promises (course_of (Some command) files) (choice_of (Some command) files) a b r
block_obeys command files x y input output a b r is i o h =
    subst (λ (m : Command). Promises (course_of (Some m) files) (choice_of (Some m) files) a b r) (sym is)
    (subst (λ (n : List ℕ). Promises (block_course files x n) (IsBlock (targets_in files x) n) a b r) o
    (subst (λ (n : List ℕ). Promises (block_course files n output) (IsBlock (targets_in files n) output) a b r) i h))

-- a command that is `play`
pub play_obeys : (command : Command) (files : Files) (kind : Kind) (x file : List ℕ) (entry count : ℕ) (a b : World) (r : Status) → command ≡ Play kind x entry count → file ≡ x → Promises (play_course files kind file entry count) (IsPlayed (said_read files kind file entry count).gives) a b r → Promises (course_of (Some command) files) (choice_of (Some command) files) a b r
play_obeys command files kind x file entry count a b r is f h =
    subst (λ (m : Command). Promises (course_of (Some m) files) (choice_of (Some m) files) a b r) (sym is)
    (subst (λ (n : List ℕ). Promises (play_course files kind n entry count) (IsPlayed (said_read files kind n entry count).gives) a b r) f h)

-- a command that is `decompile`
pub decompile_obeys : (command : Command) (files : Files) (kind : Kind) (x y file output : List ℕ) (a b : World) (r : Status) → command ≡ Decompile kind x y → file ≡ x → output ≡ y → Promises (decompile_course files kind file output) (IsDecompiled (entries_in files kind file) output) a b r → Promises (course_of (Some command) files) (choice_of (Some command) files) a b r
decompile_obeys command files kind x y file output a b r is f o h =
    subst (λ (m : Command). Promises (course_of (Some m) files) (choice_of (Some m) files) a b r) (sym is)
    (subst (λ (n : List ℕ). Promises (decompile_course files kind x n) (IsDecompiled (entries_in files kind x) n) a b r) o
    (subst (λ (n : List ℕ). Promises (decompile_course files kind n output) (IsDecompiled (entries_in files kind n) output) a b r) f h))

-- a command that is `compile`
pub compile_obeys : (command : Command) (files : Files) (x manifest : List ℕ) (a b : World) (r : Status) → command ≡ Compile x → manifest ≡ x → Promises (compile_course files manifest) (MayStore files manifest) a b r → Promises (course_of (Some command) files) (choice_of (Some command) files) a b r
compile_obeys command files x manifest a b r is m h =
    subst (λ (k : Command). Promises (course_of (Some k) files) (choice_of (Some k) files) a b r) (sym is)
    (subst (λ (n : List ℕ). Promises (compile_course files n) (MayStore files n) a b r) m h)

-- words that are `check`
pub check_answers : (o : Option Command) (files : Files) (manifest : List ℕ) (a b : World) (r : Status) → o ≡ Some (Check manifest) → Promises (course_of o files) (choice_of o files) a b r → AnswersCheck files manifest a b r
check_answers o files manifest a b r e h = answers_check files manifest a b r (subst (λ (x : Option Command). Promises (course_of x files) (choice_of x files) a b r) e h)

-- a command that is `check`
pub check_obeys : (command : Command) (files : Files) (x manifest : List ℕ) (a b : World) (r : Status) → command ≡ Check x → manifest ≡ x → Promises (check_course files manifest) (MayTell files manifest) a b r → Promises (course_of (Some command) files) (choice_of (Some command) files) a b r
check_obeys command files x manifest a b r is m h =
    subst (λ (k : Command). Promises (course_of (Some k) files) (choice_of (Some k) files) a b r) (sym is)
    (subst (λ (n : List ℕ). Promises (check_course files n) (MayTell files n) a b r) m h)

-- words that are `bound`
pub bound_answers : (o : Option Command) (files : Files) (manifest : List ℕ) (effort : ℕ) (a b : World) (r : Status) → o ≡ Some (Bound manifest effort) → Promises (course_of o files) (choice_of o files) a b r → AnswersBound files manifest a b r
bound_answers o files manifest effort a b r e h = answers_bound files manifest a b r (subst (λ (x : Option Command). Promises (course_of x files) (choice_of x files) a b r) e h)

-- a command that is `bound`
pub bound_obeys : (command : Command) (files : Files) (x manifest : List ℕ) (effort : ℕ) (a b : World) (r : Status) → command ≡ Bound x effort → manifest ≡ x → Promises (bound_course files manifest) (MayBound files manifest) a b r → Promises (course_of (Some command) files) (choice_of (Some command) files) a b r
bound_obeys command files x manifest effort a b r is m h =
    subst (λ (k : Command). Promises (course_of (Some k) files) (choice_of (Some k) files) a b r) (sym is)
    (subst (λ (n : List ℕ). Promises (bound_course files n) (MayBound files n) a b r) m h)

-- words that are `make`
pub make_answers : (o : Option Command) (files : Files) (number : ℕ) (a b : World) (r : Status) → o ≡ Some (Make number) → Promises (course_of o files) (choice_of o files) a b r → AnswersMake number a b r
make_answers o files number a b r e h = answers_make number a b r (subst (λ (x : Option Command). Promises (course_of x files) (choice_of x files) a b r) e h)

-- a command that is `make`
pub make_obeys : (command : Command) (files : Files) (number : ℕ) (a b : World) (r : Status) → command ≡ Make number → Promises make_course (IsMade number) a b r → Promises (course_of (Some command) files) (choice_of (Some command) files) a b r
make_obeys command files number a b r is h = subst (λ (m : Command). Promises (course_of (Some m) files) (choice_of (Some m) files) a b r) (sym is) h
