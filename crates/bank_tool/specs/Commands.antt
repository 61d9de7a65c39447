-- What each command promises: one case for each in both definitions, and one for words that are no command.
use Rattle.std.specs.Prelude.{Option, Some, None}
use Rattle.host_files.specs.Outside.{Files}
use Rattle.command_faults.specs.declared.status.Status.TheVariants.{Words}
use Rattle.command_plan.specs.Reading.{Reading, decided}
use Rattle.command_plan.specs.Promise.{Choice}
use Rattle.tool_words.specs.declared.words.Command.{Command}
use Rattle.tool_words.specs.declared.words.Command.TheVariants.{Block, Compile, Check, Bound, Decompile, Play, Make}
use Rattle.tool_block.specs.Block.{block_course, targets_in, IsBlock}
use Rattle.tool_compile.specs.Compile.{compile_course, MayStore}
use Rattle.tool_compare.specs.Check.{check_course}
use Rattle.tool_compare.specs.Checked.{MayTell}
use Rattle.tool_compare.specs.Bound.{bound_course}
use Rattle.tool_compare.specs.Bounded.{MayBound}
use Rattle.tool_decompile.specs.Decompile.{decompile_course, entries_in, IsDecompiled}
use Rattle.tool_play.specs.Played.{said_read, play_course, IsPlayed}
use Rattle.tool_compile.specs.Make.{make_course, IsMade}

-- the calls of the host in order, and how it ends
abbrev pub course_of : Option Command → Files → Reading
course_of None files = decided Words
course_of (Some (Block input output)) files = block_course files input output
course_of (Some (Compile manifest)) files = compile_course files manifest
course_of (Some (Check manifest)) files = check_course files manifest
course_of (Some (Bound manifest effort)) files = bound_course files manifest
course_of (Some (Decompile kind file output)) files = decompile_course files kind file output
course_of (Some (Play kind file entry count)) files = play_course files kind file entry count
course_of (Some (Make number)) files = make_course

-- the files that may be stored, and the line that may be said
abbrev pub choice_of : Option Command → Files → Choice
choice_of None files = λ writes line. ⊥
choice_of (Some (Block input output)) files = IsBlock (targets_in files input) output
choice_of (Some (Compile manifest)) files = MayStore files manifest
choice_of (Some (Check manifest)) files = MayTell files manifest
choice_of (Some (Bound manifest effort)) files = MayBound files manifest
choice_of (Some (Decompile kind file output)) files = IsDecompiled (entries_in files kind file) output
choice_of (Some (Play kind file entry count)) files = IsPlayed (said_read files kind file entry count).gives
choice_of (Some (Make number)) files = IsMade number
