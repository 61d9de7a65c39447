-- The command `bound`: the stored files of a bank are compared with its sources, and no certificate is read.
use Rattle.std.specs.Prelude.{ℕ, List}
use Rattle.host_files.specs.Outside.{Files}
use Rattle.machine_core.specs.Blocks.{Blocks}
use Rattle.manifest_reader.specs.Meaning.{Content}
use Rattle.snes_directory.specs.declared.image.Image.{Image}
use Rattle.report_text.specs.declared.report.BoundReport.{BoundReport}
use Rattle.report_text.specs.Report.{bound_line}
use Rattle.report_text.specs.Listed.{report_of}
use Rattle.command_plan.specs.Reading.{Reading}
use Rattle.command_plan.specs.Read.{Read, ◌>>=◌, read_all}
use Rattle.tool_files.specs.declared.source.Source.{Source}
use Rattle.tool_compare.specs.Banks.{image_by, stored_read}
use Rattle.tool_compare.specs.Compared.{comparison}

-- the list that is stored for each of these sources
abbrev pub each_list : Files → Content → List Source → Image → Read (List Blocks)
each_list files m sources image = read_all (stored_read files m image) 0 sources

-- the image, and then each list
abbrev pub lists_read : Files → Content → List Source → Read (List Blocks)
lists_read files m sources = image_by m.kind files m >>= each_list files m sources

-- a line for each sample, and the line that ends the report; no file is stored
abbrev pub bound_text : List BoundReport → List ℕ
bound_text reports = report_of bound_line reports 0

-- the manifest is read, then the files that it names and those that are stored, and then the report is said: the effort decides nothing
abbrev pub bound_course : Files → List ℕ → Reading
bound_course files manifest = comparison lists_read files manifest
