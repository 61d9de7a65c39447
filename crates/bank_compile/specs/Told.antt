-- What is told of a bank.
use Rattle.std.specs.Prelude.{ℕ, List}
use Rattle.report_text.specs.Report.{sample_line}
use Rattle.report_text.specs.Listed.{report_of}
use Rattle.bank_compile.specs.declared.sample.SampleOut.{SampleOut}

-- a line for each sample, and the line that ends the report, where so many files are stored
abbrev pub report_text : List SampleOut → ℕ → List ℕ
report_text outs files = report_of (λ (out : SampleOut). sample_line out.report) outs files
