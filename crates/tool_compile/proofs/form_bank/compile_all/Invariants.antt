use Rattle.std.proofs.Common.{◌≤◌, All}
use Rattle.std.specs.List.{AllZip}
use Rattle.bank_kinds.specs.Kinds.{codec_for}
use Rattle.bank_compile.specs.declared.sample.SampleOut.{SampleOut}
use Rattle.bank_compile.specs.Bank.{IsOut}
use Rattle.manifest_reader.specs.Meaning.{content_of}
use Rattle.tool_compile.specs.Compile.{IsMadeOf}
use Rattle.tool_compile.proofs.form_bank.compile_all.Given as goal

abbrev pub invariant-loop-source : goal.invariant-loop-source
invariant-loop-source l = record {
  made : AllZip (IsMadeOf (content_of l.manifest)) l.yielded l.outs.items;
  outs : All (IsOut (codec_for l.manifest.kind l.manifest.block)) l.outs.items;
  bounds : All (λ (out : SampleOut). out.report.bound ≤ out.report.error) l.outs.items;
}
