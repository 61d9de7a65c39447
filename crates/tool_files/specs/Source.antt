-- What a manifest says, and what the file of one of its samples says: the first fault of each as the status that tells it.
use Rattle.std.specs.Prelude.{ℕ, nat_lt, if◌then◌else◌, List, length, Option, None, Result, Ok, Err}
use Rattle.adpcm_nums.specs.Outcome.{◌>>=◌}
use Rattle.adpcm_nums.specs.declared.loop_at.LoopAt.{LoopAt}
use Rattle.manifest_reader.specs.declared.manifest.SampleEntry.{SampleEntry}
use Rattle.manifest_reader.specs.Meaning.{Content, manifest_of}
use Rattle.wave_form.specs.declared.wave.Wave.{Wave}
use Rattle.wave_form.specs.Reading.{read_of}
use Rattle.smpl_loops.specs.Loops.{first_loop_of}
use Rattle.loop_fit.specs.declared.rule.FitRule.{FitRule}
use Rattle.loop_fit.specs.declared.fitted.Fitted.{Fitted}
use Rattle.loop_fit.specs.Fit.{fit_of}
use Rattle.bank_kinds.specs.Kinds.{codec_for}
use Rattle.command_faults.specs.declared.status.Status.{Status}
use Rattle.command_faults.specs.declared.status.Status.TheVariants.{Manifest, Input, Unfit}
use Rattle.command_faults.specs.declared.input_fault.InputFault.TheVariants.{Wave as WaveInput, Loop, FileLong}
use Rattle.command_plan.specs.Front.{or_told}
use Rattle.tool_files.specs.declared.source.Source.{Source}

-- the manifest of this name that bytes spell
unfoldable pub manifest_in : List ℕ → List ℕ → Result Content Status
manifest_in own bytes = or_told (λ f. Manifest f) (manifest_of bytes own)

-- how the sounds of a bank are fitted
abbrev pub rule_of : Content → FitRule
rule_of m = record { kind = m.kind; block = (codec_for m.kind m.block).rules.decoder.samples; length = m.length; start = m.start }

-- the sound of a sample's file, which may have 4,194,304 bytes
unfoldable pub sound_in : SampleEntry → List ℕ → Result Wave Status
sound_in entry bytes =
    if nat_lt 4194304 (length bytes) then Err (Input entry.name (FileLong 4194304))
    else or_told (λ f. Input entry.name (WaveInput f)) (read_of bytes entry.channel)

-- the loop of a sound, where the manifest takes it
unfoldable pub loop_in : SampleEntry → Wave → Result (Option LoopAt) Status
loop_in entry wave =
    if entry.looped then or_told (λ f. Input entry.name (Loop f)) (first_loop_of wave.sampler (length wave.samples)) else Ok None

-- the sound brought to whole blocks
unfoldable pub fit_in : FitRule → SampleEntry → Wave → Option LoopAt → Result Fitted Status
fit_in rule entry wave at = or_told (λ f. Unfit entry.name f) (fit_of wave.samples at rule)

-- what the bytes of a sample's file come to
unfoldable pub source_of : FitRule → SampleEntry → List ℕ → Result Source Status
source_of rule entry bytes = do
  wave ← sound_in entry bytes
  at ← loop_in entry wave
  fitted ← fit_in rule entry wave at
  Ok (record { name = entry.name; rate = wave.rate; fitted = fitted })
