-- What a WAVE file says, or the first fault.
use Rattle.std.specs.Prelude.{ℕ, List, Option, option_map, Result, Ok}
use Rattle.std.specs.Option.{ok_or}
use Rattle.adpcm_nums.specs.Outcome.{◌>>=◌}
use Rattle.wave_form.specs.declared.wave.Wave.{Wave}
use Rattle.wave_form.specs.declared.fault.WaveFault.{WaveFault}
use Rattle.wave_form.specs.declared.fault.WaveFault.TheVariants.{NoFmt, NoData}
use Rattle.wave_form.specs.Span.{bytes_in}
use Rattle.wave_form.specs.Walk.{walk_of}
use Rattle.wave_form.specs.Format.{format_of, channel_of}
use Rattle.wave_form.specs.Frames.{channel_samples}

-- the sound of the given channel, or the first fault
unfoldable pub read_of : List ℕ → Option ℕ → Result Wave WaveFault
read_of file given = do
  chunks ← walk_of file
  fmt ← ok_or chunks.fmt NoFmt
  format ← format_of (bytes_in file fmt)
  channel ← channel_of format.channels given
  pcm ← ok_or chunks.pcm NoData
  Ok (record { rate = format.rate; samples = channel_samples format channel (bytes_in file pcm); sampler = option_map (bytes_in file) chunks.smpl })
