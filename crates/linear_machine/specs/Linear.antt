-- Linear decoders: an output is what a head's filter predicts from the last two outputs, and one of the head's sixteen samples.
use Rattle.std.specs.Prelude.{◌≡◌, ℕ, ◌<◌, ℤ, pos, get_or}
use Rattle.adpcm_nums.specs.Sample.{IsSample}
use Rattle.machine_core.specs.declared.state.State.{State}
use Rattle.machine_core.specs.Decoder.{Decoder}
use Rattle.window_floor.specs.Row.{size_of}
use Rattle.window_floor.specs.Windows.{Windows, IsSound}
use Rattle.window_floor.specs.Clamps.{MayCome}

-- a decoder whose states are its last two outputs
pub record Linear : Type 0 where
  pub decoder : Decoder
  -- the filter of a head, its samples and the outputs that clamping leaves
  pub windows : ℕ → Windows
  -- head, code, the last output and the one before it
  pub output : ℕ → ℕ → ℤ → ℤ → ℤ

-- its windows tell of every head, whether the decoder has it or not, and of every two outputs what may come after them
pub record IsLinear (l : Linear) : Type 0 where
  pub sound : (head : ℕ) → IsSound (l.windows head)
  pub places : (head : ℕ) → (l.windows head).places ≡ l.decoder.samples
  pub scale : (head : ℕ) → (l.windows head).row.scale ≡ pos l.decoder.scale
  -- a symbol is a code of four bits
  pub codes : (p : ℕ) → p < l.decoder.samples → l.decoder.symbols p ≡ 16
  -- the new output comes first, the last one behind it
  pub steps : (head p code : ℕ) (at : State) → l.decoder.step head p code at ≡ record { a = l.output head code at.a at.b; b = at.a }
  -- outputs have 16 bits
  pub range : (head code : ℕ) (o r : ℤ) → IsSample (l.output head code o r)
  -- clamping leaves a known output only where the filter came to more or to less than 16 bits
  pub outcome : (head code : ℕ) (o r : ℤ) → code < 16 → MayCome (l.windows head) r o (l.output head code o r)
  -- where the filter ties no places together an output is the code's sample
  pub free : (head code : ℕ) (o r : ℤ) → code < 16 → size_of (l.windows head).row ≡ 1 → l.output head code o r ≡ get_or (l.windows head).samples code (pos 0)
