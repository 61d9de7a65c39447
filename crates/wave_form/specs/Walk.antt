-- Where the bodies of a WAVE file's chunks lie, or the first fault.
use Rattle.std.specs.Prelude.{ℕ, ◌+◌, Bool, false, List, [], ◌∷◌, length, take, drop, find, Option, Some, None, option_map, Result, Ok, Err, nat_lt, ◌==◌, ◌&&◌, ◌||◌, not, if◌then◌else◌, codes}
use Rattle.std.specs.Option.{option_or}
use Rattle.std.specs.Str.{bytes_eq}
use Rattle.wave_form.specs.declared.span.Span64.{Span64}
use Rattle.wave_form.specs.declared.chunks.Chunks.{Chunks}
use Rattle.wave_form.specs.declared.fault.WaveFault.{WaveFault}
use Rattle.wave_form.specs.declared.fault.WaveFault.TheVariants.{NotRiff, NotWave, Streaming, Truncated, DataTwice}
use Rattle.wave_form.specs.Span.{LiesIn}
use Rattle.wave_form.specs.Heads.{Head, heads_of}

-- whether a chunk has this id
abbrev pub is_named : List ℕ → Head → Bool
is_named id head = bytes_eq head.id id

-- whether a chunk holds the samples
abbrev pub is_data : Head → Bool
is_data head = is_named (codes "data") head

-- where the body of a chunk lies
abbrev pub body_of : Head → Span64
body_of head = record { at = head.at + 8; len = head.size }

-- the body of the first chunk of this id
abbrev pub first_body : List ℕ → List Head → Option Span64
first_body id heads = option_map body_of (find (is_named id) heads)

-- the chunks of each kind that heads tell of
abbrev pub chunks_of : List Head → Chunks
chunks_of heads = record {
  fmt = first_body (codes "fmt ") heads;
  pcm = first_body (codes "data") heads;
  smpl = first_body (codes "smpl") heads;
  fact = first_body (codes "fact") heads;
}

-- of each kind the chunk that was found early, or else the one found later
abbrev pub first_of : Chunks → Chunks → Chunks
first_of early later = record {
  fmt = option_or early.fmt later.fmt;
  pcm = option_or early.pcm later.pcm;
  smpl = option_or early.smpl later.smpl;
  fact = option_or early.fact later.fact;
}

-- what is wrong with a chunk of a file of so many bytes, where a data chunk came before it or not
unfoldable pub head_fault : ℕ → Bool → Head → Option WaveFault
head_fault len data_before head =
    if is_data head && head.size == 4294967295 then Some Streaming
    else (if nat_lt len (head.at + 8 + head.size) then Some (Truncated head.at)
    else (if is_data head && data_before then Some DataTwice
    else None))

-- the first fault of the chunks, in their order
unfoldable pub first_fault : ℕ → Bool → List Head → Option WaveFault
first_fault len data_before [] = None
first_fault len data_before (head ∷ heads) =
    option_or (head_fault len data_before head) (first_fault len (data_before || is_data head) heads)

-- the value, unless there is a fault
abbrev pub unless : {A : Type 0} → Option WaveFault → A → Result A WaveFault
unless None x = Ok x
unless (Some fault) x = Err fault

-- where the bodies of a file lie, or its first fault; the size that follows `RIFF` is not looked at
unfoldable pub walk_of : List ℕ → Result Chunks WaveFault
walk_of file =
    if nat_lt (length file) 4 || not (bytes_eq (take 4 file) (codes "RIFF")) then Err NotRiff
    else (if nat_lt (length file) 12 || not (bytes_eq (take 4 (drop 8 file)) (codes "WAVE")) then Err NotWave
    else unless (first_fault (length file) false (heads_of file)) (chunks_of (heads_of file)))

-- the bodies lie in so many bytes
pub record AllLieIn (len : ℕ) (chunks : Chunks) : Type 0 where
  pub fmt : LiesIn len chunks.fmt
  pub pcm : LiesIn len chunks.pcm
  pub smpl : LiesIn len chunks.smpl
  pub fact : LiesIn len chunks.fact
