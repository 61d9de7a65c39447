-- How chunks and a file of chunks are spelled (RIFF).
use Rattle.std.specs.Prelude.{◌≡◌, ◌≤◌, ◌<◌, ℕ, ◌+◌, ◌%◌, List, ◌++◌, length, replicate, flat_map, find, count_by, Bool, Option, option_map, codes}
use Rattle.std.specs.List.{AllByRecursion}
use Rattle.std.specs.Str.{bytes_eq}
use Rattle.byteorder.specs.Endian.{little_bytes}
use Rattle.wave_form.specs.declared.chunks.Chunks.{Chunks}
use Rattle.wave_form.specs.Span.{bytes_in}

-- a chunk to be written
pub record Chunk : Type 0 where
  pub id : List ℕ
  pub body : List ℕ

-- what stands before a body
abbrev pub chunk_head : List ℕ → ℕ → List ℕ
chunk_head id size = id ++ little_bytes 4 size

-- a chunk's bytes: a zero follows an odd body
unfoldable pub chunk_bytes : Chunk → List ℕ
chunk_bytes chunk = chunk_head chunk.id (length chunk.body) ++ (chunk.body ++ replicate (length chunk.body % 2) 0)

-- the twelve bytes before the chunks of a WAVE file, which take so many bytes
abbrev pub riff_head : ℕ → List ℕ
riff_head len = codes "RIFF" ++ (little_bytes 4 (4 + len) ++ codes "WAVE")

-- a file of these chunks
unfoldable pub riff_file : List Chunk → List ℕ
riff_file chunks = riff_head (length (flat_map chunk_bytes chunks)) ++ flat_map chunk_bytes chunks

-- whether a chunk has this id
abbrev pub has_id : List ℕ → Chunk → Bool
has_id id chunk = bytes_eq chunk.id id

-- the body of the first chunk of this id
abbrev pub body_named : List ℕ → List Chunk → Option (List ℕ)
body_named id chunks = option_map (λ chunk. chunk.body) (find (has_id id) chunks)

-- the bodies that a walk finds in a file are those of the first chunk of each kind
pub record FindsBodies (file : List ℕ) (found : Chunks) (chunks : List Chunk) : Type 0 where
  pub fmt : option_map (bytes_in file) found.fmt ≡ body_named (codes "fmt ") chunks
  pub pcm : option_map (bytes_in file) found.pcm ≡ body_named (codes "data") chunks
  pub smpl : option_map (bytes_in file) found.smpl ≡ body_named (codes "smpl") chunks
  pub fact : option_map (bytes_in file) found.fact ≡ body_named (codes "fact") chunks

-- an id of four bytes, and a body whose size fits and is not left open
pub record IsChunk (chunk : Chunk) : Type 0 where
  pub id : length chunk.id ≡ 4
  pub size : length chunk.body < 4294967295

-- chunks that are read again: at most one of them holds samples
pub record AreChunks (chunks : List Chunk) : Type 0 where
  pub each : AllByRecursion IsChunk chunks
  pub data_once : count_by (has_id (codes "data")) chunks ≤ 1
