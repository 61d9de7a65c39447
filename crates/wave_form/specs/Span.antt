-- Parts of a file by their places.
use Rattle.std.specs.Prelude.{◌≤◌, ℕ, ◌+◌, List, take, drop, Option, IfSome}
use Rattle.wave_form.specs.declared.span.Span64.{Span64}

-- the bytes of a span
abbrev pub bytes_in : List ℕ → Span64 → List ℕ
bytes_in file span = take span.len (drop span.at file)

-- a span, if there is one, lies in so many bytes
abbrev pub LiesIn : ℕ → Option Span64 → Type 0
LiesIn len span = IfSome span (λ s. s.at + s.len ≤ len)
