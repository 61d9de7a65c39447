-- The world outside a command: files by their names, what has been said, and two counts.
use Rattle.std.specs.Prelude.{◌≡◌, ℕ, ◌+◌, ◌-◌, ◌^◌, ◌≤◌, min, max, List, [], ◌++◌, take, Option, option_map, unwrap_or}
use Rattle.std.specs.Ordering.{nat_cmp}
use Rattle.std.specs.Cmp.Lexicographic.{slice_cmp}
use Rattle.std.specs.FinMap as map

-- the bytes of each file, by the bytes of its name
abbrev pub Files : Type 0
Files = map.FinMap (slice_cmp nat_cmp) (List ℕ)

-- what a name holds; one that is not held counts as an empty file
abbrev pub content_of : Files → List ℕ → List ℕ
content_of files name = unwrap_or (map.get files name) []

-- the files with one of them set, where they are told
abbrev pub stored : Option Files → List ℕ → List ℕ → Option Files
stored files name bytes = option_map (λ f. map.insert f name bytes) files

-- the files but one, where they are told: two that agree so differ at most in that file
abbrev pub without : List ℕ → Option Files → Option Files
without name files = option_map (λ f. map.remove f name) files

-- what has been said with these bytes after it, where it is told
abbrev pub grown : Option (List ℕ) → List ℕ → Option (List ℕ)
grown said bytes = option_map (λ s. s ++ bytes) said

-- a part of the bytes, from their front, has been said
abbrev pub GrowsByFront : Option (List ℕ) → Option (List ℕ) → List ℕ → Type 0
GrowsByFront before now bytes = (n : ℕ) × (now ≡ grown before (take n bytes))

-- a count after n more, which stops at its last value
abbrev pub raised : ℕ → ℕ → ℕ
raised n count = max count (min (count + n) (2 ^ 64 - 1))

-- a count has risen, or stands at its last value
abbrev pub Rose : ℕ → ℕ → Type 0
Rose before now = min (before + 1) (2 ^ 64 - 1) ≤ now

-- what a host tells, and how often a call has failed and was made
pub record World : Type 0 where
  pub files : Option Files
  pub said : Option (List ℕ)
  pub faults : ℕ
  pub calls : ℕ
