-- What is known of the numbers of a header.
use Rattle.std.specs.Prelude.{ℕ, ◌≡◌, ◌+◌, ◌-◌, ◌%◌, ◌≤◌}
use Rattle.snes_directory.specs.declared.header.Header.{Header}
use Rattle.snes_directory.specs.Header.{memory_place}

-- the header of a file of so many bytes
pub record IsHeaderOf (bytes : ℕ) (header : Header) : Type 0 where
  pub page : header.base % 256 ≡ 0
  pub low : header.base ≤ 65280
  pub some : 1 ≤ header.entries
  pub few : header.entries ≤ 64
  pub within : memory_place header.entries ≤ bytes
  pub room : header.base + (bytes - memory_place header.entries) ≤ 65536
