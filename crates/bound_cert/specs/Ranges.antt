-- Which keys and cells may stand in a certificate.
use Rattle.std.specs.Prelude.{ℕ, ◌/◌, ◌%◌, ℤ, pos, ◌-ℤ◌, int_lt, int_le, Bool, true, nat_lt, nat_eq, ◌&&◌, ◌||◌, if◌then◌else◌, Option, Some, None}
use Rattle.machine_core.specs.declared.boxes.Cell.{Cell}
use Rattle.box_layers.specs.declared.key.Key.{Key}
use Rattle.machine_core.specs.declared.state.Kind.{Kind}
use Rattle.machine_core.specs.declared.state.Kind.TheVariants.{Brr, Spu, Ima}
use Rattle.bound_cert.specs.declared.shape.Limits.{Limits}
use Rattle.box_layers.specs.Cells.{before}
use Rattle.box_layers.specs.Keys.{key_before}

-- the number that names a kind
abbrev pub kind_number : Kind → ℕ
kind_number Brr = 0
kind_number Spu = 1
kind_number Ima = 2

-- outputs lie from -n to n - 1
abbrev pub reach_of : Kind → ℕ
reach_of Brr = 16384
reach_of Spu = 32768
reach_of Ima = 32768

-- how wide a cell is at a level
abbrev pub width_of : ℕ → ℕ
width_of level = if nat_eq level 0 then 1 else (if nat_eq level 4 then 16 else 256)

abbrev pub is_level_byte : ℕ → Bool
is_level_byte level = nat_eq level 0 || nat_eq level 4 || nat_eq level 8 || nat_eq level 255

-- from -n to n - 1
abbrev pub around : ℕ → ℤ → Bool
around n x = int_le (pos 0 -ℤ pos n) x && int_lt x (pos n)

abbrev pub b_fits : Kind → ℕ → ℤ → Bool
b_fits Brr level b = around (16384 / width_of level) b
b_fits Spu level b = around (32768 / width_of level) b
b_fits Ima level b = int_le (pos 0) b && int_lt b (pos 89)

unfoldable pub cell_fits : Kind → ℕ → Cell → Bool
cell_fits kind level c = around (reach_of kind / width_of level) c.a && b_fits kind level c.b

-- the lanes of heads
abbrev pub is_lane : Kind → ℕ → Bool
is_lane Brr lane = nat_lt lane 56
is_lane Spu lane = nat_lt lane 80 && nat_lt (lane % 16) 13
is_lane Ima lane = nat_eq lane 0

abbrev pub lane_fits : Kind → ℕ → ℕ → Bool
lane_fits kind place lane = if nat_eq place 0 then nat_eq lane 65535 else is_lane kind lane

unfoldable pub key_fits : Limits → Key → Bool
key_fits limits key = nat_lt key.block limits.blocks && nat_lt key.place limits.samples && lane_fits limits.kind key.place key.lane

abbrev pub cell_follows : Option Cell → Cell → Bool
cell_follows None c = true
cell_follows (Some last) c = before last c

abbrev pub key_follows : Option Key → Key → Bool
key_follows None k = true
key_follows (Some last) k = key_before last k
