-- What the decoder of IMA ADPCM means to all that bounds, searches and checks its lists of blocks.
use Rattle.std.specs.Prelude.{ℕ, ◌+◌, ◌*◌, ◌==◌, if◌then◌else◌, get_or, unsigned_abs, false}
use Rattle.machine_core.specs.declared.state.Kind.TheVariants.{Ima}
use Rattle.machine_core.specs.declared.boxes.Bx.{Bx}
use Rattle.machine_core.specs.Rules.{Rules}
use Rattle.ima_machine.specs.Ima.{ima}
use Rattle.ima_machine.specs.Boxes.{is_ima_box, all_states}
use Rattle.ima_machine.specs.Floors.{ima_floor}
use Rattle.ima_machine.specs.Image.{ima_image, first_symbol, last_symbol}

-- the index that the next code uses
abbrev pub index_in : ℕ → ℕ → Bx → ℕ
index_in head p bx = if p == 0 then head else unsigned_abs bx.b.lo

-- heads act alike after the first place; a table holds the floors of all 89 indices, place after place
abbrev pub ima_rules : ℕ → Rules
ima_rules samples = record {
  decoder = ima samples;
  kind = Ima;
  lane = λ head p. 0;
  is_box = is_ima_box;
  whole = all_states;
  floor = λ head p bx targets. ima_floor samples head p (unsigned_abs bx.b.lo) targets;
  floors_a_place = 89;
  floor_len = 89 * samples;
  floor_read = λ head p bx table. get_or table (89 * p + index_in head p bx) 0;
  image = ima_image;
  first_symbol = first_symbol;
  last_symbol = last_symbol;
  cuts_b = false;
}
