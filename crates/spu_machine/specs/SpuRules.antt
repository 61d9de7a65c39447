-- What the decoder of SPU-ADPCM means to all that bounds, searches and checks its lists of blocks.
use Rattle.std.specs.Prelude.{get_or, true}
use Rattle.machine_core.specs.declared.state.Kind.TheVariants.{Spu}
use Rattle.machine_core.specs.Rules.{Rules}
use Rattle.spu_machine.specs.Spu.{spu, lane_of}
use Rattle.spu_machine.specs.Boxes.{is_spu_box, all_states}
use Rattle.spu_machine.specs.Image.{spu_image}
use Rattle.spu_machine.specs.Floors.{spu_floor}

-- floors do not depend on the box; a table holds them from each place on
abbrev pub spu_rules : Rules
spu_rules = record {
  decoder = spu;
  kind = Spu;
  lane = λ head p. lane_of head;
  is_box = λ p bx. is_spu_box bx;
  whole = all_states;
  floor = λ head p bx targets. spu_floor head p targets;
  floors_a_place = 1;
  floor_len = 29;
  floor_read = λ head p bx table. get_or table p 0;
  image = λ head p code bx target. spu_image head code bx target;
  first_symbol = λ p target slack. 0;
  last_symbol = λ p target slack. 15;
  cuts_b = true;
}
