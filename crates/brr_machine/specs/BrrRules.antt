-- What the decoder of BRR means to all that bounds, searches and checks its lists of blocks.
use Rattle.std.specs.Prelude.{ℕ, ◌+◌, ◌*◌, min, get_or, true}
use Rattle.machine_core.specs.declared.state.Kind.TheVariants.{Brr}
use Rattle.machine_core.specs.Rules.{Rules}
use Rattle.brr_machine.specs.Brr.{brr, shift_of, filter_of}
use Rattle.brr_machine.specs.Boxes.{is_brr_box, all_states}
use Rattle.brr_machine.specs.Image.{brr_image}
use Rattle.brr_machine.specs.Floors.{brr_floor}

-- from shift 13 on the shift does not count
abbrev pub lane_of : ℕ → ℕ
lane_of head = 4 * min (shift_of head) 13 + filter_of head

-- floors do not depend on the box; a table holds them from each place on
abbrev pub brr_rules : Rules
brr_rules = record {
  decoder = brr;
  kind = Brr;
  lane = λ head p. lane_of head;
  is_box = λ p bx. is_brr_box bx;
  whole = all_states;
  floor = λ head p bx targets. brr_floor head p targets;
  floors_a_place = 1;
  floor_len = 17;
  floor_read = λ head p bx table. get_or table p 0;
  image = λ head p code bx target. brr_image head code bx target;
  first_symbol = λ p target slack. 0;
  last_symbol = λ p target slack. 15;
  cuts_b = true;
}
