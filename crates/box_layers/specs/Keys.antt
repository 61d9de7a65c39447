-- The order of layers.
use Rattle.std.specs.Prelude.{Bool, true, false, if◌then◌else◌, ◌&&◌, ◌==◌, nat_lt}
use Rattle.box_layers.specs.declared.key.Key.{Key}

-- in the order by block, then by place, then by lane
unfoldable pub key_before : Key → Key → Bool
key_before j k =
    if nat_lt j.block k.block then true else (if nat_lt k.block j.block then false else
    (if nat_lt j.place k.place then true else (if nat_lt k.place j.place then false else nat_lt j.lane k.lane)))

abbrev pub key_same : Key → Key → Bool
key_same j k = j.block == k.block && j.place == k.place && j.lane == k.lane
