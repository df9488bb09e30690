use Rattle.std.proofs.Common.{◌≡◌, map, length, vec_len, vec_capacity}
use Rattle.std.specs.Box.{box_value}
use Rattle.region_lock.proofs.ends.out_of_boxes.Given as goal

abbrev pub invariant-loop-held : goal.invariant-loop-held
invariant-loop-held g l = record {
  taken : l.values.items ≡ map box_value l.yielded;
  room : (vec_len l.values ≡ length l.yielded) × (vec_capacity l.values ≡ vec_capacity l.fn.values);
}
