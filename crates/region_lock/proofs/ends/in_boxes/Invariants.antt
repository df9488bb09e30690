use Rattle.std.proofs.Common.{◌≡◌, map}
use Rattle.std.specs.Box.{box_value}
use Rattle.region_lock.proofs.ends.in_boxes.Given as goal

abbrev pub invariant-loop-value : goal.invariant-loop-value
invariant-loop-value g l = map box_value l.boxes.items ≡ l.yielded
