use Rattle.std.proofs.Common.{◌≡◌, drop, Some, find}
use Rattle.std.specs.List.{filter_map}
use Rattle.heap_model.specs.Answers.{is_at}
use Rattle.placed_objects.specs.Placed.{placed_name, object_named}
use Rattle.placed_objects.specs.Meant.{slot_name}
use Rattle.placed_objects.proofs.object.object_named.Given as goal

abbrev pub invariant-loop-at : goal.invariant-loop-at
invariant-loop-at l =
    find (is_at (Some (slot_name l.slot)) l.version) (filter_map placed_name (drop l.at l.history.entries))
    ≡ object_named l.history.entries l.anchor l.word
