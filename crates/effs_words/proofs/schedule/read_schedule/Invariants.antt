use Rattle.std.proofs.Common.{◌≡◌}
use Rattle.std.specs.Option.{option_map}
use Rattle.effs_words.specs.Schedules.{all_turns, parts, parts_left}
use Rattle.effs_words.proofs.Turning.{left_measure, onto_list}
use Rattle.effs_words.proofs.schedule.read_schedule.Given as goal

abbrev pub invariant-loop-left : goal.invariant-loop-left
invariant-loop-left l = onto_list l.schedule (all_turns l.workers l.room (parts_left (option_map (λ r. r.now) l.left))) ≡ all_turns l.workers 100000 (parts l.list)

abbrev pub decreases-loop-left : goal.decreases-loop-left
decreases-loop-left l = left_measure (option_map (λ r. r.now) l.left)
