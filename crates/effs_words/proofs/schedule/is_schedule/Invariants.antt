use Rattle.std.proofs.Common.{◌≡◌}
use Rattle.std.specs.Prelude.{is_some}
use Rattle.std.specs.Option.{option_map}
use Rattle.effs_words.specs.Schedules.{all_turns, parts, parts_left}
use Rattle.effs_words.proofs.Turning.{left_measure}
use Rattle.effs_words.proofs.schedule.is_schedule.Given as goal

abbrev pub invariant-loop-left : goal.invariant-loop-left
invariant-loop-left l =
    is_some (all_turns l.workers l.room (parts_left (option_map (λ r. r.now) l.left))) ≡ is_some (all_turns l.workers 100000 (parts l.list))

abbrev pub decreases-loop-left : goal.decreases-loop-left
decreases-loop-left l = left_measure (option_map (λ r. r.now) l.left)
