use Rattle.std.proofs.Common.{rules, ap}
use Rattle.region_lock.proofs.Keeps.{splits_stamp, joins}
use Rattle.region_lock.proofs.Closings.{idle}
use Rattle.region_lock.proofs.locks.Locks.meet.Goals as goal

pub split_seat-note-requires : goal.split_seat-note-requires
split_seat-note-requires g c = (search rules, search rules, splits_stamp _ _ _ _ _ _ _ _)

pub join_seat-requires : goal.join_seat-requires
join_seat-requires g c = (
  search rules,
  search rules,
  search rules,
  search rules,
  joins _ _ _ _ _ _ _ _ _ _ (idle _ _ _ _ _ _ c.into_seat-seat.ensures.2
      (ap (λ b. b.views) c.replace.ensures.value) c.pass.invariant.0) (ap
      (λ m. m.0.region) c.split_seat-note.ensures.4),
)
