use Rattle.std.proofs.Common.{rules, ap, ◌≡◌, arith}
use Rattle.region_lock.proofs.Keeps.{splits_number}
use Rattle.region_lock.proofs.whole.deal.Goals as goal

pub split_seat-requires : goal.split_seat-requires
split_seat-requires g c =
    let is = c.loop-i.invariant.seat.1 in
    let made : c.loop-i.seat.me.0.made ≡ c.loop-i.i = ap (λ m. m.0.made) is in (
      search rules,
      search rules,
      splits_number _ _ _ _ _ _ _ c.loop-i.seat.me.0 (ap (λ m. m.0.keeps) is) (omega arith)
          (ap (λ m. m.0.region) is),
    )
