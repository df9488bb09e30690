use Rattle.std.proofs.Common.{rules, ap, arith}
use Rattle.region_lock.specs.Boxes.{boxed}
use Rattle.region_lock.proofs.Keeps.{adds_at, adds_done}
use Rattle.region_lock.proofs.locks.Locks.add.Goals as goal

pub swap-requires : goal.swap-requires
swap-requires g c = (
  search rules,
  search rules,
  adds_at _ _ _ _ _ _ _ _ _ c.args.seat.now.me.0 c.args.worker c.args.slot _ c.args.entry c.args.held _
      (omega arith) (search rules) c.exchange.ensures.3 (ap (λ x. x.0) c.requires.holds)
      (c.requires.value.0, c.requires.value.1, c.requires.value.2) c.requires.entry c.requires.budget,
)

pub returns-clause-rests : goal.returns-clause-rests
returns-clause-rests g c = adds_done
    (boxed g.V.Kept.list) c.args.worker c.args.slot _ _ _ c.args.held c.args.entry c.requires.holds c.exchange.ensures.3
    c.requires.value.1 c.swap.ensures.2
