use Rattle.std.proofs.Common.{rules, ap, arith}
use Rattle.region_lock.proofs.Keeps.{gives_at, gives_done}
use Rattle.region_lock.proofs.locks.Locks.give.Goals as goal

pub swap-requires : goal.swap-requires
swap-requires g c = (
  search rules,
  search rules,
  gives_at _ _ _ _ _ _ _ _ _ c.args.seat.now.me.0 c.args.worker c.args.slot _ c.args.held _ (omega arith)
      (search rules) c.exchange.ensures.3 (ap (λ x. x.0) c.requires.holds)
      (c.requires.value.0, c.requires.value.1, c.requires.value.2),
)

pub returns-clause-rests : goal.returns-clause-rests
returns-clause-rests g c = gives_done c.args.worker c.args.slot _ _ _ c.args.held c.requires.holds
    c.exchange.ensures.3 c.swap.ensures.2
