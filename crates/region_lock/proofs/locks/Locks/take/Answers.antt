use Rattle.std.proofs.Common.{rules, sym, arith, subst}
use mathlib.Core.Option.{none}
use Rattle.region_lock.specs.Boxes.{boxed, Boxed}
use Rattle.region_lock.specs.Passes.{IsResting}
use Rattle.region_lock.specs.Plays.{Found}
use Rattle.region_lock.proofs.Keeps.{takes_at, takes_slot, takes_some, Taken, takes_done}
use Rattle.region_lock.proofs.locks.Locks.take.Goals as goal

pub compare_exchange-found-requires : goal.compare_exchange-found-requires
compare_exchange-found-requires g c = (
  search rules,
  search rules,
  takes_at _ _ _ _ _ _ (Boxed g.F.Told.fact) _ _ _ c.args.worker c.args.slot _ _ none (omega arith) (omega arith)
      (search rules) (subst (IsResting c.args.worker) (sym c.loop.invariant.1) c.requires.rests)
      (λ y. c.requires.told y.value),
)

found : (g : _) (c : goal.After-exchange-arg-1 g) → Found (boxed g.V.Kept.region) (boxed g.V.Kept.list)
    (Boxed g.F.Told.fact) c.args.slot c.loop.seat.me c.compare_exchange-found.new.seat.me
found g c = c.compare_exchange-found.ensures.2.0 c.if-found-eq0.true c.args.slot (omega arith)

pub exchange-requires : goal.exchange-requires
exchange-requires g c = (
  search rules,
  takes_slot (boxed g.V.Kept.region) (boxed g.V.Kept.list)
      (Boxed g.F.Told.fact) c.args.slot c.loop.seat.me _ (found g c),
)

pub unwrap-requires : goal.unwrap-requires
unwrap-requires g c = rw (takes_some (boxed g.V.Kept.region) (boxed g.V.Kept.list)
    (Boxed g.F.Told.fact) c.args.slot c.loop.seat.me c.compare_exchange-found.new.seat.me
    (c.compare_exchange-found.ensures.2.0 c.if-found-eq0.true c.args.slot (omega arith)) _ c.exchange.ensures.2)

done : (g : _) (c : goal.After-drop-iterator g) → Taken (boxed g.V.Kept.region) (boxed g.V.Kept.list)
    (Boxed g.F.Told.fact) c.args.slot c.args.seat.now.me c.exchange.new.seat.me c.unwrap.result
done g c = takes_done (boxed g.V.Kept.region) (boxed g.V.Kept.list)
    (Boxed g.F.Told.fact) c.args.slot c.args.worker c.args.seat.now.me c.loop.seat.me
    c.compare_exchange-found.new.seat.me _ (c.compare_exchange-found.ensures.2.0 c.if-found-eq0.true c.args.slot
    (omega arith)) c.loop.invariant.1 c.requires.rests _ c.exchange.ensures.2 c.exchange.ensures.3 _ c.unwrap.ensures

pub returns-then-found-eq0-clause-holds : goal.returns-then-found-eq0-clause-holds
returns-then-found-eq0-clause-holds g c = (done g c).0

pub returns-then-found-eq0-clause-fact : goal.returns-then-found-eq0-clause-fact
returns-then-found-eq0-clause-fact g c = (done g c).1

pub returns-then-found-eq0-clause-stamps : goal.returns-then-found-eq0-clause-stamps
returns-then-found-eq0-clause-stamps g c = (done g c).2
