use Rattle.std.proofs.Common.{◌≡◌, ◌≤◌}
use Rattle.std.specs.List.{AllByRecursion}
use Rattle.heap_model.specs.Order.{StampsRise}
use Rattle.clock_order.proofs.tests.part.Given as goal

abbrev pub invariant-loop-stamp : goal.invariant-loop-stamp
invariant-loop-stamp l = record {
  region : AllByRecursion (λ e. e.region ≡ l.region) l.history.entries;
  stamps : StampsRise l.history.entries;
  below : AllByRecursion (λ e. e.stamp ≤ l.last) l.history.entries;
}
