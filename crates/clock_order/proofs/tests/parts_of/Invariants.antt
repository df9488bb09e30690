use Rattle.std.proofs.Common.{◌≡◌, ◌+◌, ◌<◌, length}
use Rattle.std.specs.List.{All, AllPairs}
use Rattle.heap_model.specs.Order.{StampsRise}
use Rattle.clock_order.specs.Parts.{AreApart}
use Rattle.clock_order.proofs.tests.parts_of.Given as goal

abbrev pub invariant-loop-own : goal.invariant-loop-own
invariant-loop-own l = record {
  region : l.region + l.own-index ≡ length l.stamps;
  stamps : All (λ p. StampsRise p.entries) l.parts.items;
  apart : AllPairs AreApart l.parts.items;
  above : All (λ p. All (λ e. l.region < e.region) p.entries) l.parts.items;
}
