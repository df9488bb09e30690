use Rattle.std.proofs.Common.{◌≤◌, arith, subst}
use Rattle.std.specs.List.{AllByRecursion}
use Rattle.heap_model.specs.History.{most_entries}
use Rattle.heap_model.specs.Legal.{IsLegal}
use Rattle.heap_model.specs.Order.{IsStamped}
use Rattle.heap_model.specs.Layouts.{layouts_of}
use Rattle.region_heaps.specs.Seen.{Heaps}
use Rattle.region_heaps.proofs.Stamped.{IsStamped-from, bounded-from}
use Rattle.region_heaps.proofs.heaps.law_history.Goals as goal

pub returns-clause-stamped : goal.returns-clause-stamped
returns-clause-stamped c =
    subst (λ (h : Heaps). IsStamped h.entries) c.heaps.view_is
    (IsStamped-from 1 c.heaps.inside.history.entries c.heaps.invariant.stamps)

pub returns-clause-legal : goal.returns-clause-legal
returns-clause-legal c =
    subst (λ (h : Heaps). IsLegal (layouts_of h.types) h.entries) c.heaps.view_is
    ((c.law_restrictions.ensures (layouts_of c.heaps.inside.table.now) c.heaps.inside.history.entries).1
    (c.heaps.invariant.in_regions, λ r is. (c.heaps.invariant.each r is.0 is.1).legal))

pub returns-clause-bounded : goal.returns-clause-bounded
returns-clause-bounded c =
    subst (λ (h : Heaps). AllByRecursion (λ e. e.stamp ≤ most_entries) h.entries) c.heaps.view_is
    (bounded-from 1 most_entries c.heaps.inside.history.entries c.heaps.invariant.stamps
    (omega (arith, c.len.ensures.value, c.len.ensures.most)))
