use Rattle.std.proofs.Common.{ap, subst}
use Rattle.c_types.specs.Table.{Types}
use Rattle.heap_model.specs.Layouts.{layouts_of}
use Rattle.heap_model.specs.Order.{IsRecord}
use Rattle.shared_heap.specs.Closing.{made_by}
use Rattle.shared_heap.specs.Shared.{Shared}
use Rattle.shared_heap.proofs.Joined.{apart, closed, in-regions, owns, recorded, rise}
use Rattle.shared_heap.proofs.heap.SharedHeap.close.Goals as goal

pub merge-requires-clause-apart : goal.merge-requires-clause-apart
merge-requires-clause-apart c =
    let all = closed c.self.inside.table.now _ c.args.passes.items c.in_ok-regions.regions.items c.in_ok-histories.histories.items
    c.self.invariant.rules c.in_ok-regions.ensures c.in_ok-histories.ensures in
    apart c.self.inside.table.now c.args.passes.items c.in_ok-histories.histories.items all

pub merge-requires-clause-stamps : goal.merge-requires-clause-stamps
merge-requires-clause-stamps c =
    let all = closed c.self.inside.table.now _ c.args.passes.items c.in_ok-regions.regions.items c.in_ok-histories.histories.items
    c.self.invariant.rules c.in_ok-regions.ensures c.in_ok-histories.ensures in
    rise c.self.inside.table.now c.args.passes.items c.in_ok-histories.histories.items all

pub returns-clause-recorded : goal.returns-clause-recorded
returns-clause-recorded c =
    let all = closed c.self.inside.table.now _ c.args.passes.items c.in_ok-regions.regions.items c.in_ok-histories.histories.items
    c.self.invariant.rules c.in_ok-regions.ensures c.in_ok-histories.ensures in
    subst (λ (t : Types). IsRecord (layouts_of t) (made_by c.args.passes.items) c.in_ok-history.history.entries)
    (ap (λ (s : Shared). s.types) c.self.view_is)
    (recorded c.self.inside.table.now c.args.passes.items c.in_ok-histories.histories.items all c.in_ok-history.history.entries c.in_ok-history.ensures.extends)

pub returns-clause-own : goal.returns-clause-own
returns-clause-own c =
    let all = closed c.self.inside.table.now _ c.args.passes.items c.in_ok-regions.regions.items c.in_ok-histories.histories.items
    c.self.invariant.rules c.in_ok-regions.ensures c.in_ok-histories.ensures in
    owns c.self.inside.table.now c.args.passes.items c.in_ok-histories.histories.items all c.in_ok-history.history.entries c.in_ok-history.ensures.extends

pub returns-clause-regions : goal.returns-clause-regions
returns-clause-regions c =
    let all = closed c.self.inside.table.now _ c.args.passes.items c.in_ok-regions.regions.items c.in_ok-histories.histories.items
    c.self.invariant.rules c.in_ok-regions.ensures c.in_ok-histories.ensures in
    in-regions c.self.inside.table.now c.args.passes.items c.in_ok-histories.histories.items all c.law_restrictions.ensures c.in_ok-history.history.entries
    c.in_ok-history.ensures.extends
