use Rattle.std.proofs.Common.{ap, arith, length, Some}
use Rattle.std.proofs.lemmas.List.{length-map}
use Rattle.region_lock.specs.Boxes.{boxed}
use Rattle.region_lock.proofs.Closings.{all_there, closes, closes_boxes}
use Rattle.region_lock.proofs.locks.Locks.close.Goals as goal

pub out_of_slots-requires-clause-there : goal.out_of_slots-requires-clause-there
out_of_slots-requires-clause-there g c =
    let t = c.close_with.ensures.values.2 in
    all_there (boxed g.V.Kept.region) (boxed g.V.Kept.list)
    (boxed g.V.Kept.plain) _ _ _ t.0 t.1.0 _ _ c.args.passes.items t.1.1 c.gather-seat.ensures.view.0
    (omega (arith, c.args.passes.ok.0)) c.gather-seat.ensures.view.1 _ t.3 t.4

pub returns : goal.returns
returns g c =
    let t = c.close_with.ensures.values.2 in
    closes_boxes g.V.Kept.region g.V.Kept.list g.V.Kept.plain _ c.args.passes.items c.out_of_slots.result.items _
    c.out_of_boxes.ensures
    (closes (boxed g.V.Kept.region) (boxed g.V.Kept.list)
    (boxed g.V.Kept.plain) _ _ _ t.0 t.1.0 _ _ c.args.passes.items t.1.1 c.gather-seat.ensures.view.0
    (omega (arith, c.args.passes.ok.0)) c.gather-seat.ensures.view.1 _ c.out_of_slots.result.items t.3 t.4
    c.out_of_slots.ensures
    (omega (
      arith,
      length-map c.args.self.table.shared.key.values.value.items g.V.Kept.plain,
      length-map c.out_of_slots.result.items Some,
      ap length c.out_of_slots.ensures,
      c.close_with.result.slots.ok.0,
      c.args.self.table.shared.key.values.value.ok.0,
      c.args.self.sized,
      c.close_with.ensures.counts,
    )))
