use Rattle.std.proofs.Common.{◌+◌, ap, sym, ◌∙◌, arith}
use Rattle.lowfat_regions.specs.Regions.{size_of}
use Rattle.slot_headers.specs.Cells.{number_in, cells_at}
use Rattle.slot_store.specs.Slots.{cells_of}
use Rattle.object_slots.specs.View.{header_in}
use Rattle.object_slots.proofs.Behind.{behind-read}
use Rattle.object_slots.proofs.Laws.{size-bound}
use Rattle.object_slots.proofs.Kept.{live-room, live-size, live-object}
use Rattle.object_slots.proofs.slots.Slots.load.Goals as goal

pub overflow_add-offset : goal.overflow_add-offset
overflow_add-offset c =
    omega (arith, live-room c.self.inside.region c.self.inside.store c.self.inside.free c.self.inside.made c.self.invariant c.args.self.now c.self.view_is c.args.slot (c.args.offset + c.args.width) c.requires.live c.requires.inside, size-bound c.self.inside.region c.self.invariant.is_region)

pub load-requires-clause-inside : goal.load-requires-clause-inside
load-requires-clause-inside c =
    omega (arith, live-room c.self.inside.region c.self.inside.store c.self.inside.free c.self.inside.made c.self.invariant c.args.self.now c.self.view_is c.args.slot (c.args.offset + c.args.width) c.requires.live c.requires.inside, ap size_of c.self.invariant.same_region)

pub returns-clause-value : goal.returns-clause-value
returns-clause-value c = λ o e.
    c.load.ensures.value
    ∙ ap number_in (sym (behind-read (cells_of c.self.inside.store c.args.slot) (header_in (cells_of c.self.inside.store c.args.slot)).size c.args.offset c.args.width (live-size c.self.inside.region c.self.inside.store c.self.inside.free c.self.inside.made c.self.invariant c.args.self.now c.self.view_is c.args.slot (c.args.offset + c.args.width) c.requires.live c.requires.inside)))
    ∙ ap (λ o. number_in (cells_at c.args.offset c.args.width o.cells)) (sym (live-object c.self.inside.region c.self.inside.store c.self.inside.free c.self.inside.made c.self.invariant c.args.self.now c.self.view_is c.args.slot o e))
