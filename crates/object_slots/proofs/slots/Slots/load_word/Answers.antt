use Rattle.std.proofs.Common.{◌+◌, ap, ◌∙◌, arith}
use Rattle.lowfat_regions.specs.Regions.{size_of}
use Rattle.slot_headers.specs.Cells.{cells_at}
use Rattle.slot_store.specs.Slots.{cells_of}
use Rattle.object_slots.specs.View.{header_in}
use Rattle.object_slots.proofs.Behind.{behind-read}
use Rattle.object_slots.proofs.Laws.{size-bound}
use Rattle.object_slots.proofs.Kept.{live-room, live-size, live-object}
use Rattle.object_slots.proofs.slots.Slots.load_word.Goals as goal

pub overflow_add-offset : goal.overflow_add-offset
overflow_add-offset c =
    omega (arith, live-room c.self.inside.region c.self.inside.store c.self.inside.free c.self.inside.made c.self.invariant c.args.self.now c.self.view_is c.args.slot (c.args.offset + 8) c.requires.live c.requires.inside, size-bound c.self.inside.region c.self.invariant.is_region)

pub load_word-requires-clause-inside : goal.load_word-requires-clause-inside
load_word-requires-clause-inside c =
    omega (arith, live-room c.self.inside.region c.self.inside.store c.self.inside.free c.self.inside.made c.self.invariant c.args.self.now c.self.view_is c.args.slot (c.args.offset + 8) c.requires.live c.requires.inside, ap size_of c.self.invariant.same_region)

pub returns : goal.returns
returns c = λ o e.
    ap (λ o. cells_at c.args.offset 8 o.cells) (live-object c.self.inside.region c.self.inside.store c.self.inside.free c.self.inside.made c.self.invariant c.args.self.now c.self.view_is c.args.slot o e)
    ∙ behind-read (cells_of c.self.inside.store c.args.slot) (header_in (cells_of c.self.inside.store c.args.slot)).size c.args.offset 8 (live-size c.self.inside.region c.self.inside.store c.self.inside.free c.self.inside.made c.self.invariant c.args.self.now c.self.view_is c.args.slot (c.args.offset + 8) c.requires.live c.requires.inside)
    ∙ c.load_word.ensures
