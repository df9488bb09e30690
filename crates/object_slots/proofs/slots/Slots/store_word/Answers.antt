use Rattle.std.proofs.Common.{◌+◌, ap, sym, subst, ◌∙◌, arith}
use Rattle.lowfat_regions.specs.Regions.{size_of}
use Rattle.slot_headers.specs.Cells.{put}
use Rattle.slot_store.specs.Cells.{value_cells}
use Rattle.slot_store.specs.Slots.{Contents, cells_of}
use Rattle.object_slots.specs.View.{header_in, state_of, AreKept}
use Rattle.object_slots.proofs.Behind.{behind-put, before-put}
use Rattle.object_slots.proofs.Laws.{size-bound}
use Rattle.object_slots.proofs.Kept.{live-room, live-below, live-object, kept-written, cells-seen}
use Rattle.object_slots.proofs.slots.Slots.store_word.Goals as goal

pub overflow_add-offset : goal.overflow_add-offset
overflow_add-offset c =
    omega (arith, live-room c.self.inside.region c.self.inside.store c.self.inside.free c.self.inside.made c.self.invariant c.args.self.now c.self.view_is c.args.slot (c.args.offset + 8) c.requires.live c.requires.inside, size-bound c.self.inside.region c.self.invariant.is_region)

pub store_word-requires-clause-inside : goal.store_word-requires-clause-inside
store_word-requires-clause-inside c =
    omega (arith, live-room c.self.inside.region c.self.inside.store c.self.inside.free c.self.inside.made c.self.invariant c.args.self.now c.self.view_is c.args.slot (c.args.offset + 8) c.requires.live c.requires.inside, ap size_of c.self.invariant.same_region)

pub invariant_of-self : goal.invariant_of-self
invariant_of-self c =
    subst (λ (s : Contents). AreKept c.self.inside.region s c.self.inside.free c.self.inside.made) (sym c.store_word.ensures)
    (kept-written c.self.inside.region c.self.inside.store c.self.inside.free c.self.inside.made c.self.invariant c.args.slot (put (16 + c.args.offset) (value_cells c.args.value) (cells_of c.self.inside.store c.args.slot))
    (live-below c.self.inside.region c.self.inside.store c.self.inside.free c.self.inside.made c.self.invariant c.args.self.now c.self.view_is c.args.slot c.requires.live) (before-put (cells_of c.self.inside.store c.args.slot) c.args.offset (value_cells c.args.value)))

pub returns : goal.returns
returns c = λ o e.
    ap (λ s. state_of c.self.inside.region s c.self.inside.free) c.store_word.ensures
    ∙ cells-seen c.self.inside.region c.self.inside.store c.self.inside.free c.self.inside.made c.self.invariant c.args.self.now c.self.view_is c.args.slot o e (put (16 + c.args.offset) (value_cells c.args.value) (cells_of c.self.inside.store c.args.slot)) (put c.args.offset (value_cells c.args.value) o.cells)
    (before-put (cells_of c.self.inside.store c.args.slot) c.args.offset (value_cells c.args.value))
    (behind-put (cells_of c.self.inside.store c.args.slot) (header_in (cells_of c.self.inside.store c.args.slot)).size c.args.offset (value_cells c.args.value) ∙ ap (λ o. put c.args.offset (value_cells c.args.value) o.cells) (sym (live-object c.self.inside.region c.self.inside.store c.self.inside.free c.self.inside.made c.self.invariant c.args.self.now c.self.view_is c.args.slot o e)))
