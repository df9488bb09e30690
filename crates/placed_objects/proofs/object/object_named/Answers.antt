use Rattle.std.proofs.Common.{Some, option_map, ap, sym, ◌∙◌}
use Rattle.heap_model.specs.Answers.{is_at}
use Rattle.placed_objects.specs.Placed.{object_named}
use Rattle.placed_objects.specs.Meant.{slot_name, name_of}
use Rattle.placed_objects.proofs.Named.{named_nowhere, named_by, found_here, not_here}
use Rattle.placed_objects.proofs.object.object_named.Goals as goal

pub returns-in_err-slot : goal.returns-in_err-slot
returns-in_err-slot c =
    ap (option_map name_of) c.from_residual.ensures
    ∙ sym (named_nowhere c.args.history.now.entries c.args.anchor c.args.word (sym c.in_err-slot.ensures))

pub loop-at-init : goal.loop-at-init
loop-at-init c =
    named_by c.args.history.now.entries c.args.anchor c.args.word c.parts-version.result.1 (slot_name c.in_ok-slot.slot)
    (sym c.in_ok-slot.ensures) c.parts-version.ensures.version

pub returns-then-is_some : goal.returns-then-is_some
returns-then-is_some c =
    found_here (is_at (Some (slot_name c.in_ok-slot.slot)) c.parts-version.result.1) c.args.history.now.entries c.loop-at.at
    c.get.result c.object_in-found.result (object_named c.args.history.now.entries c.args.anchor c.args.word) c.get.ensures
    c.loop-at.invariant c.object_in-found.ensures (sym c.is_some.ensures ∙ c.if-is_some.true)

pub loop-at-preserved : goal.loop-at-preserved
loop-at-preserved c =
    not_here (is_at (Some (slot_name c.in_ok-slot.slot)) c.parts-version.result.1) c.args.history.now.entries c.loop-at.at
    c.get.result c.object_in-found.result (object_named c.args.history.now.entries c.args.anchor c.args.word) c.get.ensures
    c.loop-at.invariant c.object_in-found.ensures (sym c.is_some.ensures ∙ c.if-is_some.false)
