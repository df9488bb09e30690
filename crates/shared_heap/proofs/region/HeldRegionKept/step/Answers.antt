use Rattle.std.proofs.Common.{◌≡◌, List, Some, ◌∙◌, ◌++◌, ◌∷◌, [], ap, rules}
use Rattle.heap_model.specs.declared.calls.Entry.{Entry}
use Rattle.heap_model.specs.Forms.{region_for}
use Rattle.heap_model.specs.Layouts.{layouts_of}
use Rattle.typed_heap.specs.Histories.{IsHeapOf}
use Rattle.typed_heap.proofs.Histories.{with-entry}
use Rattle.shared_heap.proofs.Steps.{kept-next}
use Rattle.shared_heap.proofs.region.HeldRegionKept.step.Goals as goal

pub invariant_of-self-2 : goal.invariant_of-self-2
invariant_of-self-2 c =
    let home : region_for c.args.call.now ≡ Some c.region.result = search rules in
    let e : Entry = record {
      worker = c.args.worker;
      number = c.args.number;
      stamp = c.stamp-stamp.result;
      region = c.region.result;
      call = c.args.call.now;
      reply = c.in_ok-reply.reply;
    } in
    let layouts = layouts_of c.self.inside.table.now in
    let now = c.step.new.self in
    let number : now.region ≡ c.region.result = search rules in
    let was : IsHeapOf layouts c.self.inside.heap c.region.result c.self.inside.history.entries = search rules in
    let next = with-entry layouts c.self.inside.heap now c.self.inside.history.entries e home c.requires.call.fits
    (search rules) (search rules) c.in_ok-reply.ensures.next c.in_ok-reply.ensures.elements number was in
    kept-next layouts now c.region.result _ _ number
    (c.push.ensures.entries ∙ ap (λ (l : List Entry). l ++ e ∷ []) c.room.ensures.entries) next
