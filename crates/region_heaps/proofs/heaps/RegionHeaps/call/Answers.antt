use Rattle.std.proofs.Common.{◌≡◌, ◌+◌, List, [], ◌∷◌, ◌++◌, length, true, Some, sym, ap, ◌∙◌, subst, arith}
use Rattle.std.proofs.lemmas.List.{with_items_is}
use Rattle.heap_model.specs.Forms.{region_for}
use Rattle.heap_model.specs.Layouts.{layouts_of}
use Rattle.heap_model.specs.Legal.{knows_types}
use Rattle.heap_model.specs.State.{State}
use Rattle.heap_model.specs.declared.calls.Entry.{Entry}
use Rattle.region_calls.specs.Serving.{KnowsElements}
use Rattle.region_heaps.specs.Kept.{Keeps}
use Rattle.region_heaps.specs.Numbers.{count_of}
use Rattle.region_heaps.specs.Regions.{Steps, heap_of}
use Rattle.region_heaps.specs.Seen.{Heaps}
use Rattle.region_heaps.proofs.Keeping.{Keeps-push}
use Rattle.heap_model.proofs.Restricted.{call-region}
use Rattle.region_heaps.proofs.Pushed.{own-le}
use Rattle.region_heaps.proofs.heaps.RegionHeaps.call.Goals as goal

pub step-requires-clause-low : goal.step-requires-clause-low
step-requires-clause-low c = (call-region c.args.call.now c.unwrap-region.result (sym c.region_for.ensures ∙ c.unwrap-region.ensures)).0

pub step-requires-clause-high : goal.step-requires-clause-high
step-requires-clause-high c =
    let range = call-region c.args.call.now c.unwrap-region.result (sym c.region_for.ensures ∙ c.unwrap-region.ensures) in
    omega (arith, range.1, ap length c.deref_mut.ensures.value, c.self.invariant.count)

pub step-requires-clause-of_region : goal.step-requires-clause-of_region
step-requires-clause-of_region c =
    let region = c.unwrap-region.result in
    let range = call-region c.args.call.now region (sym c.region_for.ensures ∙ c.unwrap-region.ensures) in
    let P : List State → Type 0 = λ heaps. (heap_of heaps region).region ≡ region in
    subst P (sym c.deref_mut.ensures.value) (c.self.invariant.each region range.0 range.1).region_is

pub step-requires-clause-types : goal.step-requires-clause-types
step-requires-clause-types c =
    subst (λ (h : Heaps). knows_types (layouts_of h.types) c.args.call.now ≡ true) (sym c.self.view_is) c.requires.types

pub step-requires-clause-elements : goal.step-requires-clause-elements
step-requires-clause-elements c =
    let region = c.unwrap-region.result in
    let range = call-region c.args.call.now region (sym c.region_for.ensures ∙ c.unwrap-region.ensures) in
    let P : List State → Type 0 = λ heaps. KnowsElements (layouts_of c.self.inside.table.now) (heap_of heaps region) in
    subst P (sym c.deref_mut.ensures.value) (c.self.invariant.each region range.0 range.1).elements

pub count-requires-clause-room : goal.count-requires-clause-room
count-requires-clause-room c =
    let same : count_of c.next.new.self c.args.worker ≡ count_of c.self.inside.numbers c.args.worker = c.next.ensures.counts c.args.worker in
    let own = c.self.invariant.counts_are c.args.worker in
    let entries = ap length c.room.ensures.entries in
    omega (arith, same, own, own-le c.self.inside.history.entries c.args.worker, c.len-stamp.ensures.value, c.len-stamp.ensures.most, entries)

pub invariant_of-self-2 : goal.invariant_of-self-2
invariant_of-self-2 c =
    let region = c.unwrap-region.result in
    let home : region_for c.args.call.now ≡ Some region = sym c.region_for.ensures ∙ c.unwrap-region.ensures in
    let entry : Entry =
    record { worker = c.args.worker; number = c.in_ok-number.number; stamp = c.len-stamp.result + 1; region = region; call = c.args.call.now; reply = c.in_ok-reply.reply } in
    let heaps = c.self.inside.heaps.items in
    let history = c.self.inside.history.entries in
    let counts = count_of c.self.inside.numbers in
    let counts' = count_of c.count.new.self in
    let counted = c.next.ensures.counts in
    let layouts = layouts_of c.self.inside.table.now in
    let types = subst (λ (h : Heaps). knows_types (layouts_of h.types) c.args.call.now ≡ true) (sym c.self.view_is) c.requires.types in
    let P : List State → Type 0 = λ old. Steps layouts old c.step.new.heaps region c.args.call.now c.in_ok-reply.reply in
    let steps = subst P c.deref_mut.ensures.value c.in_ok-reply.ensures.steps in
    let R : List Entry → Type 0 = λ es. Keeps layouts c.step.new.heaps counts' es in
    let pushed : c.push.new.self.entries ≡ history ++ entry ∷ [] = c.push.ensures.entries ∙ ap (λ es. es ++ entry ∷ []) c.room.ensures.entries in
    let S : List State → Type 0 = λ new. Keeps layouts new counts' c.push.new.self.entries in
    let written = with_items_is c.self.inside.heaps c.step.new.heaps (c.step.auto.heaps ∙ c.deref_mut.ensures.len) in
    subst S (sym written)
    (subst R (sym pushed)
    (Keeps-push layouts heaps c.step.new.heaps history entry home c.requires.fits types steps counts counts'
    (c.count.ensures.own ∙ ap (λ n. n + 1) (counted c.args.worker))
    (λ w apart. c.count.ensures.others w apart ∙ counted w)
    c.self.invariant (c.step.auto.heaps ∙ ap length c.deref_mut.ensures.value) c.in_ok-number.ensures.number
    (ap (λ n. n + 1) (c.len-stamp.ensures.value ∙ ap length c.room.ensures.entries))))
