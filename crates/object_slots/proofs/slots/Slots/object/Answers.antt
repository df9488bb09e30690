use Rattle.std.proofs.Common.{◌≡◌, Some, true, ap, sym, ◌∙◌, arith}
use Rattle.std.specs.Option.{option_map}
use Rattle.std.specs.FinSet.{contains}
use Rattle.slot_headers.specs.declared.header.Header.{Header}
use Rattle.slot_store.specs.Slots.{cells_of}
use Rattle.object_slots.specs.SlotStates.{state_at}
use Rattle.object_slots.specs.Objects.{facts_of}
use Rattle.object_slots.specs.View.{header_in}
use Rattle.object_slots.proofs.Laws.{size-bound, header_facts, facts-some}
use Rattle.object_slots.proofs.Kept.{taken-below}
use Rattle.object_slots.proofs.slots.Slots.object.Goals as goal

pub overflow_cast-result : goal.overflow_cast-result
overflow_cast-result c =
    let taken : contains c.self.inside.free.taken c.args.slot ≡ true = c.is_taken.ensures.value.0 c.if-not-is_taken.false in
    let below = taken-below c.self.inside.region c.self.inside.store c.self.inside.free c.self.inside.made c.self.invariant c.args.slot taken in
    let size : c.header-header.result.size ≡ (header_in (cells_of c.self.inside.store c.args.slot)).size = ap (λ h. h.size) c.header-header.ensures.value in
    omega (arith, size, (c.self.invariant.taken c.args.slot below).fits, size-bound c.self.inside.region c.self.invariant.is_region)

pub returns : goal.returns
returns c =
    let taken : contains c.self.inside.free.taken c.args.slot ≡ true = c.is_taken.ensures.value.0 c.if-not-is_taken.false in
    ap (λ (h : Header). Some (header_facts h)) c.header-header.ensures.value
    ∙ sym (facts-some c.self.inside.region c.self.inside.store c.self.inside.free c.self.inside.made c.self.invariant c.law_slots.ensures c.args.slot taken)
    ∙ ap (λ st. option_map facts_of (state_at st.states c.args.slot).body) c.self.view_is
