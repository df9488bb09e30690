use Rattle.std.proofs.Common.{◌≡◌, ◌∙◌, ◌+◌, ℕ, Some, sym, ap, arith}
use Rattle.heap_model.specs.Heap.{Body}
use Rattle.heap_model.specs.Legal.{AllocAnswers}
use Rattle.heap_model.specs.State.{State}
use Rattle.lowfat_regions.specs.Regions.{slot_of, object_address}
use Rattle.slot_headers.specs.Words.{address_of, version_of}
use Rattle.slot_headers.specs.Cells.{zeros}
use Rattle.object_slots.specs.SlotStates.{state_at}
use Rattle.object_slots.proofs.Laws.{size-bound}
use Rattle.region_calls.specs.Naming.{nth_slot}
use Rattle.region_calls.proofs.Ending.{served-full}
use Rattle.region_calls.proofs.Placing.{full-same, may-place, version-after, placed_in, served-placed}
use Rattle.region_calls.proofs.placement.allocate.Goals as goal
use Rattle.region_calls.proofs.placement.allocate.Goals.{In_ok-slot}

abbrev object : In_ok-slot → Body ℕ
object c = record { elem = c.args.elem; fixed = c.args.fixed; cells = zeros c.args.size }

pub returns-then-is_full-clause-answers : goal.returns-then-is_full-clause-answers
unfolding AllocAnswers
returns-then-is_full-clause-answers c = λ h k. full-same c.args.slots.now h k ∙ sym c.is_full.ensures
    ∙ c.if-is_full.true

pub returns-then-is_full-clause-served : goal.returns-then-is_full-clause-served
returns-then-is_full-clause-served c = served-full c.args.slots.now c.args.elem c.args.size c.args.fixed

pub overflow_cast-size : goal.overflow_cast-size
overflow_cast-size c = omega (arith, c.requires, size-bound c.args.slots.now.region c.law_slots.ensures.region)

-- the slots as they are then
after : (c : In_ok-slot) → c.take.new.self ≡ placed_in c.args.slots.now c.in_ok-slot.slot c.args.elem c.args.fixed
    c.args.size
after c = c.in_ok-slot.ensures.placed

-- what a word says that has the slot's address and version
there : (c : In_ok-slot) (word : ℕ) → slot_of (address_of word) ≡ Some (nth_slot c.take.new.self c.in_ok-slot.slot)
    → slot_of (address_of word) ≡ Some (nth_slot c.args.slots.now c.in_ok-slot.slot)
there c word e = e ∙ ap (λ (st : State). Some (nth_slot st c.in_ok-slot.slot)) (after c)

version : (c : In_ok-slot) (word : ℕ) → version_of word ≡ (state_at c.take.new.self.states c.in_ok-slot.slot).versions
    → version_of word ≡ 1 + (state_at c.args.slots.now.states c.in_ok-slot.slot).versions
version c word e =
    e ∙ ap (λ (st : State). (state_at st.states c.in_ok-slot.slot).versions) (after c)
    ∙ version-after c.args.slots.now c.in_ok-slot.slot (object c) c.in_ok-slot.ensures.next

pub returns-clause-answers : goal.returns-clause-answers
unfolding AllocAnswers
returns-clause-answers c = λ h k.
    let at = (goal.at.returns-clause-answers c).In_ok-slot in (
      full-same c.args.slots.now h k ∙ sym c.is_full.ensures ∙ c.if-is_full.false,
      may-place c.args.slots.now c.in_ok-slot.slot
          (object at) c.word_of.result c.in_ok-slot.ensures.free c.in_ok-slot.ensures.next
          (there at c.word_of.result c.word_of.ensures.slot) (version at c.word_of.result c.word_of.ensures.version)
          (c.word_of.ensures.address ∙ ap (λ (st : State). object_address (nth_slot st c.in_ok-slot.slot))
          (after at)) c.in_ok-slot.ensures.rested h k,
    )

pub returns-clause-served : goal.returns-clause-served
returns-clause-served c =
    let at = (goal.at.returns-clause-served c).In_ok-slot in
    served-placed c.args.slots.now c.in_ok-slot.slot c.args.elem c.args.size c.args.fixed c.word_of.result
    c.in_ok-slot.ensures.free c.in_ok-slot.ensures.next
    (there at c.word_of.result c.word_of.ensures.slot)
    (version at c.word_of.result c.word_of.ensures.version) c.take.new.self (after at)
