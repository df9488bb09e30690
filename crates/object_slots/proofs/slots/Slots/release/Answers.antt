use Rattle.std.proofs.Common.{◌≡◌, ◌≤◌, ◌++◌, ◌∷◌, [], ◌∙◌, true, length, set, ap, arith}
use Rattle.std.specs.FinSet.{contains}
use Rattle.lowfat_regions.specs.Regions.{size_of, slots}
use Rattle.free_slots.specs.Slots.{last_resting, resting_slots}
use Rattle.slot_headers.specs.Headers.{IsHeader}
use Rattle.slot_store.specs.Slots.{cells_of, with_cells}
use Rattle.slot_store.proofs.Stored.{size_facts}
use Rattle.object_slots.specs.SlotStates.{state_at, without_object}
use Rattle.object_slots.specs.View.{header_in, with_header}
use Rattle.object_slots.proofs.Kept.{live-taken, live-below, live-inside}
use Rattle.object_slots.proofs.Laws.{size-bound}
use Rattle.object_slots.proofs.Changing.{freed_header, kept-after, states-after}
use Rattle.object_slots.proofs.slots.Slots.release.Goals as goal
use Rattle.object_slots.proofs.slots.Slots.release.Goals.{After-give}

is : (c : After-give) → contains c.self.inside.free.taken c.args.slot ≡ true
is c = live-taken c.self.inside.region c.self.inside.store c.self.inside.free c.self.inside.made c.self.invariant c.args.self.now c.self.view_is c.args.slot c.requires

-- the slot has room for a header, and the one that is written is one
room : (c : After-give) → 16 ≤ length (cells_of c.self.inside.store c.args.slot)
room c =
    let inside = live-inside c.self.inside.region c.self.inside.store c.self.inside.free c.self.inside.made c.self.invariant c.args.self.now c.self.view_is c.args.slot c.requires in
    omega (arith, c.law_slots.ensures.whole c.args.slot inside, ap size_of c.self.invariant.same_region, (size_facts c.self.inside.region c.self.invariant.is_region).0)

header_is : (c : After-give) → IsHeader (freed_header (header_in (cells_of c.self.inside.store c.args.slot)))
header_is c =
    let below = live-below c.self.inside.region c.self.inside.store c.self.inside.free c.self.inside.made c.self.invariant c.args.self.now c.self.view_is c.args.slot c.requires in
    let same : c.header-header.result.version ≡ (header_in (cells_of c.self.inside.store c.args.slot)).version = ap (λ h. h.version) c.header-header.ensures.value in
    record {
      kind = omega arith;
      version = omega (arith, same, c.header-header.ensures.version);
      size = omega (arith, (c.self.invariant.taken c.args.slot below).fits, size-bound c.self.inside.region c.self.invariant.is_region);
    }

stored : (c : After-give) → c.put_header.new.self ≡ with_cells c.self.inside.store c.args.slot (with_header (freed_header (header_in (cells_of c.self.inside.store c.args.slot))) (cells_of c.self.inside.store c.args.slot))
stored c =
    c.put_header.ensures
    ∙ ap (λ h. with_cells c.self.inside.store c.args.slot (with_header (freed_header h) (cells_of c.self.inside.store c.args.slot))) c.header-header.ensures.value

pub invariant_of-self : goal.invariant_of-self
invariant_of-self c =
    let at = (goal.at.invariant_of-self c).After-give in
    kept-after c.law_read.ensures c.self.inside.region c.self.inside.store c.self.inside.free c.self.inside.made c.self.invariant c.args.slot (is at) (room at) (header_is at)
    c.put_header.new.self c.give.new.self (stored at) c.give.ensures.step

pub returns : goal.returns
returns c =
    let at = (goal.at.returns c).After-give in
    (λ i. record {
      region = c.self.inside.region;
      states = states-after c.law_read.ensures c.self.inside.region c.self.inside.store c.self.inside.free c.self.inside.made c.self.invariant c.args.slot (is at) (room at) (header_is at)
          c.put_header.new.self c.give.new.self (stored at) c.give.ensures.step i;
      resting = (c.give.ensures.resting ∙ ap (λ n. last_resting n (resting_slots c.self.inside.free ++ c.args.slot ∷ [])) c.self.invariant.count) i;
    })
    ∙ ap (λ st. record {
      region = st.region;
      states = set st.states c.args.slot (without_object (state_at st.states c.args.slot));
      resting = last_resting (slots st.region) (st.resting ++ c.args.slot ∷ []);
    }) c.self.view_is
