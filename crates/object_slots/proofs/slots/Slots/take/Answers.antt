use Rattle.std.proofs.Common.{◌≡◌, ◌≤◌, ◌<◌, ◌∙◌, ℕ, true, length, Option, Some, ap, sym, subst, arith}
use Rattle.std.specs.Prelude.{IfSome}
use Rattle.std.specs.FinSet.{contains}
use Rattle.std.proofs.lemmas.Result.{err_from_is_err_and}
use Rattle.lowfat_regions.specs.Regions.{size_of, slots}
use Rattle.free_slots.specs.Slots.{Slots, IsFree, TellsFresh, next_of, resting_slots, after_take}
use Rattle.free_slots.specs.declared.slots.Taken.{Taken}
use Rattle.slot_headers.specs.Cells.{zeros}
use Rattle.slot_store.specs.Slots.{made}
use Rattle.slot_store.proofs.Stored.{size_facts}
use Rattle.heap_model.specs.Objects.{max_objects}
use Rattle.object_slots.specs.SlotStates.{count_made, with_object}
use Rattle.object_slots.specs.Objects.{FitsIn}
use Rattle.object_slots.specs.View.{states_in, AreKept}
use Rattle.object_slots.proofs.Taking.{taken-next, taken-within}
use Rattle.object_slots.proofs.Kept.{kept-opened, states-opened, states-are, region-is}
use Rattle.object_slots.proofs.Opening.{next-opened, next-zero}
use Rattle.object_slots.proofs.Changing.{version-small, kept-then, states-then}
use Rattle.object_slots.proofs.slots.Slots.take.Goals as goal
use Rattle.object_slots.proofs.slots.Slots.take.Goals.{After-open_spare, In-Some, After-place}

-- ---- a spare slot

kept_now : (c : After-open_spare) → AreKept c.self.inside.region c.open_spare.new.store c.self.inside.free c.self.inside.made
kept_now c = kept-opened c.self.inside.region c.self.inside.store c.self.inside.free c.self.inside.made c.self.invariant c.open_spare.new.store c.open_spare.ensures.opened

pub invariant_of-self : goal.invariant_of-self
invariant_of-self c = kept_now (goal.at.invariant_of-self c).After-open_spare

pub returns-in_err-open_spare-clause-unchanged : goal.returns-in_err-open_spare-clause-unchanged
returns-in_err-open_spare-clause-unchanged c =
    let p = err_from_is_err_and c.from_residual.result c.from_residual.ensures.1 in
    rw p.1 (ap (λ states. record { region = c.self.inside.region; states = states; resting = resting_slots c.self.inside.free })
    (states-opened c.self.inside.region c.self.inside.store c.self.inside.free c.self.inside.made c.self.invariant c.open_spare.new.store c.open_spare.ensures.opened)
    ∙ c.self.view_is)

pub invariant_of-self-in_err-taken : goal.invariant_of-self-in_err-taken
invariant_of-self-in_err-taken c =
    subst (λ (s : Slots). AreKept c.self.inside.region c.open_spare.new.store s c.self.inside.made) (sym c.in_err-taken.ensures.err)
    (kept_now (goal.at.invariant_of-self-in_err-taken c).After-open_spare)

pub returns-in_err-taken-clause-unchanged : goal.returns-in_err-taken-clause-unchanged
returns-in_err-taken-clause-unchanged c =
    let p = err_from_is_err_and c.from_residual-in_err-taken.result c.from_residual-in_err-taken.ensures.1 in
    rw p.1 ((λ i. record { region = c.self.inside.region; states = states_in (c.in_err-taken.ensures.err i) c.open_spare.new.store; resting = resting_slots (c.in_err-taken.ensures.err i) })
    ∙ ap (λ states. record { region = c.self.inside.region; states = states; resting = resting_slots c.self.inside.free })
    (states-opened c.self.inside.region c.self.inside.store c.self.inside.free c.self.inside.made c.self.invariant c.open_spare.new.store c.open_spare.ensures.opened)
    ∙ c.self.view_is)

-- ---- the slot comes next, and is taken

kept_some : (c : In-Some) → AreKept c.self.inside.region c.open_spare.new.store c.self.inside.free c.self.inside.made
kept_some c = kept-opened c.self.inside.region c.self.inside.store c.self.inside.free c.self.inside.made c.self.invariant c.open_spare.new.store c.open_spare.ensures.opened

is_next : (c : In-Some) → Some c.in-Some.taken ≡ next_of c.self.inside.free
is_next c = sym c.in-Some.is ∙ c.in_ok-taken.ensures.next

tells : (c : In-Some) → TellsFresh c.self.inside.free c.in-Some.taken
tells c = subst (λ (o : Option Taken). IfSome o (TellsFresh c.self.inside.free)) c.in-Some.is c.in_ok-taken.ensures.fresh

apart : (c : In-Some) → contains c.self.inside.free.taken c.in-Some.taken.slot ≡ true → ⊥
apart c = (subst (λ (o : Option Taken). IfSome o (λ taken. IsFree c.self.inside.free taken.slot)) c.in-Some.is c.in_ok-taken.ensures.free).0

step : (c : In-Some) → c.take.new.self ≡ after_take c.self.inside.free (Some c.in-Some.taken)
step c = c.in_ok-taken.ensures.step ∙ ap (after_take c.self.inside.free) c.in-Some.is

opened : (c : In-Some) → c.in-Some.taken.slot < made c.open_spare.new.store
opened c =
    next-opened c.self.inside.region c.self.inside.store c.open_spare.new.store c.self.inside.free c.self.inside.made c.self.invariant c.open_spare.ensures.opened
    c.in_ok-open_spare.ensures.room c.in-Some.taken (is_next c) (tells c)

fits : (c : In-Some) → FitsIn c.self.inside.region c.args.size
fits c =
    subst (λ (r : ℕ). FitsIn r c.args.size)
    (sym (region-is c.self.inside.region c.self.inside.store c.self.inside.free c.self.inside.made c.self.invariant c.args.self.now c.self.view_is)) c.requires.fits

more : (c : In-Some) → c.self.inside.made < max_objects
more c =
    omega (
      arith,
      c.requires.made,
      c.self.invariant.counted,
      ap count_made (states-are c.self.inside.region c.self.inside.store c.self.inside.free c.self.inside.made c.self.invariant c.args.self.now c.self.view_is),
    )

small : (c : In-Some) → 32 ≤ size_of c.self.inside.region
small c = (size_facts c.self.inside.region c.self.invariant.is_region).0

pub place-requires-clause-made : goal.place-requires-clause-made
place-requires-clause-made c = opened (goal.at.place-requires-clause-made c).In-Some

pub place-requires-clause-fresh : goal.place-requires-clause-fresh
place-requires-clause-fresh c =
    let at = (goal.at.place-requires-clause-fresh c).In-Some in
    next-zero c.self.inside.region c.self.inside.store c.open_spare.new.store c.self.inside.free c.self.inside.made c.self.invariant c.open_spare.ensures.opened
    c.in_ok-open_spare.ensures.room c.in-Some.taken (is_next at) (tells at)

pub place-requires-clause-version : goal.place-requires-clause-version
place-requires-clause-version c =
    let at = (goal.at.place-requires-clause-version c).In-Some in
    omega (
      arith,
      more at,
      version-small c.law_read.ensures c.self.inside.region c.open_spare.new.store c.self.inside.free c.self.inside.made (kept_some at) c.in-Some.taken (is_next at) (tells at) (apart at) (opened at)
          c.args.elem c.args.size c.args.fixed (fits at) (small at) (omega arith) (omega arith) (more at),
    )

-- ---- the object is placed

pub invariant_of-self-2 : goal.invariant_of-self-2
invariant_of-self-2 c =
    let at = (goal.at.invariant_of-self-2 c).In-Some in
    kept-then c.law_read.ensures c.self.inside.region c.open_spare.new.store c.self.inside.free c.self.inside.made (kept_some at) c.in-Some.taken (is_next at) (tells at) (apart at) (opened at)
    c.args.elem c.args.size c.args.fixed (fits at) (small at) (omega arith) (omega arith) (more at) c.place.new.store c.take.new.self c.place.ensures (step at)

next : (c : In-Some) → c.in-Some.taken.slot ≤ length (states_in c.self.inside.free c.self.inside.store)
next c = taken-next (states_in c.self.inside.free c.self.inside.store) c.self.inside.free c.self.invariant.live c.in-Some.taken (is_next c) (tells c) (apart c)

pub returns-clause-next : goal.returns-clause-next
returns-clause-next c =
    omega (arith, next (goal.at.returns-clause-next c).In-Some, ap length (states-are c.self.inside.region c.self.inside.store c.self.inside.free c.self.inside.made c.self.invariant c.args.self.now c.self.view_is))

pub returns-clause-within : goal.returns-clause-within
returns-clause-within c =
    let at = (goal.at.returns-clause-within c).In-Some in
    let within = taken-within (states_in c.self.inside.free c.self.inside.store) c.self.inside.free c.self.invariant.live c.in-Some.taken (is_next at) (tells at) (apart at) in
    omega (arith, within, c.self.invariant.count, ap slots (region-is c.self.inside.region c.self.inside.store c.self.inside.free c.self.inside.made c.self.invariant c.args.self.now c.self.view_is))

pub returns-clause-placed : goal.returns-clause-placed
returns-clause-placed c =
    let at = (goal.at.returns-clause-placed c).In-Some in
    (λ i. record {
      region = c.self.inside.region;
      states = states-then c.law_read.ensures c.self.inside.region c.open_spare.new.store c.self.inside.free c.self.inside.made (kept_some at) c.in-Some.taken (is_next at) (tells at) (apart at) (opened at)
          c.args.elem c.args.size c.args.fixed (fits at) (small at) (omega arith) (omega arith) (more at) c.place.new.store c.take.new.self c.place.ensures (step at) i;
      resting = c.in_ok-taken.ensures.resting i;
    })
    ∙ ap (λ states. record {
      region = c.self.inside.region;
      states = with_object states c.in-Some.taken.slot (record { elem = c.args.elem; fixed = c.args.fixed; cells = zeros c.args.size });
      resting = resting_slots c.self.inside.free;
    }) (states-opened c.self.inside.region c.self.inside.store c.self.inside.free c.self.inside.made c.self.invariant c.open_spare.new.store c.open_spare.ensures.opened)
    ∙ ap (λ st. record {
      region = st.region;
      states = with_object st.states c.in-Some.taken.slot (record { elem = c.args.elem; fixed = c.args.fixed; cells = zeros c.args.size });
      resting = st.resting;
    }) c.self.view_is
