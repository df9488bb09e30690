use Rattle.std.proofs.Common.{◌≡◌, ◌∙◌, ◌==◌, false, None, Some, refl, sym, ap, arith}
use Rattle.std.proofs.lemmas.Bool.{eq-eqb, ne_eqb}
use Rattle.lowfat_regions.specs.Regions.{object_address}
use Rattle.slot_headers.specs.Words.{version_of, address_of}
use Rattle.heap_model.specs.Answers.{found_reply, first_byte, offset}
use Rattle.heap_model.specs.Layouts.{layouts_of}
use Rattle.heap_model.specs.State.{live_by, dead_by}
use Rattle.object_slots.proofs.Laws.{size-bound}
use Rattle.region_calls.specs.Naming.{nth_slot}
use Rattle.region_calls.proofs.Standing.{live-named, offset-here}
use Rattle.region_calls.proofs.Ending.{not-live}
use Rattle.region_calls.proofs.Freeing.{check-null, check-at, first-here}
use Rattle.region_calls.proofs.Knowing.{has-size}
use Rattle.region_calls.proofs.checks.check.Goals as goal
use Rattle.region_calls.proofs.checks.check.Goals.{Else-version-eq0, In-Live}

not_null : (c : Else-version-eq0) → (version_of c.args.p == 0) ≡ false
not_null c = ne_eqb _ _ (λ e. c.if-version-eq0.false (c.parts-address.ensures.version ∙ e))

pub object_named-requires : goal.object_named-requires
object_named-requires c = not_null (goal.at.object_named-requires c).Else-version-eq0

pub bounds_at-requires-clause-elem : goal.bounds_at-requires-clause-elem
bounds_at-requires-clause-elem c =
    has-size c.args.table.now c.in-Live.facts.elem
    (ap (λ f. (layouts_of c.args.table.now).has f.elem) c.in-Live.ensures.known
    ∙ c.requires.elements c.in-Live.slot c.in-Live.ensures.object c.in-Live.ensures.body)

pub bounds_at-requires-clause-size : goal.bounds_at-requires-clause-size
bounds_at-requires-clause-size c =
    omega (
      arith,
      ap (λ f. f.size) c.in-Live.ensures.known,
      c.law_slots.ensures.fits c.in-Live.slot c.in-Live.ensures.object c.in-Live.ensures.body,
      size-bound c.args.slots.now.region c.law_slots.ensures.region,
    )

pub returns-then-version-eq0-clause-answer : goal.returns-then-version-eq0-clause-answer
returns-then-version-eq0-clause-answer c =
    check-null (layouts_of c.args.table.now) (live_by c.args.slots.now)
    (dead_by c.args.slots.now) c.args.p c.args.want
    (eq-eqb _ _ (sym c.parts-address.ensures.version ∙ c.if-version-eq0.true))

pub returns-in_default : goal.returns-in_default
returns-in_default c = record {
  answer = check-at (layouts_of c.args.table.now) (live_by c.args.slots.now)
      (dead_by c.args.slots.now) c.args.p c.args.want (not_null (goal.at.returns-in_default c).Else-version-eq0) None
      (ap (λ a. live_by c.args.slots.now a c.args.p) (sym c.parts-address.ensures.address)
      ∙ not-live c.args.slots.now c.parts-address.result.0 c.args.p c.object_named.result c.object_named.ensures
      c.in_default.not-Live);
  suits = refl;
}

pub returns-clause-answer : goal.returns-clause-answer
returns-clause-answer c =
    let st = c.args.slots.now in
    let named = c.in-Live.ensures in
    let first : object_address (nth_slot st c.in-Live.slot) ≡ first_byte (address_of c.args.p) =
    sym (first-here st c.parts-address.result.0 c.in-Live.slot named.at)
    ∙ ap first_byte c.parts-address.ensures.address in
    let far : c.offset_in_slot-offset.result ≡ offset (address_of c.args.p) c.args.p =
    c.offset_in_slot-offset.ensures.value ∙ sym
    (offset-here st c.parts-address.result.0 c.in-Live.slot named.at c.args.p)
    ∙ ap (λ a. offset a c.args.p) c.parts-address.ensures.address in
    c.bounds_at.ensures.value
    ∙ (λ i. found_reply (first i)
    ((layouts_of c.args.table.now).preferred (named.known i).elem (named.known i).size (far i) c.args.want))
    ∙ check-at (layouts_of c.args.table.now) (live_by st) (dead_by st) c.args.p c.args.want
    (not_null (goal.at.returns-clause-answer c).Else-version-eq0) (Some named.object)
    (ap (λ a. live_by st a c.args.p) (sym c.parts-address.ensures.address)
    ∙ live-named st c.parts-address.result.0 c.args.p c.in-Live.slot c.in-Live.facts named)
