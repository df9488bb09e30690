use Rattle.std.proofs.Common.{◌≡◌, ◌∙◌, ◌==◌, false, length, refl, sym, ap, arith}
use Rattle.std.proofs.lemmas.Bool.{eq-eqb, ne_eqb}
use Rattle.slot_headers.specs.Words.{version_of, address_of}
use Rattle.heap_model.specs.Cells.{width, access_report}
use Rattle.heap_model.specs.Answers.{is_inside, offset}
use Rattle.heap_model.specs.State.{live_by}
use Rattle.region_calls.proofs.Standing.{address-bound, live-named, offset-here}
use Rattle.region_calls.proofs.Accessing.{refused-null, refused-free, refused-access, gives-access-report, same-access_report, width-bound, placed-within}
use Rattle.region_calls.proofs.Ending.{not-live}
use Rattle.region_calls.proofs.places.locate.Goals as goal
use Rattle.region_calls.proofs.places.locate.Goals.{Else-version-eq0, After-access_report}

not_null : (c : Else-version-eq0) → (version_of c.args.p == 0) ≡ false
not_null c = ne_eqb _ _ (λ e. c.if-version-eq0.false (c.parts-address.ensures.version ∙ e))

pub returns-then-version-eq0 : goal.returns-then-version-eq0
returns-then-version-eq0 c = (
  refused-null (live_by c.args.slots.now) c.args.p c.args.reach.now c.args.kind
      (eq-eqb _ _ (sym c.parts-address.ensures.version ∙ c.if-version-eq0.true)),
  refl,
)

pub returns-in_default : goal.returns-in_default
returns-in_default c = (
  refused-free (live_by c.args.slots.now) c.args.p c.args.reach.now c.args.kind
      (not_null (goal.at.returns-in_default c).Else-version-eq0)
      (not-live c.args.slots.now c.args.reach.now.lo c.args.p c.object_named.result c.object_named.ensures
      c.in_default.not-Live),
  refl,
)

pub is_inside-inside-requires : goal.is_inside-inside-requires
is_inside-inside-requires c = omega
    (arith, address-bound c.args.p, c.parts-address.ensures.address, width-bound c.args.kind, c.width_of-width.ensures)

-- how far the word is past the first byte
far : (c : After-access_report) → c.offset_in_slot-offset.result ≡ offset c.args.reach.now.lo c.args.p
far c = c.offset_in_slot-offset.ensures.value
    ∙ sym (offset-here c.args.slots.now c.args.reach.now.lo c.in-Live.slot c.in-Live.ensures.at c.args.p)

-- the test on the place, as it was computed
computed : (c : After-access_report) → c.access_report.result ≡ access_report
    (is_inside c.args.reach.now (address_of c.args.p) (width c.args.kind)) c.offset_in_slot-offset.result
    (width c.args.kind) (length c.in-Live.ensures.object.cells)
computed c =
    c.access_report.ensures
    ∙ same-access_report c.args.reach.now c.is_inside-inside.result c.parts-address.result.0
    (address_of c.args.p) c.width_of-width.result (width c.args.kind) c.from.result
    (length c.in-Live.ensures.object.cells) c.offset_in_slot-offset.result
    c.is_inside-inside.ensures c.parts-address.ensures.address c.width_of-width.ensures
    (c.from.ensures ∙ ap (λ f. f.size) c.in-Live.ensures.known)

pub returns-in-Some : goal.returns-in-Some
returns-in-Some c =
    let named = c.in-Live.ensures in
    let is = sym (computed (goal.at.returns-in-Some c).After-access_report) ∙ c.in-Some.is in
    let at = ap (λ k. access_report (is_inside c.args.reach.now (address_of c.args.p) (width c.args.kind)) k
    (width c.args.kind) (length named.object.cells)) (sym (far (goal.at.returns-in-Some c).After-access_report))
    ∙ is in (
      refused-access (live_by c.args.slots.now) c.args.p c.args.reach.now c.args.kind
          (not_null (goal.at.returns-in-Some c).Else-version-eq0) named.object
          (live-named c.args.slots.now c.args.reach.now.lo c.args.p c.in-Live.slot c.in-Live.facts named)
          c.in-Some.report at,
      gives-access-report _ _ _ _ c.in-Some.report is,
    )

pub overflow_cast-result : goal.overflow_cast-result
overflow_cast-result c =
    let is = sym (computed (goal.at.overflow_cast-result c).After-access_report) ∙ c.in-None.is in
    omega (arith, placed-within _ _ _ _ is, ap (λ f. f.size) c.in-Live.ensures.known)

pub returns-in-None : goal.returns-in-None
returns-in-None c = record {
  not_null = not_null (goal.at.returns-in-None c).Else-version-eq0;
  facts = c.in-Live.facts;
  named = c.in-Live.ensures;
  offset_is = far (goal.at.returns-in-None c).After-access_report;
  placed = sym (computed (goal.at.returns-in-None c).After-access_report) ∙ c.in-None.is;
}
