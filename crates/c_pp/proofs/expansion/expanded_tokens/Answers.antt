use Rattle.std.proofs.Common.{◌≡◌, ℕ, List, Option, get_or, length, Some, refl, sym, ap, subst, ◌∙◌, inr, arith, rules}
use Rattle.std.specs.Prelude.{slice_get}
use Rattle.std.proofs.lemmas.List.{length-replicate}
use Rattle.std.proofs.lemmas.Option.{slice_get-get_or}
use Rattle.std.proofs.lemmas.Result.{err_from_is_err_and}
use Rattle.c_pp.specs.declared.span.Span.{Span}
use Rattle.c_pp.specs.Marked.{marks_of, met_of}
use Rattle.c_pp.specs.Walks.{Covers}
use Rattle.c_pp.proofs.Expanding.{IsReading, reading_begins, reading_obeyed, reading_replaced, reading_error, reading_stuck, reading_full, reading_ends, reading_fine, reading_seen}
use Rattle.c_pp.proofs.WalkLemmas.{nowhere}
use Rattle.c_pp.proofs.expansion.expanded_tokens.Goals as goal

pub text-init : goal.text-init
text-init c =
    let bodies = c.in_ok-vec.ensures.items_if_clones_equal (λ y e. search rules) in
    let marks = c.in_ok-new.ensures.none in
    record {
      reading = reading_begins c.args.text.now c.args.tokens.now c.in_ok-names.names.numbers.items (record { bodies = c.in_ok-vec.field-0; marks = c.in_ok-new.field-0 }) c.new-output.result c.in_ok-names.names.count
          c.in_ok-names.ensures.name c.in_ok-names.ensures.numbered bodies marks c.in_ok-new.ensures.none_met c.new-output.ensures;
      marked = ap length marks ∙ length-replicate c.in_ok-names.names.count _ ∙ sym (ap length bodies ∙ length-replicate c.in_ok-names.names.count _);
      changes = (let first = c.in_ok-new.ensures.first in omega arith);
      within = omega arith;
    }

pub returns-in_err-at-clause-refused : goal.returns-in_err-at-clause-refused
returns-in_err-at-clause-refused c =
    let tokens = c.args.tokens.now in
    let at = c.text.at in
    let hash = get_or tokens at nowhere in
    let there : slice_get tokens at ≡ Some hash = slice_get-get_or tokens at nowhere c.text-test.true in
    let r = subst (λ (l : List (Option ℕ)). IsReading c.args.text.now tokens l c.text.table c.text.output at) (sym c.as_slice.ensures.value) c.text.invariant.reading in
    let p = err_from_is_err_and c.from_residual-in_err-at.result c.from_residual-in_err-at.ensures.1 in
    rw (p.1, p.2) (reading_error c.args.text.now tokens c.as_slice.result.now c.text.table c.text.output at r _
    (c.in_err-at.ensures.obeyed r.macros r.name hash there (sym c.begins_directive.ensures ∙ c.if-begins_directive.true) r.seen))

pub text-preserved-then-begins_directive : goal.text-preserved-then-begins_directive
text-preserved-then-begins_directive c =
    let tokens = c.args.tokens.now in
    let at = c.text.at in
    let hash = get_or tokens at nowhere in
    let there : slice_get tokens at ≡ Some hash = slice_get-get_or tokens at nowhere c.text-test.true in
    let r = subst (λ (l : List (Option ℕ)). IsReading c.args.text.now tokens l c.text.table c.text.output at) (sym c.as_slice.ensures.value) c.text.invariant.reading in
    let begins = sym c.begins_directive.ensures ∙ c.if-begins_directive.true in
    let further = c.in_ok-at.ensures.further in
    let few = c.in_ok-at.ensures.few in
    let before = c.text.invariant.changes in
    record {
      reading = subst (λ (l : List (Option ℕ)). IsReading c.args.text.now tokens l c.obey.new.table c.text.output c.in_ok-at.at) c.as_slice.ensures.value
          (reading_obeyed c.args.text.now tokens c.as_slice.result.now c.text.table c.text.output at r c.obey.new.table c.in_ok-at.at hash c.text.invariant.marked there begins
          (c.in_ok-at.ensures.obeyed r.macros r.name hash there begins r.seen));
      marked = c.in_ok-at.ensures.same_marks ∙ c.text.invariant.marked ∙ sym c.in_ok-at.ensures.same_bodies;
      changes = omega arith;
      within = omega arith;
    }

pub returns-in_err-replace-clause-refused : goal.returns-in_err-replace-clause-refused
returns-in_err-replace-clause-refused c =
    let tokens = c.args.tokens.now in
    let numbers = c.in_ok-names.names.numbers.items in
    let at = c.text.at in
    let token = get_or tokens at nowhere in
    let there : slice_get tokens at ≡ Some token = slice_get-get_or tokens at nowhere c.text-test.true in
    let r = c.text.invariant.reading in
    let plain = sym c.begins_directive.ensures ∙ c.if-begins_directive.false in
    let seen = reading_seen c.args.text.now tokens numbers c.text.table c.text.output at r c.as_slice-in-text.result.now c.as_slice-in-text-2.result.now c.as_slice-in-text.ensures.value
    c.as_slice-in-text-2.ensures.value in
    let p = err_from_is_err_and c.from_residual-in_err-replace.result c.from_residual-in_err-replace.ensures.1 in
    rw (p.1, p.2) (reading_stuck c.args.text.now tokens numbers c.text.table c.text.output at r _ token there plain
    (c.in_err-replace.ensures.replaced c.args.text.now r.macros r.name r.made token there seen r.knows r.closed r.holds))

pub returns-then-output-clause-refused : goal.returns-then-output-clause-refused
returns-then-output-clause-refused c =
    let tokens = c.args.tokens.now in
    let numbers = c.in_ok-names.names.numbers.items in
    let at = c.text.at in
    let token = get_or tokens at nowhere in
    let there : slice_get tokens at ≡ Some token = slice_get-get_or tokens at nowhere c.text-test.true in
    let r = c.text.invariant.reading in
    let plain = sym c.begins_directive.ensures ∙ c.if-begins_directive.false in
    let seen = reading_seen c.args.text.now tokens numbers c.text.table c.text.output at r c.as_slice-in-text.result.now c.as_slice-in-text-2.result.now c.as_slice-in-text.ensures.value
    c.as_slice-in-text-2.ensures.value in
    inr (reading_full c.args.text.now tokens numbers c.text.table c.text.output at r (marks_of c.replace.new.marks) c.replace.new.output token there plain
    (c.in_ok-replace.ensures.replaced c.args.text.now r.macros r.name r.made token there seen r.knows r.closed r.holds) c.if-output.true)

pub text-preserved : goal.text-preserved
text-preserved c =
    let tokens = c.args.tokens.now in
    let numbers = c.in_ok-names.names.numbers.items in
    let at = c.text.at in
    let token = get_or tokens at nowhere in
    let there : slice_get tokens at ≡ Some token = slice_get-get_or tokens at nowhere c.text-test.true in
    let r = c.text.invariant.reading in
    let plain = sym c.begins_directive.ensures ∙ c.if-begins_directive.false in
    let seen = reading_seen c.args.text.now tokens numbers c.text.table c.text.output at r c.as_slice-in-text.result.now c.as_slice-in-text-2.result.now c.as_slice-in-text.ensures.value
    c.as_slice-in-text-2.ensures.value in
    let low = c.text-test.true in
    let before = c.text.invariant.changes in
    let same = c.in_ok-replace.ensures.unchanged in
    let covers = subst (λ (l : List (Option ℕ)). Covers tokens l c.text.table.bodies.items (marks_of c.replace.new.marks) (met_of c.replace.new.marks)) c.as_slice-in-text.ensures.value
    (subst (λ (l : List (Option Span)). Covers tokens c.as_slice-in-text.result.now l (marks_of c.replace.new.marks) (met_of c.replace.new.marks)) c.as_slice-in-text-2.ensures.value
    (c.in_ok-replace.ensures.covers (subst (λ (l : List (Option Span)). Covers tokens c.as_slice-in-text.result.now l (marks_of c.text.table.marks) (met_of c.text.table.marks)) (sym c.as_slice-in-text-2.ensures.value)
    (subst (λ (l : List (Option ℕ)). Covers tokens l c.text.table.bodies.items (marks_of c.text.table.marks) (met_of c.text.table.marks)) (sym c.as_slice-in-text.ensures.value) r.covers)))) in
    record {
      reading = reading_replaced c.args.text.now tokens numbers c.text.table c.text.output at r (record { bodies = c.text.table.bodies; marks = c.replace.new.marks }) c.replace.new.output token there plain refl covers
          (c.in_ok-replace.ensures.replaced c.args.text.now r.macros r.name r.made token there seen r.knows r.closed r.holds) c.if-output.false;
      marked = c.in_ok-replace.ensures.marked ∙ c.text.invariant.marked;
      changes = omega arith;
      within = omega arith;
    }

pub returns-clause-found : goal.returns-clause-found
returns-clause-found c = let r = c.text.invariant.reading in reading_ends c.args.text.now c.args.tokens.now c.in_ok-names.names.numbers.items c.text.table c.text.output c.text.at r
    (reading_fine c.args.text.now c.args.tokens.now c.in_ok-names.names.numbers.items c.text.table c.text.output c.text.at r) c.text-test.false
