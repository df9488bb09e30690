use Rattle.std.proofs.Common.{ℕ, false, refl, sym}
use Rattle.std.proofs.lemmas.Result.{err_from_is_err_and}
use Rattle.heap_model.specs.Forms.{region_for}
use Rattle.heap_model.specs.declared.calls.Call.TheVariants as call
use Rattle.plain_meaning.specs.declared.scalar.Scalar.TheVariants.{Pointer}
use Rattle.plain_meaning.specs.declared.scalar.CheckedPointer.{CheckedPointer}
use Rattle.plain_meaning.specs.Tree.{Free, Turn, Point}
use Rattle.plain_meaning.specs.Values.{zero_of}
use Rattle.plain_meaning.specs.Meaning.{release}
use Rattle.tree_walk.specs.Steps.{Events, no_value}
use Rattle.tree_walk.proofs.Passing.{passes_on, to_words, stops, ask_stops, done_onward}
use Rattle.tree_walk.proofs.PointerActions.{release_goes, asks_free}
use Rattle.tree_walk.proofs.walk.Walk.release.Goals as goal

abbrev frees : ℕ → CheckedPointer → Events → Events
frees line p t = Point line Free (Pointer p) zero_of (λ done. t)

pub returns-in_err-turn-clause-leads : goal.returns-in_err-turn-clause-leads
returns-in_err-turn-clause-leads c =
    let p = err_from_is_err_and c.from_residual.result c.from_residual.ensures.1 in
    let walk = c.args.self.now in
    let line = c.args.line in
    let pointer = c.args.pointer in
    rw (p.1, p.2)
    (stops {A = Unit {0}} {B = Unit {0}} {C = Unit {0}} walk walk c.turn.new.self (λ next. release line (Pointer pointer) (next tt)) no_value (λ next. Turn line (next tt)) no_value c.in_err-turn.field-0.0
    (λ next. (
      (λ x. frees line pointer (next tt)),
      release_goes walk line pointer (next tt) (sym (c.if-not-may_escape.ensures {u = tt})) (sym (c.if-is_null.ensures {u = tt})),
    )) (c.in_err-turn.ensures {u = tt}).leads)

pub ask-requires-clause-region : goal.ask-requires-clause-region
unfolding region_for
ask-requires-clause-region c = refl

pub returns-in_err-ask-clause-leads : goal.returns-in_err-ask-clause-leads
returns-in_err-ask-clause-leads c =
    let p = err_from_is_err_and c.from_residual-in_err-ask.result c.from_residual-in_err-ask.ensures.1 in
    let walk = c.args.self.now in
    let line = c.args.line in
    let pointer = c.args.pointer in
    let inside = sym (c.if-not-may_escape.ensures {u = tt}) in
    let is = sym (c.if-is_null.ensures {u = tt}) in
    rw (p.1, p.2)
    (ask_stops {A = Unit {0}} {B = Unit {0}} walk c.turn.new.self c.ask.new.self (λ next. release line (Pointer pointer) (next tt)) no_value (call.Free pointer.word false)
    (record { line = line; word = pointer.word; reach = c.slot_bounds.result; want = 0 }) Free (Pointer pointer) zero_of (λ next done. next tt) c.in_err-ask.field-0.0
    (asks_free c.turn.new.self line pointer) (record { word = refl; reach = c.slot_bounds.ensures; want = refl })
    (λ next. passes_on (release_goes walk line pointer (next tt) inside is) ((c.in_ok-turn.ensures {u = tt}).leads (λ x. frees line pointer (next tt))))
    (c.in_err-ask.ensures {u = tt}).asked)

pub returns-clause-leads : goal.returns-clause-leads
returns-clause-leads c = λ next.
    let walk = c.args.self.now in
    let line = c.args.line in
    let pointer = c.args.pointer in
    let inside = sym (c.if-not-may_escape.ensures {u = tt}) in
    let is = sym (c.if-is_null.ensures {u = tt}) in
    passes_on (release_goes walk line pointer (next tt) inside is)
    (passes_on ((c.in_ok-turn.ensures {u = tt}).leads (λ x. frees line pointer (next tt)))
    (to_words (next tt) (done_onward line Free (Pointer pointer) zero_of (next tt) c.in_ok-ask.field-0 (c.in_ok-ask.ensures {u = tt}).told)
    ((c.in_ok-ask.ensures {u = tt}).asked Free (Pointer pointer) zero_of (λ done. next tt) (asks_free c.turn.new.self line pointer))))
