use Rattle.std.proofs.Common.{◌≡◌, ℕ, true, refl, sym, ap, ◌∙◌, subst}
use Rattle.std.proofs.lemmas.Result.{err_from_is_err_and}
use Rattle.heap_model.specs.Forms.{region_for}
use Rattle.heap_model.specs.declared.calls.Call.TheVariants as call
use Rattle.plain_meaning.specs.declared.tree.Target.{Target}
use Rattle.plain_meaning.specs.declared.record.Ending.TheVariants.{Reported}
use Rattle.plain_meaning.specs.declared.scalar.Scalar.{Scalar}
use Rattle.plain_meaning.specs.declared.scalar.Scalar.TheVariants.{Pointer}
use Rattle.plain_meaning.specs.declared.scalar.CheckedPointer.{CheckedPointer}
use Rattle.plain_meaning.specs.Tree.{Convert, Stop, Turn, Point}
use Rattle.plain_meaning.specs.Points.{Ask, Asking, checked_point, checked_next}
use Rattle.plain_meaning.specs.Run.{layouts}
use Rattle.plain_meaning.specs.Values.{zero_of, type_of}
use Rattle.tree_walk.specs.Steps.{Events, no_value, onward}
use Rattle.tree_walk.proofs.Passing.{nothing, passes_on, to_words, stops, ask_stops}
use Rattle.tree_walk.proofs.PointerActions.{has_size, conversion_escapes, conversion_of_null, asks_check}
use Rattle.tree_walk.proofs.walk.Walk.cast.Goals as goal

abbrev converts : ℕ → Target → CheckedPointer → (Scalar CheckedPointer → Events) → Events
converts line target p next = Point line (Convert (type_of target)) (Pointer p) zero_of next

pub returns-in_err-turn-clause-leads : goal.returns-in_err-turn-clause-leads
returns-in_err-turn-clause-leads c =
    let p = err_from_is_err_and c.from_residual.result c.from_residual.ensures.1 in
    let walk = c.args.self.now in
    let line = c.args.line in
    let converting = converts line c.args.target c.args.pointer in
    rw (p.1, p.2)
    (stops {A = CheckedPointer} {C = Unit {0}} walk walk c.turn.new.self (λ next. Turn line (converting next)) Pointer (λ next. Turn line (next tt)) no_value c.in_err-turn.field-0.0
    (λ next. ((λ x. converting next), nothing walk (Turn line (converting next)))) (c.in_err-turn.ensures {u = tt}).leads)

pub returns-then-not-may_escape-clause-leads : goal.returns-then-not-may_escape-clause-leads
returns-then-not-may_escape-clause-leads c = λ next.
    passes_on ((c.in_ok-turn.ensures {u = tt}).leads (λ x. converts c.args.line c.args.target c.args.pointer next))
    (to_words (Stop (Reported c.escape.result)) (ap (λ r. Stop (Reported r)) (sym c.escape.ensures))
    (conversion_escapes c.turn.new.self c.args.line c.args.pointer (type_of c.args.target) next (sym (c.if-not-may_escape.ensures {u = tt}))))

pub returns-then-is_null-clause-leads : goal.returns-then-is_null-clause-leads
returns-then-is_null-clause-leads c = λ next.
    passes_on ((c.in_ok-turn.ensures {u = tt}).leads (λ x. converts c.args.line c.args.target c.args.pointer next))
    (conversion_of_null c.turn.new.self c.args.line c.args.pointer (type_of c.args.target) next (sym (c.if-not-may_escape.ensures {u = tt})) (sym (c.if-is_null.ensures {u = tt})))

pub ask-requires-clause-region : goal.ask-requires-clause-region
unfolding region_for
ask-requires-clause-region c = refl

pub ask-requires-clause-types : goal.ask-requires-clause-types
ask-requires-clause-types c = subst (λ (t : ℕ). layouts.has t ≡ true) (sym c.type_of.ensures) (has_size c.args.target)

abbrev asks_it : (line : ℕ) (target : Target) (p : CheckedPointer) (want : ℕ) → want ≡ type_of target →
    checked_point tt line (Convert (type_of target)) (Pointer p) zero_of ≡ Ask (call.Check p.word (type_of target)) →
    checked_point tt line (Convert (type_of target)) (Pointer p) zero_of ≡ Ask (call.Check p.word want)
asks_it line target p want is asks = asks ∙ ap (λ w. let x : Asking = Ask (call.Check p.word w) in x) (sym is)

pub returns-in_err-reach-clause-leads : goal.returns-in_err-reach-clause-leads
returns-in_err-reach-clause-leads c =
    let p = err_from_is_err_and c.from_residual-in_err-reach.result c.from_residual-in_err-reach.ensures.1 in
    let walk = c.args.self.now in
    let line = c.args.line in
    let target = c.args.target in
    let pointer = c.args.pointer in
    let here = c.turn.new.self in
    let asking = call.Check pointer.word c.type_of.result in
    rw (p.1, p.2)
    (ask_stops {A = CheckedPointer} walk here c.ask.new.self (λ next. Turn line (converts line target pointer next)) Pointer asking
    (record { line = line; word = pointer.word; reach = c.slot_bounds.result; want = c.type_of-2.result }) (Convert (type_of target)) (Pointer pointer) zero_of (λ next. next) c.in_err-reach.field-0.0
    (asks_it line target pointer c.type_of.result c.type_of.ensures
    (asks_check here line pointer (type_of target) (sym (c.if-not-may_escape.ensures {u = tt})) (sym (c.if-is_null.ensures {u = tt}))))
    (record { word = refl; reach = c.slot_bounds.ensures; want = c.type_of-2.ensures })
    (λ next. (c.in_ok-turn.ensures {u = tt}).leads (λ x. converts line target pointer next))
    (c.in_err-reach.ensures {u = tt}).asked)

pub returns-clause-leads : goal.returns-clause-leads
returns-clause-leads c = λ next.
    let line = c.args.line in
    let target = c.args.target in
    let pointer = c.args.pointer in
    let here = c.turn.new.self in
    let told = checked_next tt line (Convert (type_of target)) (Pointer pointer) zero_of in
    passes_on ((c.in_ok-turn.ensures {u = tt}).leads (λ x. converts line target pointer next))
    (to_words (next (Pointer (record { word = pointer.word; reach = c.in-Found.reach }))) (ap (λ r. onward next (told r)) c.in-Found.is)
    ((c.in_ok-reach.ensures {u = tt}).asked (Convert (type_of target)) (Pointer pointer) zero_of next
    (asks_it line target pointer c.type_of.result c.type_of.ensures
    (asks_check here line pointer (type_of target) (sym (c.if-not-may_escape.ensures {u = tt})) (sym (c.if-is_null.ensures {u = tt}))))))
