use Rattle.std.proofs.Common.{arith, ◌≡◌, ℕ, pos, true, false, Ok, Err, sym, ap, ◌∙◌, subst}
use Rattle.std.proofs.lemmas.Result.{err_from_is_err_and}
use Rattle.heap_model.specs.Forms.{region_for}
use Rattle.heap_model.specs.declared.calls.Call.TheVariants as call
use Rattle.plain_meaning.specs.declared.tree.Target.{Target}
use Rattle.plain_meaning.specs.declared.scalar.Scalar.{Scalar}
use Rattle.plain_meaning.specs.declared.scalar.Scalar.TheVariants.{Number, Pointer}
use Rattle.plain_meaning.specs.declared.scalar.CheckedPointer.{CheckedPointer}
use Rattle.plain_meaning.specs.Tree.{Allocate, Turn, Point}
use Rattle.plain_meaning.specs.Points.{Ask, Asking, checked_point, checked_next, null}
use Rattle.plain_meaning.specs.Run.{layouts}
use Rattle.plain_meaning.specs.Values.{zero_of, type_of}
use Rattle.plain_meaning.specs.Meaning.{allocation}
use Rattle.tree_walk.specs.Steps.{Events, IsAsked, no_value, onward}
use Rattle.tree_walk.proofs.Passing.{passes_on, to_words, stops, ask_stops}
use Rattle.lowfat_regions.proofs.Classes.{class_of_some}
use Rattle.tree_walk.proofs.PointerActions.{with_room, has_size, null_subject, no_slot}
use Rattle.tree_walk.proofs.walk.Walk.allocate.Goals as goal

abbrev makes : ℕ → Target → ℕ → (Scalar CheckedPointer → Events) → Events
makes line target size next = Point line (Allocate (type_of target)) (Number (pos size)) zero_of next

abbrev asks_alloc : (line : ℕ) (target : Target) (size elem : ℕ) → elem ≡ type_of target →
    checked_point tt line (Allocate (type_of target)) (Number (pos size)) zero_of ≡ Ask (call.Alloc elem size false)
asks_alloc line target size elem is = ap (λ e. let x : Asking = Ask (call.Alloc e size false) in x) (sym is)

pub returns-in_err-turn-clause-leads : goal.returns-in_err-turn-clause-leads
returns-in_err-turn-clause-leads c =
    let p = err_from_is_err_and c.from_residual.result c.from_residual.ensures.1 in
    let walk = c.args.self.now in
    let line = c.args.line in
    rw (p.1, p.2)
    (stops {A = CheckedPointer} {C = Unit {0}} walk walk c.turn.new.self (allocation line c.args.target c.args.size) Pointer (λ next. Turn line (next tt)) no_value c.in_err-turn.field-0.0
    (λ next. ((λ x. makes line c.args.target c.args.size next), with_room walk line c.args.target c.args.size next (omega (arith, c.if-from-gt-MAX_OBJECT_BYTES.false, c.from.ensures))))
    (c.in_err-turn.ensures {u = tt}).leads)

pub ask-requires-clause-region : goal.ask-requires-clause-region
unfolding region_for
ask-requires-clause-region c = class_of_some c.args.size (omega (arith, c.if-from-gt-MAX_OBJECT_BYTES.false, c.from.ensures))

pub ask-requires-clause-types : goal.ask-requires-clause-types
ask-requires-clause-types c = subst (λ (t : ℕ). layouts.has t ≡ true) (sym c.type_of.ensures) (has_size c.args.target)

pub returns-in_err-word-clause-leads : goal.returns-in_err-word-clause-leads
returns-in_err-word-clause-leads c =
    let p = err_from_is_err_and c.from_residual-in_err-word.result c.from_residual-in_err-word.ensures.1 in
    let walk = c.args.self.now in
    let line = c.args.line in
    let target = c.args.target in
    let size = c.args.size in
    let asking = call.Alloc c.type_of.result size false in
    rw (p.1, p.2)
    (ask_stops {A = CheckedPointer} walk c.turn.new.self c.ask.new.self (allocation line target size) Pointer asking
    (record { line = line; word = 0; reach = record { lo = 0; hi = 0 }; want = 0 }) (Allocate (type_of target)) (Number (pos size)) zero_of (λ next. next) c.in_err-word.field-0.0
    (asks_alloc line target size c.type_of.result c.type_of.ensures) (null_subject line (type_of target))
    (λ next. passes_on (with_room walk line target size next (omega (arith, c.if-from-gt-MAX_OBJECT_BYTES.false, c.from.ensures))) ((c.in_ok-turn.ensures {u = tt}).leads (λ x. makes line target size next)))
    (subst (λ s. IsAsked c.turn.new.self asking s (Err c.in_err-word.field-0.0) c.ask.new.self) c.of-subject.ensures (c.in_err-word.ensures {u = tt}).asked))

pub returns-in-Placed-clause-leads : goal.returns-in-Placed-clause-leads
returns-in-Placed-clause-leads c = λ next.
    let walk = c.args.self.now in
    let line = c.args.line in
    let target = c.args.target in
    let size = c.args.size in
    let asking = call.Alloc c.type_of.result size false in
    let told = checked_next tt line (Allocate (type_of target)) (Number (pos size)) zero_of in
    passes_on (with_room walk line target size next (omega (arith, c.if-from-gt-MAX_OBJECT_BYTES.false, c.from.ensures)))
    (passes_on ((c.in_ok-turn.ensures {u = tt}).leads (λ x. makes line target size next))
    (to_words (next (Pointer c.new_pointer.result)) (ap (λ r. onward next (told r)) c.in-Placed.is ∙ ap (λ p. next (Pointer p)) (sym c.new_pointer.ensures))
    (subst (λ s. IsAsked c.turn.new.self asking s (Ok c.in_ok-word.field-0) c.ask.new.self) c.of-subject.ensures (c.in_ok-word.ensures {u = tt}).asked
    (Allocate (type_of target)) (Number (pos size)) zero_of next (asks_alloc line target size c.type_of.result c.type_of.ensures))))

pub returns-in_default-clause-leads : goal.returns-in_default-clause-leads
returns-in_default-clause-leads c = λ next.
    let walk = c.args.self.now in
    let line = c.args.line in
    let target = c.args.target in
    let size = c.args.size in
    let asking = call.Alloc c.type_of.result size false in
    let told = checked_next tt line (Allocate (type_of target)) (Number (pos size)) zero_of in
    passes_on (with_room walk line target size next (omega (arith, c.if-from-gt-MAX_OBJECT_BYTES.false, c.from.ensures)))
    (passes_on ((c.in_ok-turn.ensures {u = tt}).leads (λ x. makes line target size next))
    (to_words (next (Pointer null)) (ap (λ r. onward next (told r)) (no_slot c.in_ok-word.field-0 (c.in_ok-word.ensures {u = tt}).suits c.in_default.not-Placed))
    (subst (λ s. IsAsked c.turn.new.self asking s (Ok c.in_ok-word.field-0) c.ask.new.self) c.of-subject.ensures (c.in_ok-word.ensures {u = tt}).asked
    (Allocate (type_of target)) (Number (pos size)) zero_of next (asks_alloc line target size c.type_of.result c.type_of.ensures))))
