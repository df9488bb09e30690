use Rattle.std.proofs.Common.{◌≡◌, ℕ, ℤ, Ok, Err, refl, sym, ap, ◌∙◌, subst, rules}
use Rattle.std.specs.Int.{w32, cast_signed, cast_unsigned}
use Rattle.std.proofs.lemmas.Int.{to_z-of_z}
use Rattle.std.proofs.lemmas.Result.{err_from_is_err_and}
use Rattle.heap_model.specs.Forms.{region_for}
use Rattle.heap_model.specs.declared.calls.AccessKind.{AccessKind}
use Rattle.plain_meaning.specs.declared.tree.Target.{Target}
use Rattle.heap_model.specs.declared.calls.Call.TheVariants as call
use Rattle.plain_meaning.specs.declared.scalar.Scalar.{Scalar}
use Rattle.plain_meaning.specs.declared.scalar.Scalar.TheVariants.{Pointer}
use Rattle.plain_meaning.specs.declared.scalar.CheckedPointer.{CheckedPointer}
use Rattle.plain_meaning.specs.Tree.{Load, Turn, Point}
use Rattle.plain_meaning.specs.Points.{Ask, Asking, number_of, checked_point, checked_next}
use Rattle.plain_meaning.specs.Values.{zero_of, kind_of, conversion}
use Rattle.tree_walk.specs.Steps.{Events, IsAsked, no_value, itself, onward}
use Rattle.tree_walk.proofs.Passing.{nothing, passes_on, to_words, stops, ask_stops}
use Rattle.tree_walk.proofs.walk.Walk.load.Goals as goal

abbrev after : (ℤ → Events) → Scalar CheckedPointer → Events
after next v = next (conversion w32 (number_of v))

abbrev reads : ℕ → Target → CheckedPointer → (ℤ → Events) → Events
reads line target lvalue next = Point line (Load (kind_of target)) (Pointer lvalue) zero_of (after next)

abbrev asks_load : (line : ℕ) (target : Target) (lvalue : CheckedPointer) (kind : AccessKind) → kind ≡ kind_of target →
    checked_point tt line (Load (kind_of target)) (Pointer lvalue) zero_of ≡ Ask (call.Load lvalue.word lvalue.reach kind)
asks_load line target lvalue kind is = ap (λ k. let x : Asking = Ask (call.Load lvalue.word lvalue.reach k) in x) (sym is)

pub ask-requires-clause-region : goal.ask-requires-clause-region
unfolding region_for
ask-requires-clause-region c = refl

pub returns-in_err-turn-clause-leads : goal.returns-in_err-turn-clause-leads
returns-in_err-turn-clause-leads c =
    let p = err_from_is_err_and c.from_residual.result c.from_residual.ensures.1 in
    let walk = c.args.self.now in
    let reading = reads c.args.line c.args.target c.args.lvalue in
    rw (p.1, p.2)
    (stops {A = ℤ} {C = Unit {0}} walk walk c.turn.new.self (λ next. Turn c.args.line (reading next)) itself (λ next. Turn c.args.line (next tt)) no_value c.in_err-turn.field-0.0
    (λ next. ((λ x. reading next), nothing walk (Turn c.args.line (reading next)))) (c.in_err-turn.ensures {u = tt}).leads)

pub returns-in_err-value-clause-leads : goal.returns-in_err-value-clause-leads
returns-in_err-value-clause-leads c =
    let p = err_from_is_err_and c.from_residual-in_err-value.result c.from_residual-in_err-value.ensures.1 in
    let walk = c.args.self.now in
    let line = c.args.line in
    let lvalue = c.args.lvalue in
    let asking = call.Load lvalue.word lvalue.reach c.kind_of.result in
    rw (p.1, p.2)
    (ask_stops walk c.turn.new.self c.ask.new.self (λ next. Turn line (reads line c.args.target lvalue next)) itself asking
    (record { line = line; word = lvalue.word; reach = lvalue.reach; want = 0 }) (Load (kind_of c.args.target)) (Pointer lvalue) zero_of after c.in_err-value.field-0.0
    (asks_load line c.args.target lvalue c.kind_of.result c.kind_of.ensures) (record { word = refl; reach = refl; want = refl })
    (λ next. (c.in_ok-turn.ensures {u = tt}).leads (λ x. reads line c.args.target lvalue next))
    (subst (λ s. IsAsked c.turn.new.self asking s (Err c.in_err-value.field-0.0) c.ask.new.self) c.of-subject.ensures (c.in_err-value.ensures {u = tt}).asked))

pub returns-clause-leads : goal.returns-clause-leads
returns-clause-leads c = λ next.
    let line = c.args.line in
    let lvalue = c.args.lvalue in
    let asking = call.Load lvalue.word lvalue.reach c.kind_of.result in
    let told = checked_next tt line (Load (kind_of c.args.target)) (Pointer lvalue) zero_of in
    passes_on ((c.in_ok-turn.ensures {u = tt}).leads (λ x. reads line c.args.target lvalue next))
    (to_words (next (cast_signed w32 (cast_unsigned w32 c.int_of.result)))
    (ap (λ r. onward (after next) (told r)) c.in-Value.is ∙ ap next (sym c.int_of.ensures ∙ sym (to_z-of_z w32 c.int_of.result (search rules))))
    (subst (λ s. IsAsked c.turn.new.self asking s (Ok c.in_ok-value.field-0) c.ask.new.self) c.of-subject.ensures (c.in_ok-value.ensures {u = tt}).asked
    (Load (kind_of c.args.target)) (Pointer lvalue) zero_of (after next) (asks_load line c.args.target lvalue c.kind_of.result c.kind_of.ensures)))
