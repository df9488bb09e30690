use Rattle.std.proofs.Common.{◌≡◌, ℕ, ℤ, false, Ok, Err, refl, sym, ap, ◌∙◌, subst, rules}
use Rattle.std.specs.Int.{w32, w64, cast_unsigned}
use Rattle.std.proofs.lemmas.Int.{to_z-of_z}
use Rattle.std.proofs.lemmas.Result.{err_from_is_err_and}
use Rattle.heap_model.specs.Forms.{region_for}
use Rattle.heap_model.specs.declared.calls.AccessKind.{AccessKind}
use Rattle.plain_meaning.specs.declared.tree.Target.{Target}
use Rattle.heap_model.specs.declared.calls.Call.TheVariants as call
use Rattle.plain_meaning.specs.declared.scalar.Scalar.{Scalar}
use Rattle.plain_meaning.specs.declared.scalar.Scalar.TheVariants.{Number, Pointer}
use Rattle.plain_meaning.specs.declared.scalar.CheckedPointer.{CheckedPointer}
use Rattle.plain_meaning.specs.Tree.{Store, Turn, Point}
use Rattle.plain_meaning.specs.Points.{Ask, Asking, number_value, checked_point}
use Rattle.plain_meaning.specs.Values.{kind_of, width_of, conversion}
use Rattle.tree_walk.specs.Steps.{Events, IsAsked, no_value}
use Rattle.tree_walk.proofs.Passing.{nothing, passes_on, to_words, stops, ask_stops, done_onward}
use Rattle.tree_walk.proofs.walk.Walk.store.Goals as goal

abbrev after : (Unit {0} → Events) → Scalar CheckedPointer → Events
after next done = next tt

abbrev bits_for : Target → ℤ → Scalar CheckedPointer
bits_for target value = Number (conversion (width_of target) value)

abbrev writes : ℕ → Target → CheckedPointer → ℤ → (Unit {0} → Events) → Events
writes line target lvalue value next = Point line (Store (kind_of target)) (Pointer lvalue) (bits_for target value) (after next)

abbrev asks_store : (line : ℕ) (target : Target) (lvalue : CheckedPointer) (value : ℤ) (kind : AccessKind) (bits : ℕ) → kind ≡ kind_of target →
    bits ≡ cast_unsigned w64 (conversion (width_of target) value) →
    checked_point tt line (Store (kind_of target)) (Pointer lvalue) (bits_for target value) ≡ Ask (call.Store lvalue.word lvalue.reach kind (record { bits = bits; pointer = false }))
asks_store line target lvalue value kind bits is same =
    ap (λ k. let x : Asking = Ask (call.Store lvalue.word lvalue.reach k (number_value (conversion (width_of target) value))) in x) (sym is)
    ∙ ap (λ b. let x : Asking = Ask (call.Store lvalue.word lvalue.reach kind (record { bits = b; pointer = false })) in x) (sym same)

pub ask-requires-clause-region : goal.ask-requires-clause-region
unfolding region_for
ask-requires-clause-region c = refl

pub returns-in_err-turn-clause-leads : goal.returns-in_err-turn-clause-leads
returns-in_err-turn-clause-leads c =
    let p = err_from_is_err_and c.from_residual.result c.from_residual.ensures.1 in
    let walk = c.args.self.now in
    let writing = writes c.args.line c.args.target c.args.lvalue c.args.value in
    rw (p.1, p.2)
    (stops {A = Unit {0}} {C = Unit {0}} walk walk c.turn.new.self (λ next. Turn c.args.line (writing next)) no_value (λ next. Turn c.args.line (next tt)) no_value c.in_err-turn.field-0.0
    (λ next. ((λ x. writing next), nothing walk (Turn c.args.line (writing next)))) (c.in_err-turn.ensures {u = tt}).leads)

pub returns-in_err-ask-clause-leads : goal.returns-in_err-ask-clause-leads
returns-in_err-ask-clause-leads c =
    let p = err_from_is_err_and c.from_residual-in_err-ask.result c.from_residual-in_err-ask.ensures.1 in
    let walk = c.args.self.now in
    let line = c.args.line in
    let lvalue = c.args.lvalue in
    let asking = call.Store lvalue.word lvalue.reach c.kind_of.result (record { bits = c.bits_of.result; pointer = false }) in
    rw (p.1, p.2)
    (ask_stops {A = Unit {0}} walk c.turn.new.self c.ask.new.self (λ next. Turn line (writes line c.args.target lvalue c.args.value next)) no_value asking
    (record { line = line; word = lvalue.word; reach = lvalue.reach; want = 0 }) (Store (kind_of c.args.target)) (Pointer lvalue) (bits_for c.args.target c.args.value) after c.in_err-ask.field-0.0
    (asks_store line c.args.target lvalue c.args.value c.kind_of.result c.bits_of.result c.kind_of.ensures
    (c.bits_of.ensures ∙ ap (λ v. cast_unsigned w64 (conversion (width_of c.args.target) v)) (to_z-of_z w32 c.args.value (search rules)))) (record { word = refl; reach = refl; want = refl })
    (λ next. (c.in_ok-turn.ensures {u = tt}).leads (λ x. writes line c.args.target lvalue c.args.value next))
    (subst (λ s. IsAsked c.turn.new.self asking s (Err c.in_err-ask.field-0.0) c.ask.new.self) c.of-subject.ensures (c.in_err-ask.ensures {u = tt}).asked))

pub returns-clause-leads : goal.returns-clause-leads
returns-clause-leads c = λ next.
    let line = c.args.line in
    let lvalue = c.args.lvalue in
    let asking = call.Store lvalue.word lvalue.reach c.kind_of.result (record { bits = c.bits_of.result; pointer = false }) in
    passes_on ((c.in_ok-turn.ensures {u = tt}).leads (λ x. writes line c.args.target lvalue c.args.value next))
    (to_words (next tt) (done_onward line (Store (kind_of c.args.target)) (Pointer lvalue) (bits_for c.args.target c.args.value) (next tt) c.in_ok-ask.field-0 (c.in_ok-ask.ensures {u = tt}).told)
    (subst (λ s. IsAsked c.turn.new.self asking s (Ok c.in_ok-ask.field-0) c.ask.new.self) c.of-subject.ensures (c.in_ok-ask.ensures {u = tt}).asked
    (Store (kind_of c.args.target)) (Pointer lvalue) (bits_for c.args.target c.args.value) (after next)
    (asks_store line c.args.target lvalue c.args.value c.kind_of.result c.bits_of.result c.kind_of.ensures
    (c.bits_of.ensures ∙ ap (λ v. cast_unsigned w64 (conversion (width_of c.args.target) v)) (to_z-of_z w32 c.args.value (search rules))))))
