use Rattle.std.proofs.Common.{◌≡◌, ◌∙◌, sym, ap, subst, ℕ, ◌||◌, not, Option, Some, None, rules, arith}
use Rattle.std.specs.Option.{is_some, option_map}
use Rattle.std.proofs.lemmas.Grind.{common_steps}
use Rattle.declaration_rules.specs.Agreement.{function, function_named, only_function}
use Rattle.object_rules.specs.Types.{own_type}
use Rattle.object_rules.proofs.FunctionLemmas.{function_is, refused_is}
use Rattle.rule_answers.specs.Gives.{Gives, Tells}
use Rattle.static_rules.specs.Predefined.{entry_of, functions}
use Rattle.static_rules.specs.States.{symbol_here}
use Rattle.object_rules.proofs.functions.function.Goals as goal

pub returns-then-is_no_function : goal.returns-then-is_no_function
returns-then-is_no_function c = λ source answer spelled own.
    let s = c.args.state.now in
    let d = c.args.introduced in
    let w = c.args.place in
    let other = not (only_function (symbol_here w s d.name)) in
    let taken = ap (λ n. is_some (entry_of functions n) || other) spelled ∙ ap (λ g. g || other) (sym c.is_given.ensures)
    ∙ sym c.is_no_function.ensures ∙ c.if-is_no_function.true in
    subst (λ e. Tells (function source c.args.defined.now w s d answer) e) (sym c.fault.ensures)
    (refused_is source c.args.defined.now s d answer w taken)

pub returns-in-Ok-None : goal.returns-in-Ok-None
returns-in-Ok-None c = λ source answer spelled own.
    let s = c.args.state.now in
    let d = c.args.introduced in
    let w = c.args.place in
    let defined = c.args.defined.now in
    let type = own_type d.here c.args.parts.now c.args.base.now s in
    let other = not (only_function (symbol_here w s d.name)) in
    let free = ap (λ n. is_some (entry_of functions n) || other) spelled ∙ ap (λ g. g || other) (sym c.is_given.ensures)
    ∙ sym c.is_no_function.ensures ∙ c.if-is_no_function.false in
    let found : None ≡ option_map (λ f. (f.0, f.1.signature)) (function_named s d.name) =
    first_of (search rules, grind (arith, common_steps)) in
    subst (λ t. Gives (function source defined w s d t) c.function_anew.result c.function_anew.new.state) own
    (subst (λ a. Gives a c.function_anew.result c.function_anew.new.state) (sym (function_is source defined s d type w None free found))
    (c.function_anew.ensures source))

pub returns-in-Ok-Some : goal.returns-in-Ok-Some
returns-in-Ok-Some c = λ source answer spelled own.
    let s = c.args.state.now in
    let d = c.args.introduced in
    let w = c.args.place in
    let defined = c.args.defined.now in
    let type = own_type d.here c.args.parts.now c.args.base.now s in
    let other = not (only_function (symbol_here w s d.name)) in
    let free = ap (λ n. is_some (entry_of functions n) || other) spelled ∙ ap (λ g. g || other) (sym c.is_given.ensures)
    ∙ sym c.is_no_function.ensures ∙ c.if-is_no_function.false in
    let found : Some (c.in-Ok-Some.number, c.in-Ok-Some.earlier) ≡ option_map (λ f. (f.0, f.1.signature)) (function_named s d.name) =
    first_of (search rules, grind (arith, common_steps)) in
    subst (λ t. Gives (function source defined w s d t) c.function_again.result c.function_again.new.state) own
    (subst (λ a. Gives a c.function_again.result c.function_again.new.state)
    (sym (function_is source defined s d type w (Some (c.in-Ok-Some.number, c.in-Ok-Some.earlier)) free found))
    (c.function_again.ensures source defined))
