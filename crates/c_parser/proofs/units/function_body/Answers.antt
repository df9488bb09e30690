use Rattle.std.proofs.Common.{◌≡◌, ◌∙◌, ap, subst, sym, IfSome, option_map, rules, arith}
use Rattle.std.proofs.lemmas.Grind.{common_steps}
use Rattle.c_grammar.specs.Limits.{max_depth}
use Rattle.grammar_descent.specs.AllReaders.{readers}
use Rattle.grammar_descent.specs.StatementSteps as step
use Rattle.token_reader.specs.Input.{Input}
use Rattle.token_texts.specs.Texts.{Texts}
use Rattle.c_grammar.specs.Scope.{with_parameters}
use Rattle.token_reader.specs.Reader.{with_scope}
use Rattle.token_reader.specs.Scoping.{spelled, AreSpelled}
use Rattle.token_reader.proofs.Reading.{found}
use Rattle.c_parser.proofs.UnitSteps.{after_function}
use Rattle.c_parser.proofs.units.function_body.Goals as goal

pub declare_parameters-requires : goal.declare_parameters-requires
declare_parameters-requires c = subst (λ (t : Texts). IfSome c.args.function.now.own (AreSpelled t)) (sym c.declare.ensures.kept.texts) c.requires.own

pub returns : goal.returns
returns c =
    let text = c.args.reader.now.text in
    let ts = c.args.reader.now.tokens in
    let exact = c.law_readers.ensures.phrases text ts in
    let all = found (λ text ts. step.block text ts (readers text ts) max_depth) c.args.reader.now c.declare_parameters.new.reader c.block.new.reader c.in_ok-body.body
    (c.declare_parameters.ensures.kept.text ∙ c.declare.ensures.kept.text) (c.declare_parameters.ensures.kept.tokens ∙ c.declare.ensures.kept.tokens) c.in_ok-body.ensures in
    let own = c.args.function.now.own in
    let now = subst (λ (t : Texts). c.declare_parameters.new.reader ≡ with_scope c.declare.new.self (with_parameters (option_map (spelled t) own) c.declare.new.self.state.scope))
    c.declare.ensures.kept.texts c.in_ok-declare_parameters.ensures.ok in
    let same = ap (λ (x : Input). x.state.scope) now in
    let back = after_function text ts (readers text ts) exact (option_map (spelled c.args.reader.now.texts) own) c.declare.new.self.state.scope c.declare_parameters.new.reader.state c.block.new.reader.state c.in_ok-body.body same all in
    first_of (search rules, grind (arith, common_steps))
