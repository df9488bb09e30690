use Rattle.std.proofs.Common.{◌≡◌, ◌+◌, ◌∙◌, ap, rules, arith}
use Rattle.std.proofs.lemmas.Grind.{common_steps}
use Rattle.token_texts.specs.Texts.{number_at}
use Rattle.grammar_descent.specs.Types.{names_a_type}
use Rattle.token_reader.specs.Scoping.{is_type_in}
use Rattle.token_reader.proofs.SpelledLemmas.{name_is_spelled, name_is_low, scope_types}
use Rattle.token_reader.proofs.reader.Reader.names_a_type_after.Goals as goal

pub returns : goal.returns
returns c =
    let number : c.number.result ≡ number_at c.args.self.now.texts (c.args.self.now.state.at + c.args.n) = first_of (search rules, grind (arith, common_steps)) in
    c.is_type.ensures ∙ ap (is_type_in c.self.inside.scope) number
    ∙ scope_types c.self.inside c.args.self.now c.self.view_is c.self.invariant (number_at c.args.self.now.texts (c.args.self.now.state.at + c.args.n))
    (name_is_low c.self.inside c.args.self.now c.self.view_is c.self.invariant c.args.n c.requires.name)
    ∙ ap (names_a_type c.args.self.now.state.scope) (name_is_spelled c.self.inside c.args.self.now c.self.view_is c.self.invariant c.args.n c.requires.name)
