use Rattle.std.proofs.Common.{◌≡◌, ◌+◌, ◌<◌, ◌∙◌, ap, sym, subst, length, rules, arith}
use Rattle.std.proofs.lemmas.Grind.{common_steps}
use Rattle.token_texts.specs.Texts.{number_at, name_of}
use Rattle.token_reader.proofs.SpelledLemmas.{name_is_spelled, name_is_low}
use Rattle.token_reader.proofs.reader.Reader.name_after.Goals as goal

pub returns-clause-name : goal.returns-clause-name
returns-clause-name c =
    let number : c.number.result ≡ number_at c.args.self.now.texts (c.args.self.now.state.at + c.args.n) = first_of (search rules, grind (arith, common_steps)) in
    ap (name_of c.args.self.now.texts) number ∙ name_is_spelled c.self.inside c.args.self.now c.self.view_is c.self.invariant c.args.n c.requires.name

pub returns-clause-within : goal.returns-clause-within
returns-clause-within c =
    let number : c.number.result ≡ number_at c.args.self.now.texts (c.args.self.now.state.at + c.args.n) = first_of (search rules, grind (arith, common_steps)) in
    subst (λ n. n < length c.args.self.now.texts.names) (sym number) (name_is_low c.self.inside c.args.self.now c.self.view_is c.self.invariant c.args.n c.requires.name)
