use Rattle.std.proofs.Common.{◌≡◌, ◌∙◌, ◌==◌, count_by, ap, rules}
use Rattle.c_grammar.specs.declared.phrases.Specifier.{Specifier}
use Rattle.declarator_parser.specs.Roles.{role_of, is_of_type}
use Rattle.declarator_parser.proofs.RoleCounts.{none-counted, none-of_type}
use Rattle.declarator_parser.proofs.type_words.holds_no_type.Goals as goal

pub returns : goal.returns
returns c =
    let e : c.count.result ≡ count_by (λ (w : Specifier). is_of_type (role_of w)) c.args.words.now = search rules in
    ap (λ n. n == 0) e ∙ none-counted (λ (w : Specifier). is_of_type (role_of w)) c.args.words.now ∙ none-of_type c.args.words.now
