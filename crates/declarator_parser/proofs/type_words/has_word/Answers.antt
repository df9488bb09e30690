use Rattle.std.proofs.Common.{◌≡◌, ◌∙◌, nat_lt, count_by, ap, rules}
use Rattle.c_grammar.specs.declared.phrases.Specifier.{Specifier}
use Rattle.declarator_parser.specs.Roles.{role_of, is_basic}
use Rattle.declarator_parser.proofs.RoleCounts.{some-counted, some-basic}
use Rattle.declarator_parser.proofs.type_words.has_word.Goals as goal

pub returns : goal.returns
returns c =
    let e : c.count.result ≡ count_by (λ (w : Specifier). is_basic (role_of w)) c.args.words.now = search rules in
    ap (λ n. nat_lt 0 n) e ∙ some-counted (λ (w : Specifier). is_basic (role_of w)) c.args.words.now ∙ some-basic c.args.words.now
