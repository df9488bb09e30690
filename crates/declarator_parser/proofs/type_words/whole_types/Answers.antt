use Rattle.std.proofs.Common.{◌≡◌, ◌∙◌, count_by, rules}
use Rattle.c_grammar.specs.declared.phrases.Specifier.{Specifier}
use Rattle.declarator_parser.specs.Roles.{role_of, is_whole}
use Rattle.declarator_parser.proofs.RoleCounts.{whole-count}
use Rattle.declarator_parser.proofs.type_words.whole_types.Goals as goal

pub returns : goal.returns
returns c =
    let e : c.count.result ≡ count_by (λ (w : Specifier). is_whole (role_of w)) c.args.words.now = search rules in
    e ∙ whole-count c.args.words.now
