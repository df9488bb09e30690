use Rattle.std.proofs.Common.{◌≡◌, ◌∙◌, count_by, rules}
use Rattle.c_grammar.specs.declared.phrases.Specifier.{Specifier}
use Rattle.declarator_parser.specs.Roles.{role_of, spells_word}
use Rattle.declarator_parser.proofs.RoleCounts.{times-count}
use Rattle.declarator_parser.proofs.type_words.times.Goals as goal

pub returns : goal.returns
returns c =
    let e : c.count.result ≡ count_by (λ (w : Specifier). spells_word c.args.which (role_of w)) c.args.words.now = search rules in
    e ∙ times-count c.args.which c.args.words.now
