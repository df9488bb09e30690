use Rattle.std.proofs.Common.{◌≡◌, ◌∙◌, Some, None, rules, arith}
use Rattle.std.proofs.lemmas.Grind.{common_steps}
use Rattle.c_grammar.specs.Words.{basic_words}
use Rattle.grammar_descent.specs.TypeWords.{sign_of}
use Rattle.declarator_parser.specs.Roles.{roles_of}
use Rattle.declarator_parser.specs.Signs.{as_sign}
use Rattle.declarator_parser.proofs.RoleCounts.{spelled, not_spelled}
use Rattle.declarator_parser.proofs.type_words.spelled_type.Goals as goal

pub returns-in_default : goal.returns-in_default
returns-in_default c =
    let none : sign_of c.times-signed.result c.times-unsigned.result ≡ None = first_of (cc, search rules, grind (arith, common_steps)) in
    not_spelled (basic_words (roles_of c.args.words.now)) _ _ c.times-signed.ensures c.times-unsigned.ensures none

pub returns : goal.returns
returns c =
    let some : sign_of c.times-signed.result c.times-unsigned.result ≡ Some (as_sign c.in-Some.sign) = first_of (cc, search rules, grind (arith, common_steps)) in
    c.type_of.ensures ∙ spelled (basic_words (roles_of c.args.words.now)) _ _ _ _ _ _ _ _ c.times-signed.ensures c.times-unsigned.ensures
    c.times-void.ensures c.times-char.ensures c.times-short.ensures c.times-int.ensures c.times-long.ensures some
