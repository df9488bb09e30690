use Rattle.std.proofs.Common.{◌≡◌, ◌∙◌, count_by, sym, rules}
use Rattle.c_grammar.specs.declared.phrases.Specifier.{Specifier}
use Rattle.declarator_parser.specs.Roles.{role_of, makes_types}
use Rattle.declarator_parser.proofs.RoleCounts.{no_type-none, a_type-some}
use Rattle.declarator_parser.proofs.type_words.declared_kind.Goals as goal

pub returns-then-count-eq0 : goal.returns-then-count-eq0
returns-then-count-eq0 c =
    let e : c.count.result ≡ count_by (λ (w : Specifier). makes_types (role_of w)) c.args.words.now = search rules in
    sym (no_type-none c.args.words.now (sym e ∙ c.if-count-eq0.true))

pub returns-else-count-eq0 : goal.returns-else-count-eq0
returns-else-count-eq0 c =
    let e : c.count.result ≡ count_by (λ (w : Specifier). makes_types (role_of w)) c.args.words.now = search rules in
    sym (a_type-some c.args.words.now (λ z. c.if-count-eq0.false (e ∙ z)))
