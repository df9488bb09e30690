use Rattle.std.proofs.Common.{sym, ◌∙◌, rules, arith}
use Rattle.std.proofs.lemmas.Grind.{common_steps}
use Rattle.declarator_parser.specs.Roles.{roles_of}
use Rattle.declarator_parser.proofs.RoleCounts.{whole-none, whole-one, whole-more, not_one}
use Rattle.declarator_parser.proofs.type_words.holds_one_type.Goals as goal

pub returns-then-types-eq0 : goal.returns-then-types-eq0
returns-then-types-eq0 c = whole-none (roles_of c.args.words.now) c.is_some.result (sym c.whole_types-types.ensures ∙ c.if-types-eq0.true) (first_of (search rules, grind (arith, common_steps), cc))

pub returns-then-types-eq1 : goal.returns-then-types-eq1
returns-then-types-eq1 c = whole-one (roles_of c.args.words.now) c.has_word.result (sym c.whole_types-types.ensures ∙ c.if-types-eq1.true) c.has_word.ensures

pub returns-else-types-eq1 : goal.returns-else-types-eq1
returns-else-types-eq1 c = not_one c.whole_types-types.result c.if-types-eq1.false ∙ whole-more (roles_of c.args.words.now) (λ z. c.if-types-eq0.false (c.whole_types-types.ensures ∙ z)) (λ o. c.if-types-eq1.false (c.whole_types-types.ensures ∙ o))
