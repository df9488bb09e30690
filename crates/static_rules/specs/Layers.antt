-- One level of a syntax tree, as `out-..` opens it.
use Rattle.c_grammar.specs.declared.phrases.Declarator.{Declarator}
use Rattle.c_grammar.specs.declared.phrases.Declarator.TheOpen.{Declarator-F, Expression-F, Specifier-F}
use Rattle.c_grammar.specs.declared.phrases.Expression.{Expression}
use Rattle.c_grammar.specs.declared.phrases.Specifier.{Specifier}
use Rattle.c_grammar.specs.declared.phrases.Enumerator.{Enumerator}
use Rattle.c_grammar.specs.declared.phrases.Member.{Member}
use Rattle.c_grammar.specs.declared.phrases.Parameter.{Parameter}
use Rattle.c_grammar.specs.declared.phrases.Specs.{Specs}
use Rattle.c_grammar.specs.declared.phrases.TypePhrase.{TypePhrase}

abbrev pub DeclaratorLayer : Type 0
DeclaratorLayer = Declarator-F Declarator Expression Specifier Enumerator Member Parameter Specs TypePhrase

abbrev pub ExpressionLayer : Type 0
ExpressionLayer = Expression-F Declarator Expression Specifier Enumerator Member Parameter Specs TypePhrase

abbrev pub SpecifierLayer : Type 0
SpecifierLayer = Specifier-F Declarator Expression Specifier Enumerator Member Parameter Specs TypePhrase
