-- One level of a syntax tree, as `out-..` opens it, and steps that may fail.
use Rattle.std.specs.Prelude.{List, [], ◌∷◌, Option, Some, None}
use Rattle.c_grammar.specs.declared.phrases.Declarator.{Declarator, Declarator-F}
use Rattle.c_grammar.specs.declared.phrases.Expression.{Expression, Expression-F}
use Rattle.c_grammar.specs.declared.phrases.Specifier.{Specifier, Specifier-F}
use Rattle.c_grammar.specs.declared.phrases.Enumerator.{Enumerator}
use Rattle.c_grammar.specs.declared.phrases.Member.{Member}
use Rattle.c_grammar.specs.declared.phrases.Parameter.{Parameter}
use Rattle.c_grammar.specs.declared.phrases.Specs.{Specs}
use Rattle.c_grammar.specs.declared.phrases.TypePhrase.{TypePhrase}
use Rattle.c_grammar.specs.declared.statements.Block.{Block}
use Rattle.c_grammar.specs.declared.statements.BlockItem.{BlockItem, BlockItem-F}
use Rattle.c_grammar.specs.declared.statements.Statement.{Statement, Statement-F}
use Rattle.c_grammar.specs.declared.statements.Initialiser.{Initialiser, Initialiser-F}

abbrev pub DeclaratorLayer : Type 0
DeclaratorLayer = Declarator-F Declarator Expression Specifier Enumerator Member Parameter Specs TypePhrase

abbrev pub ExpressionLayer : Type 0
ExpressionLayer = Expression-F Declarator Expression Specifier Enumerator Member Parameter Specs TypePhrase

abbrev pub SpecifierLayer : Type 0
SpecifierLayer = Specifier-F Declarator Expression Specifier Enumerator Member Parameter Specs TypePhrase

abbrev pub StatementLayer : Type 0
StatementLayer = Statement-F BlockItem Statement Block

abbrev pub ItemLayer : Type 0
ItemLayer = BlockItem-F BlockItem Statement Block

abbrev pub InitialiserLayer : Type 0
InitialiserLayer = Initialiser-F Initialiser

infixl 10 ◌>>=◌
abbrev pub ◌>>=◌ : {A B : Type 0} → Option A → (A → Option B) → Option B
(Some x) >>= f = f x
None >>= f = None

-- the one that there is, where there is one alone
abbrev pub only : {A : Type 0} → List A → Option A
only (one ∷ []) = Some one
only _ = None
