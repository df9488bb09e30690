-- How many nodes a tree has.
--
-- A node is a value of one of the tree's types: an expression, the name of a type, specifiers together and each of them, a member, an enumerator, a
-- declarator (also the name that is left out), a parameter, an initialiser, a declarator with its initialiser, a declaration, a block, an item of it,
-- a statement, what a `for` begins with, a function, an external, a unit. So an external that is a function is a node, and the function is another.
-- Each qualifier after a `*` is a node, too. Names, words, marks, operators, values and places are none. A tree has itself and the nodes of its parts.
--
-- The types of phrases lead to one another, and so do those of statements. A step looks at one layer, in which each part is the number of its nodes.
use Rattle.std.specs.Prelude.{ℕ, ◌+◌, List, [], ◌∷◌, length, map, Option, Some, None}
use Rattle.c_grammar.specs.declared.phrases.Declarator.{Declarator, Declarator-F, fold-Declarator}
use Rattle.c_grammar.specs.declared.phrases.Expression.{Expression, Expression-F, fold-Expression}
use Rattle.c_grammar.specs.declared.phrases.Specifier.{Specifier, Specifier-F, fold-Specifier}
use Rattle.c_grammar.specs.declared.phrases.Enumerator.{Enumerator, Enumerator-F, fold-Enumerator}
use Rattle.c_grammar.specs.declared.phrases.Member.{Member, Member-F, fold-Member}
use Rattle.c_grammar.specs.declared.phrases.Parameter.{Parameter, Parameter-F, fold-Parameter}
use Rattle.c_grammar.specs.declared.phrases.Specs.{Specs, Specs-F, fold-Specs}
use Rattle.c_grammar.specs.declared.phrases.TypePhrase.{TypePhrase, TypePhrase-F, fold-TypePhrase}
use Rattle.c_grammar.specs.declared.statements.Initialiser.{Initialiser, Initialiser-F, fold-Initialiser}
use Rattle.c_grammar.specs.declared.statements.InitDeclarator.{InitDeclarator}
use Rattle.c_grammar.specs.declared.statements.Declaration.{Declaration}
use Rattle.c_grammar.specs.declared.statements.ForStart.{ForStart}
use Rattle.c_grammar.specs.declared.statements.ForStart.TheVariants as begin
use Rattle.c_grammar.specs.declared.statements.BlockItem.{BlockItem, BlockItem-F, fold-BlockItem}
use Rattle.c_grammar.specs.declared.statements.Statement.{Statement, Statement-F, fold-Statement}
use Rattle.c_grammar.specs.declared.statements.Block.{Block, Block-F, fold-Block}
use Rattle.c_grammar.specs.declared.units.Function.{Function}
use Rattle.c_grammar.specs.declared.units.External.{External}
use Rattle.c_grammar.specs.declared.units.External.TheVariants as external
use Rattle.c_grammar.specs.declared.units.Unit.{Unit as Whole}

-- of several parts, and of one that may be left out
abbrev pub total : List ℕ → ℕ
total [] = 0
total (first ∷ rest) = first + total rest

abbrev pub if_any : Option ℕ → ℕ
if_any None = 0
if_any (Some part) = part

-- ---- phrases

abbrev pub declarator_step : Declarator-F ℕ ℕ ℕ ℕ ℕ ℕ ℕ ℕ → ℕ
declarator_step (Declarator-F.Declarator::Name place) = 1
declarator_step Declarator-F.Unnamed = 1
declarator_step (Declarator-F.Pointer place qualifiers inner) = 1 + length qualifiers + inner
declarator_step (Declarator-F.Declarator::Parentheses place inner) = 1 + inner
declarator_step (Declarator-F.Array place element size) = 1 + element + if_any size
declarator_step (Declarator-F.Function place result parameters) = 1 + result + total parameters

abbrev pub expression_step : Expression-F ℕ ℕ ℕ ℕ ℕ ℕ ℕ ℕ → ℕ
expression_step (Expression-F.Expression::Name place) = 1
expression_step (Expression-F.Number place value type) = 1
expression_step (Expression-F.Character place value) = 1
expression_step (Expression-F.Strings place to) = 1
expression_step (Expression-F.Expression::Parentheses place inner) = 1 + inner
expression_step (Expression-F.Index place array index) = 1 + array + index
expression_step (Expression-F.Call place function arguments) = 1 + function + total arguments
expression_step (Expression-F.Select place how operand name) = 1 + operand
expression_step (Expression-F.Postfix place operator operand) = 1 + operand
expression_step (Expression-F.Prefix place operator operand) = 1 + operand
expression_step (Expression-F.SizeOf place operand) = 1 + operand
expression_step (Expression-F.SizeOfType place type) = 1 + type
expression_step (Expression-F.Cast place type operand) = 1 + type + operand
expression_step (Expression-F.Binary place operator left right) = 1 + left + right
expression_step (Expression-F.Conditional place test then otherwise) = 1 + test + then + otherwise
expression_step (Expression-F.Assign place operator left right) = 1 + left + right
expression_step (Expression-F.Comma place parts) = 1 + total parts

abbrev pub specifier_step : Specifier-F ℕ ℕ ℕ ℕ ℕ ℕ ℕ ℕ → ℕ
specifier_step (Specifier-F.Storage place which) = 1
specifier_step (Specifier-F.Qualifier place which) = 1
specifier_step (Specifier-F.Basic place which) = 1
specifier_step (Specifier-F.Members place which tag members) = 1 + total members
specifier_step (Specifier-F.Tag place which tag) = 1
specifier_step (Specifier-F.Enumerators place tag enumerators) = 1 + total enumerators
specifier_step (Specifier-F.EnumTag place tag) = 1
specifier_step (Specifier-F.TypedefName place) = 1

abbrev pub enumerator_step : Enumerator-F ℕ ℕ ℕ ℕ ℕ ℕ ℕ ℕ → ℕ
enumerator_step enumerator = 1 + if_any enumerator.value

abbrev pub member_step : Member-F ℕ ℕ ℕ ℕ ℕ ℕ ℕ ℕ → ℕ
member_step member = 1 + member.specs + total member.declarators

abbrev pub parameter_step : Parameter-F ℕ ℕ ℕ ℕ ℕ ℕ ℕ ℕ → ℕ
parameter_step parameter = 1 + parameter.specs + parameter.declarator

abbrev pub specs_step : Specs-F ℕ ℕ ℕ ℕ ℕ ℕ ℕ ℕ → ℕ
specs_step specs = 1 + total specs.words

abbrev pub type_phrase_step : TypePhrase-F ℕ ℕ ℕ ℕ ℕ ℕ ℕ ℕ → ℕ
type_phrase_step type = 1 + type.specs + type.declarator

unfoldable pub nodes_of_declarator : Declarator → ℕ
nodes_of_declarator = fold-Declarator ℕ ℕ ℕ ℕ ℕ ℕ ℕ ℕ
    declarator_step expression_step specifier_step enumerator_step member_step parameter_step specs_step type_phrase_step

unfoldable pub nodes_of_expression : Expression → ℕ
nodes_of_expression = fold-Expression ℕ ℕ ℕ ℕ ℕ ℕ ℕ ℕ
    declarator_step expression_step specifier_step enumerator_step member_step parameter_step specs_step type_phrase_step

unfoldable pub nodes_of_specifier : Specifier → ℕ
nodes_of_specifier = fold-Specifier ℕ ℕ ℕ ℕ ℕ ℕ ℕ ℕ
    declarator_step expression_step specifier_step enumerator_step member_step parameter_step specs_step type_phrase_step

unfoldable pub nodes_of_enumerator : Enumerator → ℕ
nodes_of_enumerator = fold-Enumerator ℕ ℕ ℕ ℕ ℕ ℕ ℕ ℕ
    declarator_step expression_step specifier_step enumerator_step member_step parameter_step specs_step type_phrase_step

unfoldable pub nodes_of_member : Member → ℕ
nodes_of_member = fold-Member ℕ ℕ ℕ ℕ ℕ ℕ ℕ ℕ
    declarator_step expression_step specifier_step enumerator_step member_step parameter_step specs_step type_phrase_step

unfoldable pub nodes_of_parameter : Parameter → ℕ
nodes_of_parameter = fold-Parameter ℕ ℕ ℕ ℕ ℕ ℕ ℕ ℕ
    declarator_step expression_step specifier_step enumerator_step member_step parameter_step specs_step type_phrase_step

unfoldable pub nodes_of_specs : Specs → ℕ
nodes_of_specs = fold-Specs ℕ ℕ ℕ ℕ ℕ ℕ ℕ ℕ
    declarator_step expression_step specifier_step enumerator_step member_step parameter_step specs_step type_phrase_step

unfoldable pub nodes_of_type_phrase : TypePhrase → ℕ
nodes_of_type_phrase = fold-TypePhrase ℕ ℕ ℕ ℕ ℕ ℕ ℕ ℕ
    declarator_step expression_step specifier_step enumerator_step member_step parameter_step specs_step type_phrase_step

-- ---- declarations

abbrev pub initialiser_step : Initialiser-F ℕ → ℕ
initialiser_step (Initialiser-F.Value e) = 1 + nodes_of_expression e
initialiser_step (Initialiser-F.Braces place parts) = 1 + total parts

unfoldable pub nodes_of_initialiser : Initialiser → ℕ
nodes_of_initialiser = fold-Initialiser ℕ initialiser_step

abbrev pub nodes_of_optional_initialiser : Option Initialiser → ℕ
nodes_of_optional_initialiser None = 0
nodes_of_optional_initialiser (Some value) = nodes_of_initialiser value

unfoldable pub nodes_of_init_declarator : InitDeclarator → ℕ
nodes_of_init_declarator one = 1 + nodes_of_declarator one.declarator + nodes_of_optional_initialiser one.value

unfoldable pub nodes_of_declaration : Declaration → ℕ
nodes_of_declaration one = 1 + nodes_of_specs one.specs + total (map nodes_of_init_declarator one.declarators)

-- ---- statements

abbrev pub nodes_of_optional : Option Expression → ℕ
nodes_of_optional None = 0
nodes_of_optional (Some e) = nodes_of_expression e

unfoldable pub nodes_of_for_start : ForStart → ℕ
nodes_of_for_start (begin.Declaration declaration) = 1 + nodes_of_declaration declaration
nodes_of_for_start (begin.Expression e) = 1 + nodes_of_optional e

abbrev pub item_step : BlockItem-F ℕ ℕ ℕ → ℕ
item_step (BlockItem-F.Declaration declaration) = 1 + nodes_of_declaration declaration
item_step (BlockItem-F.Statement statement) = 1 + statement

abbrev pub statement_step : Statement-F ℕ ℕ ℕ → ℕ
statement_step (Statement-F.Block block) = 1 + block
statement_step (Statement-F.Empty place) = 1
statement_step (Statement-F.Expression place value) = 1 + nodes_of_expression value
statement_step (Statement-F.If place test then) = 1 + nodes_of_expression test + then
statement_step (Statement-F.IfElse place test then otherwise) = 1 + nodes_of_expression test + then + otherwise
statement_step (Statement-F.While place test body) = 1 + nodes_of_expression test + body
statement_step (Statement-F.Do place body test) = 1 + body + nodes_of_expression test
statement_step (Statement-F.For place start test step body) = 1 + nodes_of_for_start start + nodes_of_optional test + nodes_of_optional step + body
statement_step (Statement-F.Switch place value block) = 1 + nodes_of_expression value + block
statement_step (Statement-F.Case place value) = 1 + nodes_of_expression value
statement_step (Statement-F.Default place) = 1
statement_step (Statement-F.Break place) = 1
statement_step (Statement-F.Continue place) = 1
statement_step (Statement-F.Return place value) = 1 + nodes_of_optional value

abbrev pub block_step : Block-F ℕ ℕ ℕ → ℕ
block_step block = 1 + total block.items

unfoldable pub nodes_of_block_item : BlockItem → ℕ
nodes_of_block_item = fold-BlockItem ℕ ℕ ℕ item_step statement_step block_step

unfoldable pub nodes_of_statement : Statement → ℕ
nodes_of_statement = fold-Statement ℕ ℕ ℕ item_step statement_step block_step

unfoldable pub nodes_of_block : Block → ℕ
nodes_of_block = fold-Block ℕ ℕ ℕ item_step statement_step block_step

-- ---- units

unfoldable pub nodes_of_function : Function → ℕ
nodes_of_function one = 1 + nodes_of_specs one.specs + nodes_of_declarator one.declarator + nodes_of_block one.body

unfoldable pub nodes_of_external : External → ℕ
nodes_of_external (external.Declaration declaration) = 1 + nodes_of_declaration declaration
nodes_of_external (external.Function function) = 1 + nodes_of_function function

unfoldable pub nodes_of_unit : Whole → ℕ
nodes_of_unit unit = 1 + total (map nodes_of_external unit.items)
