-- How deep a tree nests, as the grammar counts it.
--
-- Counted are statements with blocks, expressions, declarators with parentheses, a list of members, and an initialiser in braces: each is one deeper
-- than the deepest of its parts. A name that is left out, a specifier without members, a parameter and a declaration are as deep as their parts.
--
-- The types of phrases lead to one another, and so do those of statements. A step looks at one layer, in which each part is its depth.
use Rattle.std.specs.Prelude.{ℕ, ◌+◌, max, List, [], ◌∷◌, map, Option, Some, None}
use Rattle.c_grammar.specs.declared.phrases.Declarator.{Declarator, Declarator-F, fold-Declarator}
use Rattle.c_grammar.specs.declared.phrases.Expression.{Expression, Expression-F, fold-Expression}
use Rattle.c_grammar.specs.declared.phrases.Specifier.{Specifier, Specifier-F, fold-Specifier}
use Rattle.c_grammar.specs.declared.phrases.Enumerator.{Enumerator, Enumerator-F, fold-Enumerator}
use Rattle.c_grammar.specs.declared.phrases.Member.{Member, Member-F, fold-Member}
use Rattle.c_grammar.specs.declared.phrases.Parameter.{Parameter, Parameter-F, fold-Parameter}
use Rattle.c_grammar.specs.declared.phrases.Specs.{Specs, Specs-F, fold-Specs}
use Rattle.c_grammar.specs.declared.phrases.TypePhrase.{TypePhrase, TypePhrase-F, fold-TypePhrase}
use Rattle.c_grammar.specs.declared.statements.Initialiser.{Initialiser, Initialiser-F, fold-Initialiser}
use Rattle.c_grammar.specs.declared.statements.InitDeclarator.{InitDeclarator}
use Rattle.c_grammar.specs.declared.statements.Declaration.{Declaration}
use Rattle.c_grammar.specs.declared.statements.ForStart.{ForStart}
use Rattle.c_grammar.specs.declared.statements.ForStart.TheVariants as begin
use Rattle.c_grammar.specs.declared.statements.BlockItem.{BlockItem, BlockItem-F, fold-BlockItem}
use Rattle.c_grammar.specs.declared.statements.Statement.{Statement, Statement-F, fold-Statement}
use Rattle.c_grammar.specs.declared.statements.Block.{Block, Block-F, fold-Block}
use Rattle.c_grammar.specs.declared.units.Function.{Function}
use Rattle.c_grammar.specs.declared.units.External.{External}
use Rattle.c_grammar.specs.declared.units.External.TheVariants as external
use Rattle.c_grammar.specs.declared.units.Unit.{Unit as Whole}

-- the deepest of several parts, and of one that may be left out
abbrev pub deepest : List ℕ → ℕ
deepest [] = 0
deepest (first ∷ rest) = max first (deepest rest)

abbrev pub if_any : Option ℕ → ℕ
if_any None = 0
if_any (Some part) = part

-- ---- phrases

abbrev pub declarator_step : Declarator-F ℕ ℕ ℕ ℕ ℕ ℕ ℕ ℕ → ℕ
declarator_step (Declarator-F.Declarator::Name place) = 1
declarator_step Declarator-F.Unnamed = 0
declarator_step (Declarator-F.Pointer place qualifiers inner) = 1 + inner
declarator_step (Declarator-F.Declarator::Parentheses place inner) = 1 + inner
declarator_step (Declarator-F.Array place element size) = 1 + max element (if_any size)
declarator_step (Declarator-F.Function place result parameters) = 1 + max result (deepest parameters)

abbrev pub expression_step : Expression-F ℕ ℕ ℕ ℕ ℕ ℕ ℕ ℕ → ℕ
expression_step (Expression-F.Expression::Name place) = 1
expression_step (Expression-F.Number place value type) = 1
expression_step (Expression-F.Character place value) = 1
expression_step (Expression-F.Strings place to) = 1
expression_step (Expression-F.Expression::Parentheses place inner) = 1 + inner
expression_step (Expression-F.Index place array index) = 1 + max array index
expression_step (Expression-F.Call place function arguments) = 1 + max function (deepest arguments)
expression_step (Expression-F.Select place how operand name) = 1 + operand
expression_step (Expression-F.Postfix place operator operand) = 1 + operand
expression_step (Expression-F.Prefix place operator operand) = 1 + operand
expression_step (Expression-F.SizeOf place operand) = 1 + operand
expression_step (Expression-F.SizeOfType place type) = 1 + type
expression_step (Expression-F.Cast place type operand) = 1 + max type operand
expression_step (Expression-F.Binary place operator left right) = 1 + max left right
expression_step (Expression-F.Conditional place test then otherwise) = 1 + max test (max then otherwise)
expression_step (Expression-F.Assign place operator left right) = 1 + max left right
expression_step (Expression-F.Comma place parts) = 1 + deepest parts

abbrev pub specifier_step : Specifier-F ℕ ℕ ℕ ℕ ℕ ℕ ℕ ℕ → ℕ
specifier_step (Specifier-F.Storage place which) = 0
specifier_step (Specifier-F.Qualifier place which) = 0
specifier_step (Specifier-F.Basic place which) = 0
specifier_step (Specifier-F.Members place which tag members) = 1 + deepest members
specifier_step (Specifier-F.Tag place which tag) = 0
specifier_step (Specifier-F.Enumerators place tag enumerators) = deepest enumerators
specifier_step (Specifier-F.EnumTag place tag) = 0
specifier_step (Specifier-F.TypedefName place) = 0

abbrev pub enumerator_step : Enumerator-F ℕ ℕ ℕ ℕ ℕ ℕ ℕ ℕ → ℕ
enumerator_step enumerator = if_any enumerator.value

abbrev pub member_step : Member-F ℕ ℕ ℕ ℕ ℕ ℕ ℕ ℕ → ℕ
member_step member = max member.specs (deepest member.declarators)

abbrev pub parameter_step : Parameter-F ℕ ℕ ℕ ℕ ℕ ℕ ℕ ℕ → ℕ
parameter_step parameter = max parameter.specs parameter.declarator

abbrev pub specs_step : Specs-F ℕ ℕ ℕ ℕ ℕ ℕ ℕ ℕ → ℕ
specs_step specs = deepest specs.words

abbrev pub type_phrase_step : TypePhrase-F ℕ ℕ ℕ ℕ ℕ ℕ ℕ ℕ → ℕ
type_phrase_step type = max type.specs type.declarator

unfoldable pub depth_of_declarator : Declarator → ℕ
depth_of_declarator = fold-Declarator ℕ ℕ ℕ ℕ ℕ ℕ ℕ ℕ
    declarator_step expression_step specifier_step enumerator_step member_step parameter_step specs_step type_phrase_step

unfoldable pub depth_of_expression : Expression → ℕ
depth_of_expression = fold-Expression ℕ ℕ ℕ ℕ ℕ ℕ ℕ ℕ
    declarator_step expression_step specifier_step enumerator_step member_step parameter_step specs_step type_phrase_step

unfoldable pub depth_of_specifier : Specifier → ℕ
depth_of_specifier = fold-Specifier ℕ ℕ ℕ ℕ ℕ ℕ ℕ ℕ
    declarator_step expression_step specifier_step enumerator_step member_step parameter_step specs_step type_phrase_step

unfoldable pub depth_of_enumerator : Enumerator → ℕ
depth_of_enumerator = fold-Enumerator ℕ ℕ ℕ ℕ ℕ ℕ ℕ ℕ
    declarator_step expression_step specifier_step enumerator_step member_step parameter_step specs_step type_phrase_step

unfoldable pub depth_of_member : Member → ℕ
depth_of_member = fold-Member ℕ ℕ ℕ ℕ ℕ ℕ ℕ ℕ
    declarator_step expression_step specifier_step enumerator_step member_step parameter_step specs_step type_phrase_step

unfoldable pub depth_of_parameter : Parameter → ℕ
depth_of_parameter = fold-Parameter ℕ ℕ ℕ ℕ ℕ ℕ ℕ ℕ
    declarator_step expression_step specifier_step enumerator_step member_step parameter_step specs_step type_phrase_step

unfoldable pub depth_of_specs : Specs → ℕ
depth_of_specs = fold-Specs ℕ ℕ ℕ ℕ ℕ ℕ ℕ ℕ
    declarator_step expression_step specifier_step enumerator_step member_step parameter_step specs_step type_phrase_step

unfoldable pub depth_of_type_phrase : TypePhrase → ℕ
depth_of_type_phrase = fold-TypePhrase ℕ ℕ ℕ ℕ ℕ ℕ ℕ ℕ
    declarator_step expression_step specifier_step enumerator_step member_step parameter_step specs_step type_phrase_step

-- ---- declarations

abbrev pub initialiser_step : Initialiser-F ℕ → ℕ
initialiser_step (Initialiser-F.Value e) = depth_of_expression e
initialiser_step (Initialiser-F.Braces place parts) = 1 + deepest parts

unfoldable pub depth_of_initialiser : Initialiser → ℕ
depth_of_initialiser = fold-Initialiser ℕ initialiser_step

abbrev pub depth_of_optional_initialiser : Option Initialiser → ℕ
depth_of_optional_initialiser None = 0
depth_of_optional_initialiser (Some value) = depth_of_initialiser value

unfoldable pub depth_of_init_declarator : InitDeclarator → ℕ
depth_of_init_declarator one = max (depth_of_declarator one.declarator) (depth_of_optional_initialiser one.value)

unfoldable pub depth_of_declaration : Declaration → ℕ
depth_of_declaration one = max (depth_of_specs one.specs) (deepest (map depth_of_init_declarator one.declarators))

-- ---- statements

abbrev pub depth_of_optional : Option Expression → ℕ
depth_of_optional None = 0
depth_of_optional (Some e) = depth_of_expression e

unfoldable pub depth_of_for_start : ForStart → ℕ
depth_of_for_start (begin.Declaration declaration) = depth_of_declaration declaration
depth_of_for_start (begin.Expression e) = depth_of_optional e

abbrev pub item_step : BlockItem-F ℕ ℕ ℕ → ℕ
item_step (BlockItem-F.Declaration declaration) = depth_of_declaration declaration
item_step (BlockItem-F.Statement statement) = statement

abbrev pub statement_step : Statement-F ℕ ℕ ℕ → ℕ
statement_step (Statement-F.Block block) = block
statement_step (Statement-F.Empty place) = 1
statement_step (Statement-F.Expression place value) = 1 + depth_of_expression value
statement_step (Statement-F.If place test then) = 1 + max (depth_of_expression test) then
statement_step (Statement-F.IfElse place test then otherwise) = 1 + max (depth_of_expression test) (max then otherwise)
statement_step (Statement-F.While place test body) = 1 + max (depth_of_expression test) body
statement_step (Statement-F.Do place body test) = 1 + max body (depth_of_expression test)
statement_step (Statement-F.For place start test step body) =
    1 + max (depth_of_for_start start) (max (depth_of_optional test) (max (depth_of_optional step) body))
statement_step (Statement-F.Switch place value block) = 1 + max (depth_of_expression value) block
statement_step (Statement-F.Case place value) = 1 + depth_of_expression value
statement_step (Statement-F.Default place) = 1
statement_step (Statement-F.Break place) = 1
statement_step (Statement-F.Continue place) = 1
statement_step (Statement-F.Return place value) = 1 + depth_of_optional value

abbrev pub block_step : Block-F ℕ ℕ ℕ → ℕ
block_step block = 1 + deepest block.items

unfoldable pub depth_of_block_item : BlockItem → ℕ
depth_of_block_item = fold-BlockItem ℕ ℕ ℕ item_step statement_step block_step

unfoldable pub depth_of_statement : Statement → ℕ
depth_of_statement = fold-Statement ℕ ℕ ℕ item_step statement_step block_step

unfoldable pub depth_of_block : Block → ℕ
depth_of_block = fold-Block ℕ ℕ ℕ item_step statement_step block_step

-- ---- units

unfoldable pub depth_of_function : Function → ℕ
depth_of_function one = max (depth_of_specs one.specs) (max (depth_of_declarator one.declarator) (depth_of_block one.body))

unfoldable pub depth_of_external : External → ℕ
depth_of_external (external.Declaration declaration) = depth_of_declaration declaration
depth_of_external (external.Function function) = depth_of_function function

unfoldable pub depth_of_unit : Whole → ℕ
depth_of_unit unit = deepest (map depth_of_external unit.items)
