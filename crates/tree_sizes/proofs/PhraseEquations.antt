-- The nodes of a phrase are itself and those of its parts: an equation for each variant.
use Rattle.std.proofs.Common.{◌≡◌, ℕ, ℤ, ◌+◌, List, length, map, Option, Some, None, sym, ap, ◌∙◌}
use Rattle.c_tokens.specs.declared.kind.NumType.{NumType}
use Rattle.c_grammar.specs.declared.words.Place.{Place}
use Rattle.c_grammar.specs.declared.words.Storage.{Storage}
use Rattle.c_grammar.specs.declared.words.Qualifier.{Qualifier}
use Rattle.c_grammar.specs.declared.words.BasicWord.{BasicWord}
use Rattle.c_grammar.specs.declared.words.Aggregate.{Aggregate}
use Rattle.c_grammar.specs.declared.words.Binary.{Binary}
use Rattle.c_grammar.specs.declared.words.Assignment.{Assignment}
use Rattle.c_grammar.specs.declared.words.Prefix.{Prefix}
use Rattle.c_grammar.specs.declared.words.Postfix.{Postfix}
use Rattle.c_grammar.specs.declared.words.Selection.{Selection}
use Rattle.c_grammar.specs.declared.phrases.Declarator.{Declarator, Declarator-F, roll-Declarator, map-Declarator, fold-roll-Declarator}
use Rattle.c_grammar.specs.declared.phrases.Declarator.TheVariants as d
use Rattle.c_grammar.specs.declared.phrases.Expression.{Expression, Expression-F, roll-Expression, map-Expression, fold-roll-Expression}
use Rattle.c_grammar.specs.declared.phrases.Expression.TheVariants as e
use Rattle.c_grammar.specs.declared.phrases.Specifier.{Specifier, Specifier-F, roll-Specifier, map-Specifier, fold-roll-Specifier}
use Rattle.c_grammar.specs.declared.phrases.Specifier.TheVariants as s
use Rattle.c_grammar.specs.declared.phrases.Enumerator.{Enumerator, fold_out-Enumerator}
use Rattle.c_grammar.specs.declared.phrases.Member.{Member, fold_out-Member}
use Rattle.c_grammar.specs.declared.phrases.Parameter.{Parameter, fold_out-Parameter}
use Rattle.c_grammar.specs.declared.phrases.Specs.{Specs, fold_out-Specs}
use Rattle.c_grammar.specs.declared.phrases.TypePhrase.{TypePhrase, fold_out-TypePhrase}
use Rattle.tree_sizes.specs.Sizes.{total, nodes_of_declarator, nodes_of_expression, nodes_of_specifier, nodes_of_enumerator, nodes_of_member, nodes_of_parameter, nodes_of_specs, nodes_of_type_phrase, declarator_step, expression_step, specifier_step, enumerator_step, member_step, parameter_step, specs_step, type_phrase_step}

-- ---- any layer

declarator : (x : Declarator-F Declarator Expression Specifier Enumerator Member Parameter Specs TypePhrase) (one : Declarator) → roll-Declarator x ≡ one →
    nodes_of_declarator one ≡ declarator_step (map-Declarator Declarator Expression Specifier Enumerator Member Parameter Specs TypePhrase ℕ ℕ ℕ ℕ ℕ ℕ ℕ ℕ
    nodes_of_declarator nodes_of_expression nodes_of_specifier nodes_of_enumerator nodes_of_member nodes_of_parameter nodes_of_specs nodes_of_type_phrase x)
unfolding nodes_of_declarator nodes_of_expression nodes_of_specifier nodes_of_enumerator nodes_of_member nodes_of_parameter nodes_of_specs nodes_of_type_phrase
declarator x one is =
    ap nodes_of_declarator (sym is) ∙ fold-roll-Declarator ℕ ℕ ℕ ℕ ℕ ℕ ℕ ℕ
    declarator_step expression_step specifier_step enumerator_step member_step parameter_step specs_step type_phrase_step x

expression : (x : Expression-F Declarator Expression Specifier Enumerator Member Parameter Specs TypePhrase) (one : Expression) → roll-Expression x ≡ one →
    nodes_of_expression one ≡ expression_step (map-Expression Declarator Expression Specifier Enumerator Member Parameter Specs TypePhrase ℕ ℕ ℕ ℕ ℕ ℕ ℕ ℕ
    nodes_of_declarator nodes_of_expression nodes_of_specifier nodes_of_enumerator nodes_of_member nodes_of_parameter nodes_of_specs nodes_of_type_phrase x)
unfolding nodes_of_declarator nodes_of_expression nodes_of_specifier nodes_of_enumerator nodes_of_member nodes_of_parameter nodes_of_specs nodes_of_type_phrase
expression x one is =
    ap nodes_of_expression (sym is) ∙ fold-roll-Expression ℕ ℕ ℕ ℕ ℕ ℕ ℕ ℕ
    declarator_step expression_step specifier_step enumerator_step member_step parameter_step specs_step type_phrase_step x

specifier : (x : Specifier-F Declarator Expression Specifier Enumerator Member Parameter Specs TypePhrase) (one : Specifier) → roll-Specifier x ≡ one →
    nodes_of_specifier one ≡ specifier_step (map-Specifier Declarator Expression Specifier Enumerator Member Parameter Specs TypePhrase ℕ ℕ ℕ ℕ ℕ ℕ ℕ ℕ
    nodes_of_declarator nodes_of_expression nodes_of_specifier nodes_of_enumerator nodes_of_member nodes_of_parameter nodes_of_specs nodes_of_type_phrase x)
unfolding nodes_of_declarator nodes_of_expression nodes_of_specifier nodes_of_enumerator nodes_of_member nodes_of_parameter nodes_of_specs nodes_of_type_phrase
specifier x one is =
    ap nodes_of_specifier (sym is) ∙ fold-roll-Specifier ℕ ℕ ℕ ℕ ℕ ℕ ℕ ℕ
    declarator_step expression_step specifier_step enumerator_step member_step parameter_step specs_step type_phrase_step x

-- ---- declarators

pub declarator_name : (place : Place) → nodes_of_declarator (d.Name place) ≡ 1
declarator_name place = declarator _ _ (d.rolls-Name place)

pub declarator_unnamed : nodes_of_declarator d.Unnamed ≡ 1
declarator_unnamed = declarator _ _ d.rolls-Unnamed

pub declarator_pointer : (place : Place) (all : List Qualifier) (inner : Declarator) →
    nodes_of_declarator (d.Pointer place all inner) ≡ 1 + length all + nodes_of_declarator inner
declarator_pointer place all inner = declarator _ _ (d.rolls-Pointer place all inner)

pub declarator_parentheses : (place : Place) (inner : Declarator) → nodes_of_declarator (d.Parentheses place inner) ≡ 1 + nodes_of_declarator inner
declarator_parentheses place inner = declarator _ _ (d.rolls-Parentheses place inner)

pub declarator_open_array : (place : Place) (inner : Declarator) → nodes_of_declarator (d.Array place inner None) ≡ 1 + nodes_of_declarator inner + 0
declarator_open_array place inner = declarator _ _ (d.rolls-Array place inner None)

pub declarator_array : (place : Place) (inner : Declarator) (size : Expression) →
    nodes_of_declarator (d.Array place inner (Some size)) ≡ 1 + nodes_of_declarator inner + nodes_of_expression size
declarator_array place inner size = declarator _ _ (d.rolls-Array place inner (Some size))

pub declarator_function : (place : Place) (inner : Declarator) (all : List Parameter) →
    nodes_of_declarator (d.Function place inner all) ≡ 1 + nodes_of_declarator inner + total (map nodes_of_parameter all)
declarator_function place inner all = declarator _ _ (d.rolls-Function place inner all)

-- ---- expressions

pub expression_name : (place : Place) → nodes_of_expression (e.Name place) ≡ 1
expression_name place = expression _ _ (e.rolls-Name place)

pub expression_number : (place : Place) (value : ℕ) (type : NumType) → nodes_of_expression (e.Number place value type) ≡ 1
expression_number place value type = expression _ _ (e.rolls-Number place value type)

pub expression_character : (place : Place) (value : ℤ) → nodes_of_expression (e.Character place value) ≡ 1
expression_character place value = expression _ _ (e.rolls-Character place value)

pub expression_strings : (place : Place) (to : ℕ) → nodes_of_expression (e.Strings place to) ≡ 1
expression_strings place to = expression _ _ (e.rolls-Strings place to)

pub expression_parentheses : (place : Place) (a : Expression) → nodes_of_expression (e.Parentheses place a) ≡ 1 + nodes_of_expression a
expression_parentheses place a = expression _ _ (e.rolls-Parentheses place a)

pub expression_index : (place : Place) (a b : Expression) → nodes_of_expression (e.Index place a b) ≡ 1 + nodes_of_expression a + nodes_of_expression b
expression_index place a b = expression _ _ (e.rolls-Index place a b)

pub expression_call : (place : Place) (a : Expression) (all : List Expression) →
    nodes_of_expression (e.Call place a all) ≡ 1 + nodes_of_expression a + total (map nodes_of_expression all)
expression_call place a all = expression _ _ (e.rolls-Call place a all)

pub expression_select : (place : Place) (how : Selection) (a : Expression) (name : ℕ) →
    nodes_of_expression (e.Select place how a name) ≡ 1 + nodes_of_expression a
expression_select place how a name = expression _ _ (e.rolls-Select place how a name)

pub expression_postfix : (place : Place) (op : Postfix) (a : Expression) → nodes_of_expression (e.Postfix place op a) ≡ 1 + nodes_of_expression a
expression_postfix place op a = expression _ _ (e.rolls-Postfix place op a)

pub expression_prefix : (place : Place) (op : Prefix) (a : Expression) → nodes_of_expression (e.Prefix place op a) ≡ 1 + nodes_of_expression a
expression_prefix place op a = expression _ _ (e.rolls-Prefix place op a)

pub expression_size_of : (place : Place) (a : Expression) → nodes_of_expression (e.SizeOf place a) ≡ 1 + nodes_of_expression a
expression_size_of place a = expression _ _ (e.rolls-SizeOf place a)

pub expression_size_of_type : (place : Place) (type : TypePhrase) → nodes_of_expression (e.SizeOfType place type) ≡ 1 + nodes_of_type_phrase type
expression_size_of_type place type = expression _ _ (e.rolls-SizeOfType place type)

pub expression_cast : (place : Place) (type : TypePhrase) (a : Expression) →
    nodes_of_expression (e.Cast place type a) ≡ 1 + nodes_of_type_phrase type + nodes_of_expression a
expression_cast place type a = expression _ _ (e.rolls-Cast place type a)

pub expression_binary : (place : Place) (op : Binary) (a b : Expression) →
    nodes_of_expression (e.Binary place op a b) ≡ 1 + nodes_of_expression a + nodes_of_expression b
expression_binary place op a b = expression _ _ (e.rolls-Binary place op a b)

pub expression_conditional : (place : Place) (a b c : Expression) →
    nodes_of_expression (e.Conditional place a b c) ≡ 1 + nodes_of_expression a + nodes_of_expression b + nodes_of_expression c
expression_conditional place a b c = expression _ _ (e.rolls-Conditional place a b c)

pub expression_assign : (place : Place) (op : Assignment) (a b : Expression) →
    nodes_of_expression (e.Assign place op a b) ≡ 1 + nodes_of_expression a + nodes_of_expression b
expression_assign place op a b = expression _ _ (e.rolls-Assign place op a b)

pub expression_comma : (place : Place) (all : List Expression) → nodes_of_expression (e.Comma place all) ≡ 1 + total (map nodes_of_expression all)
expression_comma place all = expression _ _ (e.rolls-Comma place all)

-- ---- specifiers

pub specifier_storage : (place : Place) (which : Storage) → nodes_of_specifier (s.Storage place which) ≡ 1
specifier_storage place which = specifier _ _ (s.rolls-Storage place which)

pub specifier_qualifier : (place : Place) (which : Qualifier) → nodes_of_specifier (s.Qualifier place which) ≡ 1
specifier_qualifier place which = specifier _ _ (s.rolls-Qualifier place which)

pub specifier_basic : (place : Place) (which : BasicWord) → nodes_of_specifier (s.Basic place which) ≡ 1
specifier_basic place which = specifier _ _ (s.rolls-Basic place which)

pub specifier_members : (place : Place) (which : Aggregate) (tag : Option ℕ) (all : List Member) →
    nodes_of_specifier (s.Members place which tag all) ≡ 1 + total (map nodes_of_member all)
specifier_members place which tag all = specifier _ _ (s.rolls-Members place which tag all)

pub specifier_tag : (place : Place) (which : Aggregate) (tag : ℕ) → nodes_of_specifier (s.Tag place which tag) ≡ 1
specifier_tag place which tag = specifier _ _ (s.rolls-Tag place which tag)

pub specifier_enumerators : (place : Place) (tag : Option ℕ) (all : List Enumerator) →
    nodes_of_specifier (s.Enumerators place tag all) ≡ 1 + total (map nodes_of_enumerator all)
specifier_enumerators place tag all = specifier _ _ (s.rolls-Enumerators place tag all)

pub specifier_enum_tag : (place : Place) (tag : ℕ) → nodes_of_specifier (s.EnumTag place tag) ≡ 1
specifier_enum_tag place tag = specifier _ _ (s.rolls-EnumTag place tag)

pub specifier_typedef_name : (place : Place) → nodes_of_specifier (s.TypedefName place) ≡ 1
specifier_typedef_name place = specifier _ _ (s.rolls-TypedefName place)

-- ---- what has one form

pub enumerator_without_value : (place : Place) → nodes_of_enumerator (record { place = place; value = None }) ≡ 1 + 0
unfolding nodes_of_enumerator
enumerator_without_value place =
    fold_out-Enumerator ℕ ℕ ℕ ℕ ℕ ℕ ℕ ℕ
    declarator_step expression_step specifier_step enumerator_step member_step parameter_step specs_step type_phrase_step
    (record { place = place; value = None })

pub enumerator_with_value : (place : Place) (value : Expression) →
    nodes_of_enumerator (record { place = place; value = Some value }) ≡ 1 + nodes_of_expression value
unfolding nodes_of_enumerator nodes_of_expression
enumerator_with_value place value =
    fold_out-Enumerator ℕ ℕ ℕ ℕ ℕ ℕ ℕ ℕ
    declarator_step expression_step specifier_step enumerator_step member_step parameter_step specs_step type_phrase_step
    (record { place = place; value = Some value })

pub member_nodes : (one : Member) → nodes_of_member one ≡ 1 + nodes_of_specs one.specs + total (map nodes_of_declarator one.declarators)
unfolding nodes_of_member nodes_of_specs nodes_of_declarator
member_nodes = fold_out-Member ℕ ℕ ℕ ℕ ℕ ℕ ℕ ℕ
    declarator_step expression_step specifier_step enumerator_step member_step parameter_step specs_step type_phrase_step

pub parameter_nodes : (one : Parameter) → nodes_of_parameter one ≡ 1 + nodes_of_specs one.specs + nodes_of_declarator one.declarator
unfolding nodes_of_parameter nodes_of_specs nodes_of_declarator
parameter_nodes = fold_out-Parameter ℕ ℕ ℕ ℕ ℕ ℕ ℕ ℕ
    declarator_step expression_step specifier_step enumerator_step member_step parameter_step specs_step type_phrase_step

pub specs_nodes : (one : Specs) → nodes_of_specs one ≡ 1 + total (map nodes_of_specifier one.words)
unfolding nodes_of_specs nodes_of_specifier
specs_nodes = fold_out-Specs ℕ ℕ ℕ ℕ ℕ ℕ ℕ ℕ
    declarator_step expression_step specifier_step enumerator_step member_step parameter_step specs_step type_phrase_step

pub type_phrase_nodes : (one : TypePhrase) → nodes_of_type_phrase one ≡ 1 + nodes_of_specs one.specs + nodes_of_declarator one.declarator
unfolding nodes_of_type_phrase nodes_of_specs nodes_of_declarator
type_phrase_nodes = fold_out-TypePhrase ℕ ℕ ℕ ℕ ℕ ℕ ℕ ℕ
    declarator_step expression_step specifier_step enumerator_step member_step parameter_step specs_step type_phrase_step
