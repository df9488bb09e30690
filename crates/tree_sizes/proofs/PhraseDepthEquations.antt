-- How deep a phrase is from how deep its parts are: an equation for each variant.
use Rattle.std.proofs.Common.{◌≡◌, ℕ, ℤ, ◌+◌, max, List, map, Option, Some, None, sym, ap, ◌∙◌}
use Rattle.c_tokens.specs.declared.kind.NumType.{NumType}
use Rattle.c_grammar.specs.declared.words.Place.{Place}
use Rattle.c_grammar.specs.declared.words.Storage.{Storage}
use Rattle.c_grammar.specs.declared.words.Qualifier.{Qualifier}
use Rattle.c_grammar.specs.declared.words.BasicWord.{BasicWord}
use Rattle.c_grammar.specs.declared.words.Aggregate.{Aggregate}
use Rattle.c_grammar.specs.declared.words.Binary.{Binary}
use Rattle.c_grammar.specs.declared.words.Assignment.{Assignment}
use Rattle.c_grammar.specs.declared.words.Prefix.{Prefix}
use Rattle.c_grammar.specs.declared.words.Postfix.{Postfix}
use Rattle.c_grammar.specs.declared.words.Selection.{Selection}
use Rattle.c_grammar.specs.declared.phrases.Declarator.{Declarator, Declarator-F, roll-Declarator, map-Declarator, fold-roll-Declarator}
use Rattle.c_grammar.specs.declared.phrases.Declarator.TheVariants as d
use Rattle.c_grammar.specs.declared.phrases.Expression.{Expression, Expression-F, roll-Expression, map-Expression, fold-roll-Expression}
use Rattle.c_grammar.specs.declared.phrases.Expression.TheVariants as e
use Rattle.c_grammar.specs.declared.phrases.Specifier.{Specifier, Specifier-F, roll-Specifier, map-Specifier, fold-roll-Specifier}
use Rattle.c_grammar.specs.declared.phrases.Specifier.TheVariants as s
use Rattle.c_grammar.specs.declared.phrases.Enumerator.{Enumerator, fold_out-Enumerator}
use Rattle.c_grammar.specs.declared.phrases.Member.{Member, fold_out-Member}
use Rattle.c_grammar.specs.declared.phrases.Parameter.{Parameter, fold_out-Parameter}
use Rattle.c_grammar.specs.declared.phrases.Specs.{Specs, fold_out-Specs}
use Rattle.c_grammar.specs.declared.phrases.TypePhrase.{TypePhrase, fold_out-TypePhrase}
use Rattle.tree_sizes.specs.Depths.{deepest, depth_of_declarator, depth_of_expression, depth_of_specifier, depth_of_enumerator, depth_of_member, depth_of_parameter, depth_of_specs, depth_of_type_phrase, declarator_step, expression_step, specifier_step, enumerator_step, member_step, parameter_step, specs_step, type_phrase_step}

-- ---- any layer

declarator : (x : Declarator-F Declarator Expression Specifier Enumerator Member Parameter Specs TypePhrase) (one : Declarator) → roll-Declarator x ≡ one →
    depth_of_declarator one ≡ declarator_step (map-Declarator Declarator Expression Specifier Enumerator Member Parameter Specs TypePhrase ℕ ℕ ℕ ℕ ℕ ℕ ℕ ℕ
    depth_of_declarator depth_of_expression depth_of_specifier depth_of_enumerator depth_of_member depth_of_parameter depth_of_specs depth_of_type_phrase x)
unfolding depth_of_declarator depth_of_expression depth_of_specifier depth_of_enumerator depth_of_member depth_of_parameter depth_of_specs depth_of_type_phrase
declarator x one is =
    ap depth_of_declarator (sym is) ∙ fold-roll-Declarator ℕ ℕ ℕ ℕ ℕ ℕ ℕ ℕ
    declarator_step expression_step specifier_step enumerator_step member_step parameter_step specs_step type_phrase_step x

expression : (x : Expression-F Declarator Expression Specifier Enumerator Member Parameter Specs TypePhrase) (one : Expression) → roll-Expression x ≡ one →
    depth_of_expression one ≡ expression_step (map-Expression Declarator Expression Specifier Enumerator Member Parameter Specs TypePhrase ℕ ℕ ℕ ℕ ℕ ℕ ℕ ℕ
    depth_of_declarator depth_of_expression depth_of_specifier depth_of_enumerator depth_of_member depth_of_parameter depth_of_specs depth_of_type_phrase x)
unfolding depth_of_declarator depth_of_expression depth_of_specifier depth_of_enumerator depth_of_member depth_of_parameter depth_of_specs depth_of_type_phrase
expression x one is =
    ap depth_of_expression (sym is) ∙ fold-roll-Expression ℕ ℕ ℕ ℕ ℕ ℕ ℕ ℕ
    declarator_step expression_step specifier_step enumerator_step member_step parameter_step specs_step type_phrase_step x

specifier : (x : Specifier-F Declarator Expression Specifier Enumerator Member Parameter Specs TypePhrase) (one : Specifier) → roll-Specifier x ≡ one →
    depth_of_specifier one ≡ specifier_step (map-Specifier Declarator Expression Specifier Enumerator Member Parameter Specs TypePhrase ℕ ℕ ℕ ℕ ℕ ℕ ℕ ℕ
    depth_of_declarator depth_of_expression depth_of_specifier depth_of_enumerator depth_of_member depth_of_parameter depth_of_specs depth_of_type_phrase x)
unfolding depth_of_declarator depth_of_expression depth_of_specifier depth_of_enumerator depth_of_member depth_of_parameter depth_of_specs depth_of_type_phrase
specifier x one is =
    ap depth_of_specifier (sym is) ∙ fold-roll-Specifier ℕ ℕ ℕ ℕ ℕ ℕ ℕ ℕ
    declarator_step expression_step specifier_step enumerator_step member_step parameter_step specs_step type_phrase_step x

-- ---- declarators

pub declarator_name : (place : Place) → depth_of_declarator (d.Name place) ≡ 1
declarator_name place = declarator _ _ (d.rolls-Name place)

pub declarator_unnamed : depth_of_declarator d.Unnamed ≡ 0
declarator_unnamed = declarator _ _ d.rolls-Unnamed

pub declarator_pointer : (place : Place) (all : List Qualifier) (inner : Declarator) →
    depth_of_declarator (d.Pointer place all inner) ≡ 1 + depth_of_declarator inner
declarator_pointer place all inner = declarator _ _ (d.rolls-Pointer place all inner)

pub declarator_parentheses : (place : Place) (inner : Declarator) → depth_of_declarator (d.Parentheses place inner) ≡ 1 + depth_of_declarator inner
declarator_parentheses place inner = declarator _ _ (d.rolls-Parentheses place inner)

pub declarator_open_array : (place : Place) (inner : Declarator) → depth_of_declarator (d.Array place inner None) ≡ 1 + max (depth_of_declarator inner) 0
declarator_open_array place inner = declarator _ _ (d.rolls-Array place inner None)

pub declarator_array : (place : Place) (inner : Declarator) (size : Expression) →
    depth_of_declarator (d.Array place inner (Some size)) ≡ 1 + max (depth_of_declarator inner) (depth_of_expression size)
declarator_array place inner size = declarator _ _ (d.rolls-Array place inner (Some size))

pub declarator_function : (place : Place) (inner : Declarator) (all : List Parameter) →
    depth_of_declarator (d.Function place inner all) ≡ 1 + max (depth_of_declarator inner) (deepest (map depth_of_parameter all))
declarator_function place inner all = declarator _ _ (d.rolls-Function place inner all)

-- ---- expressions

pub expression_name : (place : Place) → depth_of_expression (e.Name place) ≡ 1
expression_name place = expression _ _ (e.rolls-Name place)

pub expression_number : (place : Place) (value : ℕ) (type : NumType) → depth_of_expression (e.Number place value type) ≡ 1
expression_number place value type = expression _ _ (e.rolls-Number place value type)

pub expression_character : (place : Place) (value : ℤ) → depth_of_expression (e.Character place value) ≡ 1
expression_character place value = expression _ _ (e.rolls-Character place value)

pub expression_strings : (place : Place) (to : ℕ) → depth_of_expression (e.Strings place to) ≡ 1
expression_strings place to = expression _ _ (e.rolls-Strings place to)

pub expression_parentheses : (place : Place) (a : Expression) → depth_of_expression (e.Parentheses place a) ≡ 1 + depth_of_expression a
expression_parentheses place a = expression _ _ (e.rolls-Parentheses place a)

pub expression_index : (place : Place) (a b : Expression) → depth_of_expression (e.Index place a b) ≡ 1 + max (depth_of_expression a) (depth_of_expression b)
expression_index place a b = expression _ _ (e.rolls-Index place a b)

pub expression_call : (place : Place) (a : Expression) (all : List Expression) →
    depth_of_expression (e.Call place a all) ≡ 1 + max (depth_of_expression a) (deepest (map depth_of_expression all))
expression_call place a all = expression _ _ (e.rolls-Call place a all)

pub expression_select : (place : Place) (how : Selection) (a : Expression) (name : ℕ) →
    depth_of_expression (e.Select place how a name) ≡ 1 + depth_of_expression a
expression_select place how a name = expression _ _ (e.rolls-Select place how a name)

pub expression_postfix : (place : Place) (op : Postfix) (a : Expression) → depth_of_expression (e.Postfix place op a) ≡ 1 + depth_of_expression a
expression_postfix place op a = expression _ _ (e.rolls-Postfix place op a)

pub expression_prefix : (place : Place) (op : Prefix) (a : Expression) → depth_of_expression (e.Prefix place op a) ≡ 1 + depth_of_expression a
expression_prefix place op a = expression _ _ (e.rolls-Prefix place op a)

pub expression_size_of : (place : Place) (a : Expression) → depth_of_expression (e.SizeOf place a) ≡ 1 + depth_of_expression a
expression_size_of place a = expression _ _ (e.rolls-SizeOf place a)

pub expression_size_of_type : (place : Place) (type : TypePhrase) → depth_of_expression (e.SizeOfType place type) ≡ 1 + depth_of_type_phrase type
expression_size_of_type place type = expression _ _ (e.rolls-SizeOfType place type)

pub expression_cast : (place : Place) (type : TypePhrase) (a : Expression) →
    depth_of_expression (e.Cast place type a) ≡ 1 + max (depth_of_type_phrase type) (depth_of_expression a)
expression_cast place type a = expression _ _ (e.rolls-Cast place type a)

pub expression_binary : (place : Place) (op : Binary) (a b : Expression) →
    depth_of_expression (e.Binary place op a b) ≡ 1 + max (depth_of_expression a) (depth_of_expression b)
expression_binary place op a b = expression _ _ (e.rolls-Binary place op a b)

pub expression_conditional : (place : Place) (a b c : Expression) →
    depth_of_expression (e.Conditional place a b c) ≡ 1 + max (depth_of_expression a) (max (depth_of_expression b) (depth_of_expression c))
expression_conditional place a b c = expression _ _ (e.rolls-Conditional place a b c)

pub expression_assign : (place : Place) (op : Assignment) (a b : Expression) →
    depth_of_expression (e.Assign place op a b) ≡ 1 + max (depth_of_expression a) (depth_of_expression b)
expression_assign place op a b = expression _ _ (e.rolls-Assign place op a b)

pub expression_comma : (place : Place) (all : List Expression) → depth_of_expression (e.Comma place all) ≡ 1 + deepest (map depth_of_expression all)
expression_comma place all = expression _ _ (e.rolls-Comma place all)

-- ---- specifiers

pub specifier_storage : (place : Place) (which : Storage) → depth_of_specifier (s.Storage place which) ≡ 0
specifier_storage place which = specifier _ _ (s.rolls-Storage place which)

pub specifier_qualifier : (place : Place) (which : Qualifier) → depth_of_specifier (s.Qualifier place which) ≡ 0
specifier_qualifier place which = specifier _ _ (s.rolls-Qualifier place which)

pub specifier_basic : (place : Place) (which : BasicWord) → depth_of_specifier (s.Basic place which) ≡ 0
specifier_basic place which = specifier _ _ (s.rolls-Basic place which)

pub specifier_members : (place : Place) (which : Aggregate) (tag : Option ℕ) (all : List Member) →
    depth_of_specifier (s.Members place which tag all) ≡ 1 + deepest (map depth_of_member all)
specifier_members place which tag all = specifier _ _ (s.rolls-Members place which tag all)

pub specifier_tag : (place : Place) (which : Aggregate) (tag : ℕ) → depth_of_specifier (s.Tag place which tag) ≡ 0
specifier_tag place which tag = specifier _ _ (s.rolls-Tag place which tag)

pub specifier_enumerators : (place : Place) (tag : Option ℕ) (all : List Enumerator) →
    depth_of_specifier (s.Enumerators place tag all) ≡ deepest (map depth_of_enumerator all)
specifier_enumerators place tag all = specifier _ _ (s.rolls-Enumerators place tag all)

pub specifier_enum_tag : (place : Place) (tag : ℕ) → depth_of_specifier (s.EnumTag place tag) ≡ 0
specifier_enum_tag place tag = specifier _ _ (s.rolls-EnumTag place tag)

pub specifier_typedef_name : (place : Place) → depth_of_specifier (s.TypedefName place) ≡ 0
specifier_typedef_name place = specifier _ _ (s.rolls-TypedefName place)

-- ---- what has one form

pub enumerator_without_value : (place : Place) → depth_of_enumerator (record { place = place; value = None }) ≡ 0
unfolding depth_of_enumerator
enumerator_without_value place =
    fold_out-Enumerator ℕ ℕ ℕ ℕ ℕ ℕ ℕ ℕ
    declarator_step expression_step specifier_step enumerator_step member_step parameter_step specs_step type_phrase_step
    (record { place = place; value = None })

pub enumerator_with_value : (place : Place) (value : Expression) →
    depth_of_enumerator (record { place = place; value = Some value }) ≡ depth_of_expression value
unfolding depth_of_enumerator depth_of_expression
enumerator_with_value place value =
    fold_out-Enumerator ℕ ℕ ℕ ℕ ℕ ℕ ℕ ℕ
    declarator_step expression_step specifier_step enumerator_step member_step parameter_step specs_step type_phrase_step
    (record { place = place; value = Some value })

pub member_depth : (one : Member) → depth_of_member one ≡ max (depth_of_specs one.specs) (deepest (map depth_of_declarator one.declarators))
unfolding depth_of_member depth_of_specs depth_of_declarator
member_depth = fold_out-Member ℕ ℕ ℕ ℕ ℕ ℕ ℕ ℕ
    declarator_step expression_step specifier_step enumerator_step member_step parameter_step specs_step type_phrase_step

pub parameter_depth : (one : Parameter) → depth_of_parameter one ≡ max (depth_of_specs one.specs) (depth_of_declarator one.declarator)
unfolding depth_of_parameter depth_of_specs depth_of_declarator
parameter_depth = fold_out-Parameter ℕ ℕ ℕ ℕ ℕ ℕ ℕ ℕ
    declarator_step expression_step specifier_step enumerator_step member_step parameter_step specs_step type_phrase_step

pub specs_depth : (one : Specs) → depth_of_specs one ≡ deepest (map depth_of_specifier one.words)
unfolding depth_of_specs depth_of_specifier
specs_depth = fold_out-Specs ℕ ℕ ℕ ℕ ℕ ℕ ℕ ℕ
    declarator_step expression_step specifier_step enumerator_step member_step parameter_step specs_step type_phrase_step

pub type_phrase_depth : (one : TypePhrase) → depth_of_type_phrase one ≡ max (depth_of_specs one.specs) (depth_of_declarator one.declarator)
unfolding depth_of_type_phrase depth_of_specs depth_of_declarator
type_phrase_depth = fold_out-TypePhrase ℕ ℕ ℕ ℕ ℕ ℕ ℕ ℕ
    declarator_step expression_step specifier_step enumerator_step member_step parameter_step specs_step type_phrase_step
