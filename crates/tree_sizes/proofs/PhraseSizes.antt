-- A phrase has at most two nodes for each of its tokens, but for a name that is left out.
use Rattle.std.proofs.Common.{ℕ, ◌+◌, ◌*◌, ◌<◌, ◌≤◌, List, length, map, Option, Some, None, arith}
use Rattle.c_tokens.specs.declared.token.Token.{Token}
use Rattle.c_grammar.specs.declared.words.Qualifier.{Qualifier}
use Rattle.c_grammar.specs.declared.words.Naming.{Naming}
use Rattle.c_grammar.specs.declared.phrases.Expression.{Expression}
use Rattle.c_grammar.specs.declared.phrases.TypePhrase.{TypePhrase}
use Rattle.c_grammar.specs.declared.phrases.Specs.{Specs}
use Rattle.c_grammar.specs.declared.phrases.Specifier.{Specifier}
use Rattle.c_grammar.specs.declared.phrases.Member.{Member}
use Rattle.c_grammar.specs.declared.phrases.Enumerator.{Enumerator}
use Rattle.c_grammar.specs.declared.phrases.Declarator.{Declarator}
use Rattle.c_grammar.specs.declared.phrases.Parameter.{Parameter}
use Rattle.c_grammar.specs.Tokens as t
use Rattle.c_tokens.specs.Names.{Name}
use Rattle.c_grammar.specs.Tokens.{AreStrings, IsOptionalName, ClosesList}
use Rattle.c_grammar.specs.Words.{Role}
use Rattle.c_grammar.specs.Scope.{Scope}
use Rattle.c_grammar.specs.Phrases as p
use Rattle.c_grammar.specs.Phrases.{IsExpression, AreExpressions, IsTypeName, IsSpecs, AreSpecifiers, IsSpecifier, AreMembers, IsMember, AreDeclarators, AreEnumerators, IsEnumerator, IsDeclarator, AreParameters, AreSomeParameters, IsParameter, AreQualifiers, DeclaratorKind}
use Rattle.tree_sizes.specs.Sizes.{total, nodes_of_declarator, nodes_of_expression, nodes_of_specifier, nodes_of_enumerator, nodes_of_member, nodes_of_parameter, nodes_of_specs, nodes_of_type_phrase}
use Rattle.tree_sizes.proofs.OneType.{no_type_of_none}
use Rattle.tree_sizes.proofs.PhraseEquations.{declarator_name, declarator_unnamed, declarator_pointer, declarator_parentheses, declarator_open_array, declarator_array, declarator_function, expression_name, expression_number, expression_character, expression_strings, expression_parentheses, expression_index, expression_call, expression_select, expression_postfix, expression_prefix, expression_size_of, expression_size_of_type, expression_cast, expression_binary, expression_conditional, expression_assign, expression_comma, specifier_storage, specifier_qualifier, specifier_basic, specifier_members, specifier_tag, specifier_enumerators, specifier_enum_tag, specifier_typedef_name, enumerator_without_value, enumerator_with_value, member_nodes, parameter_nodes, specs_nodes, type_phrase_nodes}

-- ---- what has no nodes takes tokens

module _ (ts : List Token) where
  strings_move : {from to : ℕ} → AreStrings ts from to → from < to
  strings_move (t.last is) = omega arith
  strings_move (t.more is rest) = let i = strings_move rest in omega arith

  qualifiers_move : {from to : ℕ} {all : List Qualifier} → AreQualifiers ts from to all → from + length all ≤ to
  qualifiers_move p.none = omega arith
  qualifiers_move (p.const is rest) = let i = qualifiers_move rest in omega arith
  qualifiers_move (p.restrict is rest) = let i = qualifiers_move rest in omega arith

  pub closing_moves : {from to : ℕ} → ClosesList ts from to → from < to
  closing_moves (t.brace is) = omega arith
  closing_moves (t.comma_and_brace is closes) = omega arith

  optional_name_moves : {from to : ℕ} {tag : Option ℕ} → IsOptionalName ts from to tag → from ≤ to
  optional_name_moves t.absent = omega arith
  optional_name_moves (t.present is) = omega arith

-- ---- phrases

-- what a declarator may have above its tokens: where its name is left out, it has a node without a token
abbrev left_out : Option Name → ℕ
left_out None = 2
left_out (Some name) = 0

module _ (text : List ℕ) (ts : List Token) where
  mutual
    pub expression_small : {depth level from to : ℕ} {scope after : Scope} {e : Expression} → IsExpression text ts depth level scope after from to e →
        nodes_of_expression e + 1 + 2 * from ≤ 2 * to
    expression_small (p.name low is other) = rw expression_name (omega arith)
    expression_small (p.number low is) = rw expression_number (omega arith)
    expression_small (p.character low is) = rw expression_character (omega arith)
    expression_small (p.strings low all) = let i = strings_move ts all in rw expression_strings (omega arith)
    expression_small (p.parentheses low is a closes) = let i = expression_small a in rw expression_parentheses (omega arith)
    expression_small (p.index low a is b closes) = let i = expression_small a in let j = expression_small b in rw expression_index (omega arith)
    expression_small (p.call_without low a is closes) = let i = expression_small a in rw expression_call (omega arith)
    expression_small (p.call low a is all closes) = let i = expression_small a in let j = expressions_small all in rw expression_call (omega arith)
    expression_small (p.select how low a is named) = let i = expression_small a in rw expression_select (omega arith)
    expression_small (p.postfix op low a is) = let i = expression_small a in rw expression_postfix (omega arith)
    expression_small (p.prefix op low is a) = let i = expression_small a in rw expression_prefix (omega arith)
    expression_small (p.size_of low is a) = let i = expression_small a in rw expression_size_of (omega arith)
    expression_small (p.size_of_type low is opens type closes) = let i = type_phrase_small type in rw expression_size_of_type (omega arith)
    expression_small (p.cast_to low is type closes a) = let i = type_phrase_small type in let j = expression_small a in rw expression_cast (omega arith)
    expression_small (p.binary op low a is b) = let i = expression_small a in let j = expression_small b in rw expression_binary (omega arith)
    expression_small (p.conditional low a is b also c) =
        let i = expression_small a in let j = expression_small b in let l = expression_small c in rw expression_conditional (omega arith)
    expression_small (p.assignment op low a is b) = let i = expression_small a in let j = expression_small b in rw expression_assign (omega arith)
    expression_small (p.comma low a is all) = let i = expression_small a in let j = expressions_small all in rw expression_comma (omega arith)

    pub expressions_small : {depth from to : ℕ} {scope after : Scope} {all : List Expression} → AreExpressions text ts depth scope after from to all →
        total (map nodes_of_expression all) + 1 + 2 * from ≤ 2 * to
    expressions_small (p.last_expression a) = let i = expression_small a in omega arith
    expressions_small (p.more_expressions a is rest) = let i = expression_small a in let j = expressions_small rest in omega arith

    pub type_phrase_small : {depth from to : ℕ} {scope after : Scope} {type : TypePhrase} → IsTypeName text ts depth scope after from to type →
        nodes_of_type_phrase type + 2 * from ≤ 2 * to + 2
    type_phrase_small (p.type_name held a) = let i = specs_small held in let j = declarator_small a in rw type_phrase_nodes (omega arith)

    pub specs_small : {depth from to : ℕ} {scope after : Scope} {roles : List Role} {specs : Specs} → IsSpecs text ts depth scope after roles from to specs →
        nodes_of_specs specs + 2 * from ≤ 2 * to
    specs_small (p.specs p.no_specifiers one) = absurd (no_type_of_none one)
    specs_small (p.specs (p.more_specifiers first rest) one) =
        let i = specifier_small first in let j = specifiers_small rest in rw specs_nodes (omega arith)

    specifiers_small : {depth from to : ℕ} {scope after : Scope} {earlier roles : List Role} {all : List Specifier} →
        AreSpecifiers text ts depth scope after earlier roles from to all → total (map nodes_of_specifier all) + 2 * from ≤ 2 * to
    specifiers_small p.no_specifiers = omega arith
    specifiers_small (p.more_specifiers first rest) = let i = specifier_small first in let j = specifiers_small rest in omega arith

    specifier_small : {depth from to : ℕ} {scope after : Scope} {earlier : List Role} {role : Role} {found : Specifier} →
        IsSpecifier text ts depth scope after earlier role from to found → nodes_of_specifier found + 1 + 2 * from ≤ 2 * to
    specifier_small (p.storage which is) = rw specifier_storage (omega arith)
    specifier_small (p.qualifier which is) = rw specifier_qualifier (omega arith)
    specifier_small (p.basic which is) = rw specifier_basic (omega arith)
    specifier_small (p.members which is named opens all closes) =
        let i = optional_name_moves ts named in let j = members_small all in rw specifier_members (omega arith)
    specifier_small (p.tag which is named) = rw specifier_tag (omega arith)
    specifier_small (p.enumerators is named opens all closes) =
        let i = optional_name_moves ts named in let j = enumerators_small all in let l = closing_moves ts closes in rw specifier_enumerators (omega arith)
    specifier_small (p.enum_tag is named) = rw specifier_enum_tag (omega arith)
    specifier_small (p.named_type is known none) = rw specifier_typedef_name (omega arith)

    members_small : {depth from to : ℕ} {scope after : Scope} {all : List Member} → AreMembers text ts depth scope after from to all →
        total (map nodes_of_member all) + 2 * from ≤ 2 * to
    members_small (p.last_member a) = let i = member_small a in omega arith
    members_small (p.more_members a rest) = let i = member_small a in let j = members_small rest in omega arith

    member_small : {depth from to : ℕ} {scope after : Scope} {found : Member} → IsMember text ts depth scope after from to found →
        nodes_of_member found + 2 * from ≤ 2 * to
    member_small (p.member held all closes) = let i = specs_small held in let j = declarators_small all in rw member_nodes (omega arith)

    declarators_small : {depth from to : ℕ} {scope after : Scope} {all : List Declarator} → AreDeclarators text ts depth scope after from to all →
        total (map nodes_of_declarator all) + 1 + 2 * from ≤ 2 * to
    declarators_small (p.last_declarator a) = let i = declarator_small a in omega arith
    declarators_small (p.more_declarators a is rest) = let i = declarator_small a in let j = declarators_small rest in omega arith

    enumerators_small : {depth from to : ℕ} {scope after : Scope} {all : List Enumerator} → AreEnumerators text ts depth scope after from to all →
        total (map nodes_of_enumerator all) + 1 + 2 * from ≤ 2 * to
    enumerators_small (p.last_enumerator a) = let i = enumerator_small a in omega arith
    enumerators_small (p.more_enumerators a is rest) = let i = enumerator_small a in let j = enumerators_small rest in omega arith

    enumerator_small : {depth from to : ℕ} {scope after : Scope} {found : Enumerator} → IsEnumerator text ts depth scope after from to found →
        nodes_of_enumerator found + 1 + 2 * from ≤ 2 * to
    enumerator_small (p.without_value is) = rw enumerator_without_value (omega arith)
    enumerator_small (p.with_value is equal a) = let i = expression_small a in rw enumerator_with_value (omega arith)

    pub declarator_small : {how : Naming} {kind : DeclaratorKind} {depth from to : ℕ} {scope after : Scope} {name : Option Name} {own : Option Scope} {found : Declarator} →
        IsDeclarator text ts how kind depth scope after from to name own found → nodes_of_declarator found + 1 + 2 * from ≤ 2 * to + left_out name
    declarator_small (p.declared_name is) = rw declarator_name (omega arith)
    declarator_small (p.parameter_name is) = rw declarator_name (omega arith)
    declarator_small p.no_name = rw declarator_unnamed (omega arith)
    declarator_small p.no_parameter_name = rw declarator_unnamed (omega arith)
    declarator_small (p.pointer is all a) = let i = qualifiers_move ts all in let j = declarator_small a in rw declarator_pointer (omega arith)
    declarator_small (p.in_parentheses is may a some closes) = let i = declarator_small a in rw declarator_parentheses (omega arith)
    declarator_small (p.open_array a is closes) = let i = declarator_small a in rw declarator_open_array (omega arith)
    declarator_small (p.array a is size closes) = let i = declarator_small a in let j = expression_small size in rw declarator_array (omega arith)
    declarator_small (p.function a is all closes) = let i = declarator_small a in let j = parameters_small all in rw declarator_function (omega arith)

    parameters_small : {depth from to : ℕ} {scope own : Scope} {all : List Parameter} → AreParameters text ts depth scope own from to all →
        total (map nodes_of_parameter all) + 2 * from ≤ 2 * to + 2
    parameters_small p.no_parameters = omega arith
    parameters_small (p.only_void is closes) = omega arith
    parameters_small (p.parameters other all) = some_parameters_small all

    some_parameters_small : {depth from to : ℕ} {scope after : Scope} {all : List Parameter} → AreSomeParameters text ts depth scope after from to all →
        total (map nodes_of_parameter all) + 2 * from ≤ 2 * to + 2
    some_parameters_small (p.last_parameter a) = let i = parameter_small a in omega arith
    some_parameters_small (p.more_parameters a is rest) = let i = parameter_small a in let j = some_parameters_small rest in omega arith

    parameter_small : {depth from to : ℕ} {scope after : Scope} {found : Parameter} → IsParameter text ts depth scope after from to found →
        nodes_of_parameter found + 2 * from ≤ 2 * to + 2
    parameter_small (p.with_name held a) = let i = specs_small held in let j = declarator_small a in rw parameter_nodes (omega arith)
    parameter_small (p.without_name held a) = let i = specs_small held in let j = declarator_small a in rw parameter_nodes (omega arith)
