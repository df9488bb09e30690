-- A phrase is no deeper than the grammar derives it.
use Rattle.std.proofs.Common.{ℕ, ◌≤◌, List, map, Option, arith}
use Rattle.c_tokens.specs.declared.token.Token.{Token}
use Rattle.c_grammar.specs.declared.words.Qualifier.{Qualifier}
use Rattle.c_grammar.specs.declared.words.Naming.{Naming}
use Rattle.c_grammar.specs.declared.phrases.Expression.{Expression}
use Rattle.c_grammar.specs.declared.phrases.TypePhrase.{TypePhrase}
use Rattle.c_grammar.specs.declared.phrases.Specs.{Specs}
use Rattle.c_grammar.specs.declared.phrases.Specifier.{Specifier}
use Rattle.c_grammar.specs.declared.phrases.Member.{Member}
use Rattle.c_grammar.specs.declared.phrases.Enumerator.{Enumerator}
use Rattle.c_grammar.specs.declared.phrases.Declarator.{Declarator}
use Rattle.c_grammar.specs.declared.phrases.Parameter.{Parameter}
use Rattle.c_grammar.specs.Tokens as t
use Rattle.c_tokens.specs.Names.{Name}
use Rattle.c_grammar.specs.Tokens.{AreStrings, IsOptionalName, ClosesList}
use Rattle.c_grammar.specs.Words.{Role}
use Rattle.c_grammar.specs.Scope.{Scope}
use Rattle.c_grammar.specs.Phrases as p
use Rattle.c_grammar.specs.Phrases.{IsExpression, AreExpressions, IsTypeName, IsSpecs, AreSpecifiers, IsSpecifier, AreMembers, IsMember, AreDeclarators, AreEnumerators, IsEnumerator, IsDeclarator, AreParameters, AreSomeParameters, IsParameter, AreQualifiers, DeclaratorKind}
use Rattle.tree_sizes.specs.Depths.{deepest, depth_of_declarator, depth_of_expression, depth_of_specifier, depth_of_enumerator, depth_of_member, depth_of_parameter, depth_of_specs, depth_of_type_phrase}
use Rattle.tree_sizes.proofs.PhraseDepthEquations.{declarator_name, declarator_unnamed, declarator_pointer, declarator_parentheses, declarator_open_array, declarator_array, declarator_function, expression_name, expression_number, expression_character, expression_strings, expression_parentheses, expression_index, expression_call, expression_select, expression_postfix, expression_prefix, expression_size_of, expression_size_of_type, expression_cast, expression_binary, expression_conditional, expression_assign, expression_comma, specifier_storage, specifier_qualifier, specifier_basic, specifier_members, specifier_tag, specifier_enumerators, specifier_enum_tag, specifier_typedef_name, enumerator_without_value, enumerator_with_value, member_depth, parameter_depth, specs_depth, type_phrase_depth}

module _ (text : List ℕ) (ts : List Token) where
  mutual
    pub expression_shallow : {depth level from to : ℕ} {scope after : Scope} {e : Expression} → IsExpression text ts depth level scope after from to e →
        depth_of_expression e ≤ depth
    expression_shallow (p.name low is other) = rw expression_name (omega arith)
    expression_shallow (p.number low is) = rw expression_number (omega arith)
    expression_shallow (p.character low is) = rw expression_character (omega arith)
    expression_shallow (p.strings low all) = rw expression_strings (omega arith)
    expression_shallow (p.parentheses low is a closes) = let i = expression_shallow a in rw expression_parentheses (omega arith)
    expression_shallow (p.index low a is b closes) = let i = expression_shallow a in let j = expression_shallow b in rw expression_index (omega arith)
    expression_shallow (p.call_without low a is closes) = let i = expression_shallow a in rw expression_call (omega arith)
    expression_shallow (p.call low a is all closes) = let i = expression_shallow a in let j = expressions_shallow all in rw expression_call (omega arith)
    expression_shallow (p.select how low a is named) = let i = expression_shallow a in rw expression_select (omega arith)
    expression_shallow (p.postfix op low a is) = let i = expression_shallow a in rw expression_postfix (omega arith)
    expression_shallow (p.prefix op low is a) = let i = expression_shallow a in rw expression_prefix (omega arith)
    expression_shallow (p.size_of low is a) = let i = expression_shallow a in rw expression_size_of (omega arith)
    expression_shallow (p.size_of_type low is opens type closes) = let i = type_phrase_shallow type in rw expression_size_of_type (omega arith)
    expression_shallow (p.cast_to low is type closes a) = let i = type_phrase_shallow type in let j = expression_shallow a in rw expression_cast (omega arith)
    expression_shallow (p.binary op low a is b) = let i = expression_shallow a in let j = expression_shallow b in rw expression_binary (omega arith)
    expression_shallow (p.conditional low a is b also c) =
        let i = expression_shallow a in let j = expression_shallow b in let l = expression_shallow c in rw expression_conditional (omega arith)
    expression_shallow (p.assignment op low a is b) = let i = expression_shallow a in let j = expression_shallow b in rw expression_assign (omega arith)
    expression_shallow (p.comma low a is all) = let i = expression_shallow a in let j = expressions_shallow all in rw expression_comma (omega arith)

    pub expressions_shallow : {depth from to : ℕ} {scope after : Scope} {all : List Expression} → AreExpressions text ts depth scope after from to all →
        deepest (map depth_of_expression all) ≤ depth
    expressions_shallow (p.last_expression a) = let i = expression_shallow a in omega arith
    expressions_shallow (p.more_expressions a is rest) = let i = expression_shallow a in let j = expressions_shallow rest in omega arith

    pub type_phrase_shallow : {depth from to : ℕ} {scope after : Scope} {type : TypePhrase} → IsTypeName text ts depth scope after from to type →
        depth_of_type_phrase type ≤ depth
    type_phrase_shallow (p.type_name held a) = let i = specs_shallow held in let j = declarator_shallow a in rw type_phrase_depth (omega arith)

    pub specs_shallow : {depth from to : ℕ} {scope after : Scope} {roles : List Role} {specs : Specs} → IsSpecs text ts depth scope after roles from to specs →
        depth_of_specs specs ≤ depth
    specs_shallow (p.specs all one) = let i = specifiers_shallow all in rw specs_depth (omega arith)

    specifiers_shallow : {depth from to : ℕ} {scope after : Scope} {earlier roles : List Role} {all : List Specifier} →
        AreSpecifiers text ts depth scope after earlier roles from to all → deepest (map depth_of_specifier all) ≤ depth
    specifiers_shallow p.no_specifiers = omega arith
    specifiers_shallow (p.more_specifiers first rest) = let i = specifier_shallow first in let j = specifiers_shallow rest in omega arith

    specifier_shallow : {depth from to : ℕ} {scope after : Scope} {earlier : List Role} {role : Role} {found : Specifier} →
        IsSpecifier text ts depth scope after earlier role from to found → depth_of_specifier found ≤ depth
    specifier_shallow (p.storage which is) = rw specifier_storage (omega arith)
    specifier_shallow (p.qualifier which is) = rw specifier_qualifier (omega arith)
    specifier_shallow (p.basic which is) = rw specifier_basic (omega arith)
    specifier_shallow (p.members which is named opens all closes) =
        let j = members_shallow all in rw specifier_members (omega arith)
    specifier_shallow (p.tag which is named) = rw specifier_tag (omega arith)
    specifier_shallow (p.enumerators is named opens all closes) =
        let j = enumerators_shallow all in rw specifier_enumerators (omega arith)
    specifier_shallow (p.enum_tag is named) = rw specifier_enum_tag (omega arith)
    specifier_shallow (p.named_type is known none) = rw specifier_typedef_name (omega arith)

    members_shallow : {depth from to : ℕ} {scope after : Scope} {all : List Member} → AreMembers text ts depth scope after from to all →
        deepest (map depth_of_member all) ≤ depth
    members_shallow (p.last_member a) = let i = member_shallow a in omega arith
    members_shallow (p.more_members a rest) = let i = member_shallow a in let j = members_shallow rest in omega arith

    member_shallow : {depth from to : ℕ} {scope after : Scope} {found : Member} → IsMember text ts depth scope after from to found →
        depth_of_member found ≤ depth
    member_shallow (p.member held all closes) = let i = specs_shallow held in let j = declarators_shallow all in rw member_depth (omega arith)

    declarators_shallow : {depth from to : ℕ} {scope after : Scope} {all : List Declarator} → AreDeclarators text ts depth scope after from to all →
        deepest (map depth_of_declarator all) ≤ depth
    declarators_shallow (p.last_declarator a) = let i = declarator_shallow a in omega arith
    declarators_shallow (p.more_declarators a is rest) = let i = declarator_shallow a in let j = declarators_shallow rest in omega arith

    enumerators_shallow : {depth from to : ℕ} {scope after : Scope} {all : List Enumerator} → AreEnumerators text ts depth scope after from to all →
        deepest (map depth_of_enumerator all) ≤ depth
    enumerators_shallow (p.last_enumerator a) = let i = enumerator_shallow a in omega arith
    enumerators_shallow (p.more_enumerators a is rest) = let i = enumerator_shallow a in let j = enumerators_shallow rest in omega arith

    enumerator_shallow : {depth from to : ℕ} {scope after : Scope} {found : Enumerator} → IsEnumerator text ts depth scope after from to found →
        depth_of_enumerator found ≤ depth
    enumerator_shallow (p.without_value is) = rw enumerator_without_value (omega arith)
    enumerator_shallow (p.with_value is equal a) = let i = expression_shallow a in rw enumerator_with_value (omega arith)

    pub declarator_shallow : {how : Naming} {kind : DeclaratorKind} {depth from to : ℕ} {scope after : Scope} {name : Option Name} {own : Option Scope} {found : Declarator} →
        IsDeclarator text ts how kind depth scope after from to name own found → depth_of_declarator found ≤ depth
    declarator_shallow (p.declared_name is) = rw declarator_name (omega arith)
    declarator_shallow (p.parameter_name is) = rw declarator_name (omega arith)
    declarator_shallow p.no_name = rw declarator_unnamed (omega arith)
    declarator_shallow p.no_parameter_name = rw declarator_unnamed (omega arith)
    declarator_shallow (p.pointer is all a) = let j = declarator_shallow a in rw declarator_pointer (omega arith)
    declarator_shallow (p.in_parentheses is may a some closes) = let i = declarator_shallow a in rw declarator_parentheses (omega arith)
    declarator_shallow (p.open_array a is closes) = let i = declarator_shallow a in rw declarator_open_array (omega arith)
    declarator_shallow (p.array a is size closes) = let i = declarator_shallow a in let j = expression_shallow size in rw declarator_array (omega arith)
    declarator_shallow (p.function a is all closes) = let i = declarator_shallow a in let j = parameters_shallow all in rw declarator_function (omega arith)

    parameters_shallow : {depth from to : ℕ} {scope own : Scope} {all : List Parameter} → AreParameters text ts depth scope own from to all →
        deepest (map depth_of_parameter all) ≤ depth
    parameters_shallow p.no_parameters = omega arith
    parameters_shallow (p.only_void is closes) = omega arith
    parameters_shallow (p.parameters other all) = some_parameters_shallow all

    some_parameters_shallow : {depth from to : ℕ} {scope after : Scope} {all : List Parameter} → AreSomeParameters text ts depth scope after from to all →
        deepest (map depth_of_parameter all) ≤ depth
    some_parameters_shallow (p.last_parameter a) = let i = parameter_shallow a in omega arith
    some_parameters_shallow (p.more_parameters a is rest) = let i = parameter_shallow a in let j = some_parameters_shallow rest in omega arith

    parameter_shallow : {depth from to : ℕ} {scope after : Scope} {found : Parameter} → IsParameter text ts depth scope after from to found →
        depth_of_parameter found ≤ depth
    parameter_shallow (p.with_name held a) = let i = specs_shallow held in let j = declarator_shallow a in rw parameter_depth (omega arith)
    parameter_shallow (p.without_name held a) = let i = specs_shallow held in let j = declarator_shallow a in rw parameter_depth (omega arith)
