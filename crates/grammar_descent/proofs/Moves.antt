-- What is derived takes tokens.
use Rattle.std.proofs.Common.{ℕ, ◌+◌, ◌<◌, ◌≤◌, List, length, Option, arith}
use Rattle.c_tokens.specs.declared.token.Token.{Token}
use Rattle.c_tokens.specs.declared.kind.Kind.TheVariants as k
use Rattle.c_grammar.specs.declared.words.Naming.{Naming}
use Rattle.c_grammar.specs.declared.words.Qualifier.{Qualifier}
use Rattle.c_grammar.specs.declared.phrases.Expression.{Expression}
use Rattle.c_grammar.specs.declared.phrases.TypePhrase.{TypePhrase}
use Rattle.c_grammar.specs.declared.phrases.Specs.{Specs}
use Rattle.c_grammar.specs.declared.phrases.Specifier.{Specifier}
use Rattle.c_grammar.specs.declared.phrases.Member.{Member}
use Rattle.c_grammar.specs.declared.phrases.Enumerator.{Enumerator}
use Rattle.c_grammar.specs.declared.phrases.Declarator.{Declarator}
use Rattle.c_grammar.specs.declared.phrases.Parameter.{Parameter}
use Rattle.c_grammar.specs.Tokens as t
use Rattle.c_tokens.specs.Names.{Name}
use Rattle.c_grammar.specs.Tokens.{AreStrings, IsOptionalName, ClosesList}
use Rattle.c_grammar.specs.Words.{Role}
use Rattle.c_grammar.specs.Scope.{Scope}
use Rattle.c_grammar.specs.Phrases as p
use Rattle.c_grammar.specs.Phrases.{IsExpression, AreExpressions, IsTypeName, IsSpecs, AreSpecifiers, IsSpecifier, AreMembers, IsMember, AreDeclarators, AreEnumerators, IsEnumerator, IsDeclarator, AreParameters, AreSomeParameters, IsParameter, AreQualifiers, DeclaratorKind}
use Rattle.grammar_descent.proofs.Seen.{stands_within}

module _ (ts : List Token) where
  pub strings_move : {from to : ℕ} → AreStrings ts from to → from < to
  strings_move (t.last is) = omega arith
  strings_move (t.more is rest) = let i = strings_move rest in omega arith

  pub strings_fit : {from to : ℕ} → AreStrings ts from to → to ≤ length ts
  strings_fit (t.last {at} is) = let h = stands_within ts at k.Str is in omega arith
  strings_fit (t.more is rest) = strings_fit rest

  pub qualifiers_move : {from to : ℕ} {all : List Qualifier} → AreQualifiers ts from to all → from + length all ≤ to
  qualifiers_move p.none = omega arith
  qualifiers_move (p.const is rest) = let i = qualifiers_move rest in omega arith
  qualifiers_move (p.restrict is rest) = let i = qualifiers_move rest in omega arith

  pub closing_moves : {from to : ℕ} → ClosesList ts from to → from < to
  closing_moves (t.brace is) = omega arith
  closing_moves (t.comma_and_brace is closes) = omega arith

module _ (text : List ℕ) (ts : List Token) where
  pub optional_name_moves : {from to : ℕ} {tag : Option ℕ} → IsOptionalName ts from to tag → from ≤ to
  optional_name_moves t.absent = omega arith
  optional_name_moves (t.present is) = omega arith

  mutual
    pub expression_moves : {depth level from to : ℕ} {scope after : Scope} {e : Expression} → IsExpression text ts depth level scope after from to e → from < to
    expression_moves (p.name low is other) = omega arith
    expression_moves (p.number low is) = omega arith
    expression_moves (p.character low is) = omega arith
    expression_moves (p.strings low all) = strings_move ts all
    expression_moves (p.parentheses low is a closes) = let i = expression_moves a in omega arith
    expression_moves (p.index low a is b closes) = let i = expression_moves a in let j = expression_moves b in omega arith
    expression_moves (p.call_without low a is closes) = let i = expression_moves a in omega arith
    expression_moves (p.call low a is all closes) = let i = expression_moves a in let j = expressions_move all in omega arith
    expression_moves (p.select how low a is named) = let i = expression_moves a in omega arith
    expression_moves (p.postfix op low a is) = let i = expression_moves a in omega arith
    expression_moves (p.prefix op low is a) = let i = expression_moves a in omega arith
    expression_moves (p.size_of low is a) = let i = expression_moves a in omega arith
    expression_moves (p.size_of_type low is opens type closes) = let i = type_name_moves type in omega arith
    expression_moves (p.cast_to low is type closes a) = let i = type_name_moves type in let j = expression_moves a in omega arith
    expression_moves (p.binary op low a is b) = let i = expression_moves a in let j = expression_moves b in omega arith
    expression_moves (p.conditional low a is b also c) = let i = expression_moves a in let j = expression_moves b in let l = expression_moves c in omega arith
    expression_moves (p.assignment op low a is b) = let i = expression_moves a in let j = expression_moves b in omega arith
    expression_moves (p.comma low a is all) = let i = expression_moves a in let j = expressions_move all in omega arith

    pub expressions_move : {depth from to : ℕ} {scope after : Scope} {all : List Expression} → AreExpressions text ts depth scope after from to all →
        from + length all ≤ to
    expressions_move (p.last_expression a) = let i = expression_moves a in omega arith
    expressions_move (p.more_expressions a is rest) = let i = expression_moves a in let j = expressions_move rest in omega arith

    pub type_name_moves : {depth from to : ℕ} {scope after : Scope} {type : TypePhrase} → IsTypeName text ts depth scope after from to type → from ≤ to
    type_name_moves (p.type_name held declarator) = let i = specs_move held in let j = declarator_moves declarator in omega arith

    pub specs_move : {depth from to : ℕ} {scope after : Scope} {roles : List Role} {specs : Specs} → IsSpecs text ts depth scope after roles from to specs →
        from ≤ to
    specs_move (p.specs all one) = let i = specifiers_move all in omega arith

    pub specifiers_move : {depth from to : ℕ} {scope after : Scope} {earlier roles : List Role} {all : List Specifier} →
        AreSpecifiers text ts depth scope after earlier roles from to all → from + length all ≤ to
    specifiers_move p.no_specifiers = omega arith
    specifiers_move (p.more_specifiers first rest) = let i = specifier_moves first in let j = specifiers_move rest in omega arith

    pub specifier_moves : {depth from to : ℕ} {scope after : Scope} {earlier : List Role} {role : Role} {found : Specifier} →
        IsSpecifier text ts depth scope after earlier role from to found → from < to
    specifier_moves (p.storage which is) = omega arith
    specifier_moves (p.qualifier which is) = omega arith
    specifier_moves (p.basic which is) = omega arith
    specifier_moves (p.members which is named opens all closes) = let i = optional_name_moves named in let j = members_move all in omega arith
    specifier_moves (p.tag which is named) = omega arith
    specifier_moves (p.enumerators is named opens all closes) =
        let i = optional_name_moves named in let j = enumerators_move all in let l = closing_moves ts closes in omega arith
    specifier_moves (p.enum_tag is named) = omega arith
    specifier_moves (p.named_type is known none) = omega arith

    pub members_move : {depth from to : ℕ} {scope after : Scope} {all : List Member} → AreMembers text ts depth scope after from to all → from + length all ≤ to
    members_move (p.last_member a) = let i = member_moves a in omega arith
    members_move (p.more_members a rest) = let i = member_moves a in let j = members_move rest in omega arith

    pub member_moves : {depth from to : ℕ} {scope after : Scope} {found : Member} → IsMember text ts depth scope after from to found → from < to
    member_moves (p.member held all closes) = let i = specs_move held in let j = declarators_move all in omega arith

    pub declarators_move : {depth from to : ℕ} {scope after : Scope} {all : List Declarator} → AreDeclarators text ts depth scope after from to all → from ≤ to
    declarators_move (p.last_declarator a) = declarator_moves a
    declarators_move (p.more_declarators a is rest) = let i = declarator_moves a in let j = declarators_move rest in omega arith

    pub enumerators_move : {depth from to : ℕ} {scope after : Scope} {all : List Enumerator} → AreEnumerators text ts depth scope after from to all →
        from + length all ≤ to
    enumerators_move (p.last_enumerator a) = let i = enumerator_moves a in omega arith
    enumerators_move (p.more_enumerators a is rest) = let i = enumerator_moves a in let j = enumerators_move rest in omega arith

    pub enumerator_moves : {depth from to : ℕ} {scope after : Scope} {found : Enumerator} → IsEnumerator text ts depth scope after from to found → from < to
    enumerator_moves (p.without_value is) = omega arith
    enumerator_moves (p.with_value is equal a) = let i = expression_moves a in omega arith

    pub declarator_moves : {how : Naming} {kind : DeclaratorKind} {depth from to : ℕ} {scope after : Scope} {name : Option Name} {own : Option Scope} {found : Declarator} →
        IsDeclarator text ts how kind depth scope after from to name own found → from ≤ to
    declarator_moves (p.declared_name is) = omega arith
    declarator_moves (p.parameter_name is) = omega arith
    declarator_moves p.no_name = omega arith
    declarator_moves p.no_parameter_name = omega arith
    declarator_moves (p.pointer is all a) = let i = qualifiers_move ts all in let j = declarator_moves a in omega arith
    declarator_moves (p.in_parentheses is may a some closes) = let i = declarator_moves a in omega arith
    declarator_moves (p.open_array a is closes) = let i = declarator_moves a in omega arith
    declarator_moves (p.array a is size closes) = let i = declarator_moves a in let j = expression_moves size in omega arith
    declarator_moves (p.function a is all closes) = let i = declarator_moves a in let j = parameters_move all in omega arith

    pub parameters_move : {depth from to : ℕ} {scope own : Scope} {all : List Parameter} → AreParameters text ts depth scope own from to all → from ≤ to
    parameters_move p.no_parameters = omega arith
    parameters_move (p.only_void is closes) = omega arith
    parameters_move (p.parameters other all) = some_parameters_move all

    pub some_parameters_move : {depth from to : ℕ} {scope after : Scope} {all : List Parameter} → AreSomeParameters text ts depth scope after from to all → from ≤ to
    some_parameters_move (p.last_parameter a) = parameter_moves a
    some_parameters_move (p.more_parameters a is rest) = let i = parameter_moves a in let j = some_parameters_move rest in omega arith

    pub parameter_moves : {depth from to : ℕ} {scope after : Scope} {found : Parameter} → IsParameter text ts depth scope after from to found → from ≤ to
    parameter_moves (p.with_name held a) = let i = specs_move held in let j = declarator_moves a in omega arith
    parameter_moves (p.without_name held a) = let i = specs_move held in let j = declarator_moves a in omega arith

  -- ---- what ends with a token ends within the text

  mutual
    pub expression_fits : {depth level from to : ℕ} {scope after : Scope} {e : Expression} → IsExpression text ts depth level scope after from to e → to ≤ length ts
    expression_fits (p.name {from} low is other) = let h = stands_within ts from _ is in omega arith
    expression_fits (p.number {from} low is) = let h = stands_within ts from _ is in omega arith
    expression_fits (p.character {from} low is) = let h = stands_within ts from _ is in omega arith
    expression_fits (p.strings low all) = strings_fit ts all
    expression_fits (p.parentheses {to} low is a closes) = let h = stands_within ts to _ closes in omega arith
    expression_fits (p.index {to} low a is b closes) = let h = stands_within ts to _ closes in omega arith
    expression_fits (p.call_without {at} low a is closes) = let h = stands_within ts (at + 1) _ closes in omega arith
    expression_fits (p.call {to} low a is all closes) = let h = stands_within ts to _ closes in omega arith
    expression_fits (p.select {at} how low a is named) = let h = stands_within ts (at + 1) _ named in omega arith
    expression_fits (p.postfix {at} op low a is) = let h = stands_within ts at _ is in omega arith
    expression_fits (p.prefix op low is a) = expression_fits a
    expression_fits (p.size_of low is a) = expression_fits a
    expression_fits (p.size_of_type {to} low is opens type closes) = let h = stands_within ts to _ closes in omega arith
    expression_fits (p.cast_to low is type closes a) = expression_fits a
    expression_fits (p.binary op low a is b) = expression_fits b
    expression_fits (p.conditional low a is b also c) = expression_fits c
    expression_fits (p.assignment op low a is b) = expression_fits b
    expression_fits (p.comma low a is all) = expressions_fit all

    pub expressions_fit : {depth from to : ℕ} {scope after : Scope} {all : List Expression} → AreExpressions text ts depth scope after from to all → to ≤ length ts
    expressions_fit (p.last_expression a) = expression_fits a
    expressions_fit (p.more_expressions a is rest) = expressions_fit rest
