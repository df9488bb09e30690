-- With which tokens expressions and declarators begin.
use Rattle.std.proofs.Common.{◌≡◌, ◌≢◌, ℕ, ◌+◌, ◌<◌, true, false, ◌||◌, List, Option, Some, refl, sym, ◌∙◌, arith}
use Rattle.c_tokens.specs.declared.kind.Keyword.{Keyword}
use Rattle.c_tokens.specs.declared.kind.Keyword.TheVariants as word
use Rattle.c_tokens.specs.declared.kind.Mark.{Mark}
use Rattle.c_tokens.specs.declared.kind.Mark.TheVariants as mark
use Rattle.c_tokens.specs.declared.kind.Kind.TheVariants as k
use Rattle.c_tokens.specs.declared.token.Token.{Token}
use Rattle.c_grammar.specs.declared.words.Naming.TheVariants as naming
use Rattle.c_grammar.specs.declared.words.Naming.{Naming}
use Rattle.c_grammar.specs.declared.words.Prefix.{Prefix}
use Rattle.c_grammar.specs.declared.words.Prefix.TheVariants as prefix
use Rattle.c_grammar.specs.declared.phrases.Expression.{Expression}
use Rattle.c_grammar.specs.declared.phrases.Declarator.{Declarator}
use Rattle.c_tokens.specs.Names.{Name}
use Rattle.token_texts.specs.Names.{name_at}
use Rattle.c_grammar.specs.Tokens.{kind_at, IsMark, IsWord, IsName, AreStrings}
use Rattle.c_grammar.specs.Tokens as token
use Rattle.c_grammar.specs.Scope.{Scope, IsType}
use Rattle.c_grammar.specs.Operators.{prefix_mark}
use Rattle.c_grammar.specs.Phrases.{DeclaratorKind, whole, direct, MayEnclose, in_a_parameter, IsExpression, IsDeclarator}
use Rattle.c_grammar.specs.Phrases as p
use Rattle.grammar_descent.specs.Reading.{mark_at, word_at}
use Rattle.grammar_descent.specs.Follow.{ends_specs, ends_declarator}
use Rattle.grammar_descent.specs.DeclaratorSteps.{may_leave_out}
use Rattle.grammar_descent.specs.Types.{begins_specs}
use Rattle.grammar_descent.proofs.Types.{type_missed, type_found}
use Rattle.grammar_descent.proofs.Seen.{instead, not_here}
use Rattle.grammar_descent.proofs.States.{apart_by}

prefix_closes_none : (op : Prefix) → prefix_mark op ≢ mark.RightBracket
prefix_closes_none prefix.Increment h = cc
prefix_closes_none _ h = cc

module _ (text : List ℕ) (ts : List Token) where
  strings_close_none : {from to : ℕ} → AreStrings ts from to → kind_at ts from ≢ Some (k.Mark mark.RightBracket)
  strings_close_none (token.last is) h = cc
  strings_close_none (token.more is rest) h = cc

  -- no expression begins with `]`
  pub closes_none : {depth level from to : ℕ} {scope after : Scope} {node : Expression} → IsExpression text ts depth level scope after from to node →
      kind_at ts from ≢ Some (k.Mark mark.RightBracket)
  closes_none (p.name low is other) h = cc
  closes_none (p.number low is) h = cc
  closes_none (p.character low is) h = cc
  closes_none (p.strings low all) h = strings_close_none all h
  closes_none (p.parentheses low opens a closes) h = cc
  closes_none (p.index low a opens b closes) h = closes_none a h
  closes_none (p.call_without low a opens closes) h = closes_none a h
  closes_none (p.call low a opens all closes) h = closes_none a h
  closes_none (p.select how low a is named) h = closes_none a h
  closes_none (p.postfix op low a is) h = closes_none a h
  closes_none (p.prefix op low is a) h = prefix_closes_none op (let e = sym is ∙ h in cc)
  closes_none (p.size_of low is a) h = cc
  closes_none (p.size_of_type low is opens type closes) h = cc
  closes_none (p.cast_to low opens type closes a) h = cc
  closes_none (p.binary op low a is b) h = closes_none a h
  closes_none (p.conditional low a is b also c) h = closes_none a h
  closes_none (p.assignment op low a is b) h = closes_none a h
  closes_none (p.comma low a is rest) h = closes_none a h

  -- A mark is no specifier, nor is a name that is no type; `void` is one, and a name that is a type.
  pub mark_begins_none : (scope : Scope) (at : ℕ) (m : Mark) → IsMark ts at m → begins_specs text ts scope at ≡ false
  unfolding begins_specs
  mark_begins_none scope at m is = rw is refl

  pub void_begins : (scope : Scope) (at : ℕ) → IsWord ts at word.Void → begins_specs text ts scope at ≡ true
  unfolding begins_specs
  void_begins scope at is = rw is refl

  pub type_begins : (scope : Scope) (at : ℕ) → IsName ts at → IsType scope (name_at text ts at) → begins_specs text ts scope at ≡ true
  unfolding begins_specs
  type_begins scope at is known = rw (is, type_found known) refl

  pub name_begins_none : (scope : Scope) (at : ℕ) → IsName ts at → (IsName ts at → IsType scope (name_at text ts at) → ⊥) → begins_specs text ts scope at ≡ false
  unfolding begins_specs
  name_begins_none scope at is other = rw (is, type_missed scope (name_at text ts at) (other is)) refl

  pub begins_no_mark : (scope : Scope) (at : ℕ) (m : Mark) → begins_specs text ts scope at ≡ true → mark_at ts at m ≡ false
  begins_no_mark scope at m begins = not_here ts at (k.Mark m) (λ is. let none = mark_begins_none scope at m is in cc)

-- how a declarator begins
pub data BeginsDeclarator (ts : List Token) : Naming → DeclaratorKind → ℕ → ℕ → Type 0 where
  nothing : {how : Naming} {kind : DeclaratorKind} {at : ℕ} → may_leave_out how ≡ true → BeginsDeclarator ts how kind at at
  star : {how : Naming} {from to : ℕ} → IsMark ts from mark.Star → BeginsDeclarator ts how whole from to
  opening : {how : Naming} {kind : DeclaratorKind} {from to : ℕ} → IsMark ts from mark.LeftParen → BeginsDeclarator ts how kind from to
  bracket : {how : Naming} {kind : DeclaratorKind} {from to : ℕ} → IsMark ts from mark.LeftBracket → BeginsDeclarator ts how kind from to
  a_name : {kind : DeclaratorKind} {from to : ℕ} → IsName ts from → BeginsDeclarator ts naming.Named kind from to
  a_parameter : {kind : DeclaratorKind} {from to : ℕ} → IsName ts from → BeginsDeclarator ts naming.NamedOrNot kind from to

module _ (ts : List Token) where
  array_begins : {how : Naming} {from at : ℕ} → BeginsDeclarator ts how direct from at → (kind : DeclaratorKind) (to : ℕ) → IsMark ts at mark.LeftBracket →
      BeginsDeclarator ts how kind from to
  array_begins (nothing out) kind to is = bracket is
  array_begins (opening first) kind to is = opening first
  array_begins (bracket first) kind to is = bracket first
  array_begins (a_name first) kind to is = a_name first
  array_begins (a_parameter first) kind to is = a_parameter first

  function_begins : {how : Naming} {from at : ℕ} → BeginsDeclarator ts how direct from at → (kind : DeclaratorKind) (to : ℕ) → IsMark ts at mark.LeftParen →
      BeginsDeclarator ts how kind from to
  function_begins (nothing out) kind to is = opening is
  function_begins (opening first) kind to is = opening first
  function_begins (bracket first) kind to is = bracket first
  function_begins (a_name first) kind to is = a_name first
  function_begins (a_parameter first) kind to is = a_parameter first

  pub declarator_begins : (text : List ℕ) {how : Naming} {kind : DeclaratorKind} {depth from to : ℕ} {scope after : Scope} {name : Option Name} {own : Option Scope}
      {node : Declarator} → IsDeclarator text ts how kind depth scope after from to name own node → BeginsDeclarator ts how kind from to
  declarator_begins text (p.declared_name is) = a_name is
  declarator_begins text (p.parameter_name is) = a_parameter is
  declarator_begins text p.no_name = nothing refl
  declarator_begins text p.no_parameter_name = nothing refl
  declarator_begins text (p.pointer is all a) = star is
  declarator_begins text (p.in_parentheses opens may a some closes) = opening opens
  declarator_begins text (p.open_array {kind} {at} a opens closes) = array_begins (declarator_begins text a) kind (at + 2) opens
  declarator_begins text (p.array {kind} {to} a opens b closes) = array_begins (declarator_begins text a) kind (to + 1) opens
  declarator_begins text (p.function {kind} {to} a opens all closes) = function_begins (declarator_begins text a) kind (to + 1) opens

  -- specifiers end before a declarator
  pub ends_before : {how : Naming} {kind : DeclaratorKind} {from to : ℕ} → BeginsDeclarator ts how kind from to → ends_specs (kind_at ts to) ≡ true →
      ends_specs (kind_at ts from) ≡ true
  ends_before (nothing out) ends = ends
  ends_before (star is) ends = rw is refl
  ends_before (opening is) ends = rw is refl
  ends_before (bracket is) ends = rw is refl
  ends_before (a_name is) ends = rw is refl
  ends_before (a_parameter is) ends = rw is refl

  pub begins_no_star : {how : Naming} {from to : ℕ} → BeginsDeclarator ts how direct from to → ends_declarator (kind_at ts to) ≡ true →
      mark_at ts from mark.Star ≡ false
  begins_no_star (nothing {at} out) ends = apart_by ts at (k.Mark mark.Star) ends_declarator ends refl
  begins_no_star {from} (opening is) ends = instead ts from (k.Mark mark.Star) _ is (λ h. cc)
  begins_no_star {from} (bracket is) ends = instead ts from (k.Mark mark.Star) _ is (λ h. cc)
  begins_no_star {from} (a_name is) ends = instead ts from (k.Mark mark.Star) _ is (λ h. cc)
  begins_no_star {from} (a_parameter is) ends = instead ts from (k.Mark mark.Star) _ is (λ h. cc)

  -- it begins with no word that could not end one
  pub begins_no_word : {how : Naming} {kind : DeclaratorKind} {from to : ℕ} (w : Keyword) → ends_declarator (Some (k.Word w)) ≡ false →
      BeginsDeclarator ts how kind from to → ends_declarator (kind_at ts to) ≡ true → word_at ts from w ≡ false
  begins_no_word w bound (nothing {at} out) ends = apart_by ts at (k.Word w) ends_declarator ends bound
  begins_no_word {from} w bound (star is) ends = instead ts from (k.Word w) _ is (λ h. cc)
  begins_no_word {from} w bound (opening is) ends = instead ts from (k.Word w) _ is (λ h. cc)
  begins_no_word {from} w bound (bracket is) ends = instead ts from (k.Word w) _ is (λ h. cc)
  begins_no_word {from} w bound (a_name is) ends = instead ts from (k.Word w) _ is (λ h. cc)
  begins_no_word {from} w bound (a_parameter is) ends = instead ts from (k.Word w) _ is (λ h. cc)

  -- what stands in parentheses begins with neither `)` nor specifiers, where the name may be left out
  pub encloses : (text : List ℕ) {how : Naming} {kind : DeclaratorKind} {from to : ℕ} (scope : Scope) → BeginsDeclarator ts how kind from to →
      may_leave_out how ≡ true → MayEnclose text ts how scope from → from < to → (mark_at ts from mark.RightParen || begins_specs text ts scope from) ≡ false
  encloses text scope (nothing also) out may some = absurd (omega arith)
  encloses text {from} scope (star is) out may some =
      rw (instead ts from (k.Mark mark.RightParen) _ is (λ h. cc), mark_begins_none text ts scope from mark.Star is) refl
  encloses text {from} scope (opening is) out may some =
      rw (instead ts from (k.Mark mark.RightParen) _ is (λ h. cc), mark_begins_none text ts scope from mark.LeftParen is) refl
  encloses text {from} scope (bracket is) out may some =
      rw (instead ts from (k.Mark mark.RightParen) _ is (λ h. cc), mark_begins_none text ts scope from mark.LeftBracket is) refl
  encloses text scope (a_name is) out may some = absurd cc
  encloses text {from} scope (a_parameter is) out (in_a_parameter no_type) some =
      rw (instead ts from (k.Mark mark.RightParen) _ is (λ h. cc), name_begins_none text ts scope from is no_type) refl
