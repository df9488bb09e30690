-- How an expression begins: with no specifier, and where it is unary, with no cast.
use Rattle.std.proofs.Common.{◌≡◌, ◌≢◌, ℕ, ◌+◌, ◌≤◌, Bool, true, false, List, Option, Some, None, refl, arith}
use Rattle.c_tokens.specs.declared.token.Token.{Token}
use Rattle.c_tokens.specs.declared.kind.Kind.{Kind}
use Rattle.c_tokens.specs.declared.kind.Kind.TheVariants as k
use Rattle.c_tokens.specs.declared.kind.Mark.TheVariants as mark
use Rattle.c_grammar.specs.declared.words.Naming.TheVariants as naming
use Rattle.c_grammar.specs.declared.words.Naming.{Naming}
use Rattle.c_grammar.specs.declared.words.Prefix.{Prefix}
use Rattle.c_grammar.specs.declared.words.Prefix.TheVariants as prefix
use Rattle.c_grammar.specs.declared.phrases.Expression.{Expression}
use Rattle.c_grammar.specs.declared.phrases.TypePhrase.{TypePhrase}
use Rattle.c_grammar.specs.declared.phrases.Declarator.{Declarator}
use Rattle.c_grammar.specs.Tokens as t
use Rattle.c_tokens.specs.Names.{Name}
use Rattle.token_texts.specs.Names.{name_at}
use Rattle.c_grammar.specs.Tokens.{kind_at, IsMark, AreStrings}
use Rattle.c_grammar.specs.Operators.{prefix_mark}
use Rattle.c_grammar.specs.Scope.{Scope}
use Rattle.c_grammar.specs.Phrases as p
use Rattle.c_grammar.specs.Phrases.{IsExpression, AreExpressions, IsTypeName, IsDeclarator, DeclaratorKind}
use Rattle.grammar_descent.specs.Follow.{ends_specs}
use Rattle.grammar_descent.specs.Types.{names_a_type, begins_specs, begins_specs_by}
use Rattle.grammar_descent.proofs.Types.{type_missed, specs_begin}
use Rattle.grammar_descent.proofs.Levels.{rank_within}

module _ (text : List ℕ) (ts : List Token) where
  -- a token that begins no specifiers, whatever names are types
  plain : (scope : Scope) (at : ℕ) (kind : Kind) → ((known : Bool) → begins_specs_by (Some kind) known ≡ false) → kind_at ts at ≡ Some kind →
      begins_specs text ts scope at ≡ false
  unfolding begins_specs
  plain scope at kind never is = rw is (never (names_a_type scope (name_at text ts at)))

  name_plain : (scope : Scope) (at : ℕ) → kind_at ts at ≡ Some k.Name → names_a_type scope (name_at text ts at) ≡ false → begins_specs text ts scope at ≡ false
  unfolding begins_specs
  name_plain scope at is other = rw is other

  strings_plain : {from to : ℕ} (scope : Scope) → AreStrings ts from to → begins_specs text ts scope from ≡ false
  strings_plain scope (t.last {at} is) = plain scope at k.Str (λ known. refl) is
  strings_plain scope (t.more {from} is rest) = plain scope from k.Str (λ known. refl) is

  pub first_string : {from to : ℕ} → AreStrings ts from to → kind_at ts from ≡ Some k.Str
  first_string (t.last is) = is
  first_string (t.more is rest) = is

  pub no_specs : {limit level from to : ℕ} {scope after : Scope} {node : Expression} → IsExpression text ts limit level scope after from to node →
      begins_specs text ts scope from ≡ false
  no_specs (p.name {from} {scope} low is other) = name_plain scope from is (type_missed scope (name_at text ts from) other)
  no_specs (p.number {from} {scope} low is) = plain scope from _ (λ known. refl) is
  no_specs (p.character {from} {scope} low is) = plain scope from _ (λ known. refl) is
  no_specs (p.strings {scope} low all) = strings_plain scope all
  no_specs (p.parentheses {from} {scope} low is a closes) = plain scope from _ (λ known. refl) is
  no_specs (p.index low a is b closes) = no_specs a
  no_specs (p.call_without low a is closes) = no_specs a
  no_specs (p.call low a is all closes) = no_specs a
  no_specs (p.select how low a is named) = no_specs a
  no_specs (p.postfix op low a is) = no_specs a
  no_specs (p.prefix {from} {scope} op low is a) = plain scope from _ (λ known. refl) is
  no_specs (p.size_of {from} {scope} low is a) = plain scope from _ (λ known. refl) is
  no_specs (p.size_of_type {from} {scope} low is opens type closes) = plain scope from _ (λ known. refl) is
  no_specs (p.cast_to {from} {scope} low is type closes a) = plain scope from _ (λ known. refl) is
  no_specs (p.binary op low a is b) = no_specs a
  no_specs (p.conditional low a is b also c) = no_specs a
  no_specs (p.assignment op low a is b) = no_specs a
  no_specs (p.comma low a is all) = no_specs a

  prefix_open : (op : Prefix) → (prefix_mark op ≢ mark.RightParen) × (prefix_mark op ≢ mark.LeftParen)
  prefix_open prefix.Increment = (λ h. cc, λ h. cc)
  prefix_open _ = (λ h. cc, λ h. cc)

  -- no expression begins with a closing parenthesis
  pub no_close : {limit level from to : ℕ} {scope after : Scope} {node : Expression} → IsExpression text ts limit level scope after from to node →
      kind_at ts from ≢ Some (k.Mark mark.RightParen)
  no_close (p.name low is other) h = cc
  no_close (p.number low is) h = cc
  no_close (p.character low is) h = cc
  no_close (p.strings low all) h = let is = first_string all in cc
  no_close (p.parentheses low is a closes) h = cc
  no_close (p.index low a is b closes) h = no_close a h
  no_close (p.call_without low a is closes) h = no_close a h
  no_close (p.call low a is all closes) h = no_close a h
  no_close (p.select how low a is named) h = no_close a h
  no_close (p.postfix op low a is) h = no_close a h
  no_close (p.prefix op low is a) h = (prefix_open op).0 cc
  no_close (p.size_of low is a) h = cc
  no_close (p.size_of_type low is opens type closes) h = cc
  no_close (p.cast_to low is type closes a) h = cc
  no_close (p.binary op low a is b) h = no_close a h
  no_close (p.conditional low a is b also c) h = no_close a h
  no_close (p.assignment op low a is b) h = no_close a h
  no_close (p.comma low a is all) h = no_close a h

  -- from the level of unary expressions on, a parenthesis that comes first begins no cast
  pub no_cast : {limit level from to : ℕ} {scope after : Scope} {node : Expression} → IsExpression text ts limit level scope after from to node → 14 ≤ level →
      IsMark ts from mark.LeftParen → begins_specs text ts scope (from + 1) ≡ false
  no_cast (p.name low is other) high h = absurd cc
  no_cast (p.number low is) high h = absurd cc
  no_cast (p.character low is) high h = absurd cc
  no_cast (p.strings low all) high h = absurd (let is = first_string all in cc)
  no_cast (p.parentheses low is a closes) high h = no_specs a
  no_cast (p.index low a is b closes) high h = no_cast a (omega arith) h
  no_cast (p.call_without low a is closes) high h = no_cast a (omega arith) h
  no_cast (p.call low a is all closes) high h = no_cast a (omega arith) h
  no_cast (p.select how low a is named) high h = no_cast a (omega arith) h
  no_cast (p.postfix op low a is) high h = no_cast a (omega arith) h
  no_cast (p.prefix op low is a) high h = absurd ((prefix_open op).1 cc)
  no_cast (p.size_of low is a) high h = absurd cc
  no_cast (p.size_of_type low is opens type closes) high h = absurd cc
  no_cast (p.cast_to low is type closes a) high h = absurd (omega arith)
  no_cast (p.binary op low a is b) high h = absurd (let r = rank_within op in omega arith)
  no_cast (p.conditional low a is b also c) high h = absurd (omega arith)
  no_cast (p.assignment op low a is b) high h = absurd (omega arith)
  no_cast (p.comma low a is all) high h = absurd (omega arith)

  -- ---- names of types

  pub type_name_begins : {limit from to : ℕ} {scope after : Scope} {type : TypePhrase} → IsTypeName text ts limit scope after from to type →
      begins_specs text ts scope from ≡ true
  type_name_begins (p.type_name held declarator) = specs_begin text ts held

  mark_ends_specs : (at : ℕ) (kind : Kind) → kind_at ts at ≡ Some kind → ends_specs (Some kind) ≡ true → ends_specs (kind_at ts at) ≡ true
  mark_ends_specs at kind is ends = rw is ends

  -- specifiers end before a declarator without a name
  pub specs_end : {how : Naming} {kind : DeclaratorKind} {limit from to : ℕ} {scope after : Scope} {name : Option Name} {own : Option Scope} {found : Declarator} →
      IsDeclarator text ts how kind limit scope after from to name own found → ends_specs (kind_at ts to) ≡ true → ends_specs (kind_at ts from) ≡ true
  specs_end (p.declared_name {from} is) ends = mark_ends_specs from _ is refl
  specs_end (p.parameter_name {from} is) ends = mark_ends_specs from _ is refl
  specs_end p.no_name ends = ends
  specs_end p.no_parameter_name ends = ends
  specs_end (p.pointer {from} is all a) ends = mark_ends_specs from _ is refl
  specs_end (p.in_parentheses {from} is may a some closes) ends = mark_ends_specs from _ is refl
  specs_end (p.open_array {at} a is closes) ends = specs_end a (mark_ends_specs at _ is refl)
  specs_end (p.array {at} a is size closes) ends = specs_end a (mark_ends_specs at _ is refl)
  specs_end (p.function {at} a is all closes) ends = specs_end a (mark_ends_specs at _ is refl)

  -- a declarator without a name declares none
  pub declares_none : {how : Naming} {kind : DeclaratorKind} {limit from to : ℕ} {scope after : Scope} {name : Option Name} {own : Option Scope} {found : Declarator} →
      IsDeclarator text ts how kind limit scope after from to name own found → how ≡ naming.NotNamed → name ≡ None
  declares_none (p.declared_name is) h = absurd cc
  declares_none (p.parameter_name is) h = absurd cc
  declares_none p.no_name h = refl
  declares_none p.no_parameter_name h = refl
  declares_none (p.pointer is all a) h = declares_none a h
  declares_none (p.in_parentheses is may a some closes) h = declares_none a h
  declares_none (p.open_array a is closes) h = declares_none a h
  declares_none (p.array a is size closes) h = declares_none a h
  declares_none (p.function a is all closes) h = declares_none a h
