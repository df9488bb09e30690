-- How expressions and declarators begin.
use Rattle.std.proofs.Common.{◌≡◌, ◌≢◌, ℕ, ◌<◌, List, Option, Some, Bool, true, false, ◌⊎◌, inl, inr, refl, ap, arith}
use Rattle.c_tokens.specs.declared.token.Token.{Token}
use Rattle.c_tokens.specs.declared.kind.Kind.{Kind}
use Rattle.c_tokens.specs.declared.kind.Kind.TheVariants as k
use Rattle.c_tokens.specs.declared.kind.Keyword.TheVariants as word
use Rattle.c_tokens.specs.declared.kind.Mark.TheVariants as mark
use Rattle.c_grammar.specs.declared.words.Naming.TheVariants as naming
use Rattle.c_grammar.specs.declared.words.Naming.{Naming}
use Rattle.c_grammar.specs.declared.words.Prefix.{Prefix}
use Rattle.c_grammar.specs.declared.words.Prefix.TheVariants as prefix
use Rattle.c_grammar.specs.declared.phrases.Expression.{Expression}
use Rattle.c_grammar.specs.declared.phrases.Declarator.{Declarator}
use Rattle.c_tokens.specs.Names.{Name}
use Rattle.token_texts.specs.Names.{name_at}
use Rattle.c_grammar.specs.Tokens.{kind_at, AreStrings, last, more, IsString, IsMark}
use Rattle.c_grammar.specs.Scope.{Scope}
use Rattle.c_grammar.specs.Operators.{prefix_mark}
use Rattle.c_grammar.specs.Phrases as p
use Rattle.c_grammar.specs.Phrases.{DeclaratorKind, IsExpression, IsDeclarator}
use Rattle.grammar_descent.specs.Follow.{ends_specs}
use Rattle.grammar_descent.specs.Types.{begins_specs}
use Rattle.grammar_descent.proofs.Types.{type_missed}
use Rattle.grammar_descent.proofs.Moves.{expression_moves, qualifiers_move, parameters_move}

-- whether an expression may begin with a token of the kind
abbrev pub begins_expression : Option Kind → Bool
begins_expression (Some k.Name) = true
begins_expression (Some (k.Number value type)) = true
begins_expression (Some (k.Char value)) = true
begins_expression (Some k.Str) = true
begins_expression (Some (k.Word word.Sizeof)) = true
begins_expression (Some (k.Mark mark.LeftParen)) = true
begins_expression (Some (k.Mark mark.PlusPlus)) = true
begins_expression (Some (k.Mark mark.MinusMinus)) = true
begins_expression (Some (k.Mark mark.And)) = true
begins_expression (Some (k.Mark mark.Star)) = true
begins_expression (Some (k.Mark mark.Plus)) = true
begins_expression (Some (k.Mark mark.Minus)) = true
begins_expression (Some (k.Mark mark.Tilde)) = true
begins_expression (Some (k.Mark mark.Not)) = true
begins_expression _ = false

-- whether a declarator may begin with a token of the kind
abbrev pub begins_declarator : Option Kind → Bool
begins_declarator (Some k.Name) = true
begins_declarator (Some (k.Mark mark.Star)) = true
begins_declarator (Some (k.Mark mark.LeftBracket)) = true
begins_declarator (Some (k.Mark mark.LeftParen)) = true
begins_declarator _ = false

prefix_begins : (op : Prefix) → begins_expression (Some (k.Mark (prefix_mark op))) ≡ true
prefix_begins prefix.Increment = refl
prefix_begins _ = refl

first_string : {ts : List Token} {from to : ℕ} → AreStrings ts from to → IsString ts from
first_string (last is) = is
first_string (more is rest) = is

grown : (ts : List Token) (from at to : ℕ) → IsMark ts at mark.LeftBracket ⊎ IsMark ts at mark.LeftParen → (from ≡ at) ⊎ (begins_declarator (kind_at ts from) ≡ true) →
    (from ≡ to) ⊎ (begins_declarator (kind_at ts from) ≡ true)
grown ts from at to (inl is) (inl same) = inr (rw (same, is) refl)
grown ts from at to (inr is) (inl same) = inr (rw (same, is) refl)
grown ts from at to is (inr some) = inr some

module _ {text : List ℕ} {ts : List Token} where
  pub expression_begins : {depth level from to : ℕ} {scope after : Scope} {e : Expression} → IsExpression text ts depth level scope after from to e →
      begins_expression (kind_at ts from) ≡ true
  expression_begins (p.name low is other) = rw is refl
  expression_begins (p.number low is) = rw is refl
  expression_begins (p.character low is) = rw is refl
  expression_begins (p.strings low all) = rw (first_string all) refl
  expression_begins (p.parentheses low is a closes) = rw is refl
  expression_begins (p.index low a is b closes) = expression_begins a
  expression_begins (p.call_without low a is closes) = expression_begins a
  expression_begins (p.call low a is all closes) = expression_begins a
  expression_begins (p.select how low a is name) = expression_begins a
  expression_begins (p.postfix op low a is) = expression_begins a
  expression_begins (p.prefix op low is a) = rw is (prefix_begins op)
  expression_begins (p.size_of low is a) = rw is refl
  expression_begins (p.size_of_type low is opens a closes) = rw is refl
  expression_begins (p.cast_to low is a closes b) = rw is refl
  expression_begins (p.binary op low a is b) = expression_begins a
  expression_begins (p.conditional low a is b colon c) = expression_begins a
  expression_begins (p.assignment op low a is b) = expression_begins a
  expression_begins (p.comma low a is all) = expression_begins a

  -- no specifiers begin where an expression does
  pub expression_no_specs : {depth level from to : ℕ} {scope after : Scope} {e : Expression} → IsExpression text ts depth level scope after from to e →
      begins_specs text ts scope from ≡ false
  unfolding begins_specs
  expression_no_specs (p.name {from} {scope} low is other) = rw (is, type_missed scope (name_at text ts from) other) refl
  expression_no_specs (p.number low is) = rw is refl
  expression_no_specs (p.character low is) = rw is refl
  expression_no_specs (p.strings low all) = rw (first_string all) refl
  expression_no_specs (p.parentheses low is a closes) = rw is refl
  expression_no_specs (p.index low a is b closes) = expression_no_specs a
  expression_no_specs (p.call_without low a is closes) = expression_no_specs a
  expression_no_specs (p.call low a is all closes) = expression_no_specs a
  expression_no_specs (p.select how low a is name) = expression_no_specs a
  expression_no_specs (p.postfix op low a is) = expression_no_specs a
  expression_no_specs (p.prefix op low is a) = rw is refl
  expression_no_specs (p.size_of low is a) = rw is refl
  expression_no_specs (p.size_of_type low is opens a closes) = rw is refl
  expression_no_specs (p.cast_to low is a closes b) = rw is refl
  expression_no_specs (p.binary op low a is b) = expression_no_specs a
  expression_no_specs (p.conditional low a is b colon c) = expression_no_specs a
  expression_no_specs (p.assignment op low a is b) = expression_no_specs a
  expression_no_specs (p.comma low a is all) = expression_no_specs a

  -- another token begins an expression
  pub expression_instead : {depth level from to : ℕ} {scope after : Scope} {e : Expression} → IsExpression text ts depth level scope after from to e →
      (kind : Kind) → begins_expression (Some kind) ≡ false → kind_at ts from ≢ Some kind
  expression_instead is kind none h = let some = expression_begins is in let same = ap begins_expression h in cc

  -- A declarator has no token, or begins with one of a declarator.
  pub declarator_begins : {how : Naming} {kind : DeclaratorKind} {depth from to : ℕ} {scope after : Scope} {name : Option Name} {own : Option Scope} {d : Declarator} →
      IsDeclarator text ts how kind depth scope after from to name own d → (from ≡ to) ⊎ (begins_declarator (kind_at ts from) ≡ true)
  declarator_begins (p.declared_name is) = inr (rw is refl)
  declarator_begins (p.parameter_name is) = inr (rw is refl)
  declarator_begins p.no_name = inl refl
  declarator_begins p.no_parameter_name = inl refl
  declarator_begins (p.pointer is all a) = inr (rw is refl)
  declarator_begins (p.in_parentheses is may a some closes) = inr (rw is refl)
  declarator_begins {from} {to} (p.open_array {at} a is closes) = grown ts from at to (inl is) (declarator_begins a)
  declarator_begins {from} {to} (p.array {at} a is b closes) = grown ts from at to (inl is) (declarator_begins a)
  declarator_begins {from} {to} (p.function {at} a is all closes) = grown ts from at to (inr is) (declarator_begins a)

  -- that of a name has some
  pub named_moves : {kind : DeclaratorKind} {depth from to : ℕ} {scope after : Scope} {name : Option Name} {own : Option Scope} {d : Declarator} →
      IsDeclarator text ts naming.Named kind depth scope after from to name own d → from < to
  named_moves (p.declared_name is) = omega arith
  named_moves (p.pointer is all a) = let i = qualifiers_move ts all in let j = named_moves a in omega arith
  named_moves (p.in_parentheses is may a some closes) = omega arith
  named_moves (p.open_array a is closes) = let i = named_moves a in omega arith
  named_moves (p.array a is b closes) = let i = expression_moves text ts b in let j = named_moves a in omega arith
  named_moves (p.function a is all closes) = let i = parameters_move text ts all in let j = named_moves a in omega arith

pub specs_end-by : (kind : Option Kind) → begins_declarator kind ≡ true → ends_specs kind ≡ true
specs_end-by (Some k.Name) h = refl
specs_end-by (Some (k.Mark mark.Star)) h = refl
specs_end-by (Some (k.Mark mark.LeftBracket)) h = refl
specs_end-by (Some (k.Mark mark.LeftParen)) h = refl
specs_end-by _ h = absurd cc

module _ {text : List ℕ} {ts : List Token} where
  -- specifiers end before a declarator of a name, and no semicolon begins one
  pub specs_end : {kind : DeclaratorKind} {depth from to : ℕ} {scope after : Scope} {name : Option Name} {own : Option Scope} {d : Declarator} →
      IsDeclarator text ts naming.Named kind depth scope after from to name own d → ends_specs (kind_at ts from) ≡ true
  specs_end is = elim (declarator_begins is) [ inl none ↦ absurd (let some = named_moves is in omega arith) | inr some ↦ specs_end-by _ some ]

  pub no_semicolon : {kind : DeclaratorKind} {depth from to : ℕ} {scope after : Scope} {name : Option Name} {own : Option Scope} {d : Declarator} →
      IsDeclarator text ts naming.Named kind depth scope after from to name own d → kind_at ts from ≢ Some (k.Mark mark.Semicolon)
  no_semicolon is h = elim (declarator_begins is) [
    | inl none ↦ (let some = named_moves is in omega arith)
    | inr some ↦ (let ended = ap begins_declarator h in cc)
  ]
