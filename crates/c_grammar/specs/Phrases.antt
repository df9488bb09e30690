-- Expressions, and what declares: specifiers, declarators, names of types. They lead to one another, so they stand together.
--
-- `Is.. depth scope after from to node`: where these names are types, the tokens from `from` up to `to` are the node, which is
-- nested no deeper than `depth`, and `after` is what is in scope after them. Counted are expressions, declarators, and a list of
-- members; specifiers, parameters and names of types are not.
use Rattle.std.specs.Prelude.{◌≡◌, ℕ, suc, ◌+◌, ◌<◌, ◌≤◌, List, [], ◌∷◌, ◌++◌, Option, Some, None}
use lib.IntN.{ℤ}
use Rattle.c_tokens.specs.declared.kind.Keyword.TheVariants as word
use Rattle.c_tokens.specs.declared.kind.Mark.TheVariants as mark
use Rattle.c_tokens.specs.declared.kind.NumType.{NumType}
use Rattle.c_tokens.specs.declared.kind.Kind.TheVariants as k
use Rattle.c_tokens.specs.declared.token.Token.{Token}
use Rattle.c_tokens.specs.Names.{Name}
use Rattle.token_texts.specs.Names.{name_at}
use Rattle.c_grammar.specs.declared.words.NameKind.TheVariants as declares
use Rattle.c_grammar.specs.declared.words.Storage.{Storage}
use Rattle.c_grammar.specs.declared.words.Qualifier.{Qualifier}
use Rattle.c_grammar.specs.declared.words.Qualifier.TheVariants as q
use Rattle.c_grammar.specs.declared.words.BasicWord.{BasicWord}
use Rattle.c_grammar.specs.declared.words.Aggregate.{Aggregate}
use Rattle.c_grammar.specs.declared.words.Naming.{Naming}
use Rattle.c_grammar.specs.declared.words.Naming.TheVariants as naming
use Rattle.c_grammar.specs.declared.words.Level.TheVariants as of
use Rattle.c_grammar.specs.declared.words.Binary.{Binary}
use Rattle.c_grammar.specs.declared.words.Assignment.{Assignment}
use Rattle.c_grammar.specs.declared.words.Prefix.{Prefix}
use Rattle.c_grammar.specs.declared.words.Postfix.{Postfix}
use Rattle.c_grammar.specs.declared.words.Selection.{Selection}
use Rattle.c_grammar.specs.declared.phrases.Expression.{Expression}
use Rattle.c_grammar.specs.declared.phrases.Expression.TheVariants as e
use Rattle.c_grammar.specs.declared.phrases.TypePhrase.{TypePhrase}
use Rattle.c_grammar.specs.declared.phrases.Specs.{Specs}
use Rattle.c_grammar.specs.declared.phrases.Specifier.{Specifier}
use Rattle.c_grammar.specs.declared.phrases.Specifier.TheVariants as s
use Rattle.c_grammar.specs.declared.phrases.Member.{Member}
use Rattle.c_grammar.specs.declared.phrases.Enumerator.{Enumerator}
use Rattle.c_grammar.specs.declared.phrases.Declarator.{Declarator}
use Rattle.c_grammar.specs.declared.phrases.Declarator.TheVariants as d
use Rattle.c_grammar.specs.declared.phrases.Parameter.{Parameter}
use Rattle.c_grammar.specs.Tokens.{kind_at, place_at, IsMark, IsWord, IsName, AreStrings, IsOptionalName, ClosesList}
use Rattle.c_grammar.specs.Words.{storage_word, qualifier_word, basic_word, aggregate_word, Role, modifies, spells, is_type, storage_role, HoldsNoType, HoldsOneType}
use Rattle.c_grammar.specs.Scope.{Scope, IsType, first_of}
use Rattle.c_grammar.specs.Operators.{tightness, rank, binary_mark, assignment_mark, prefix_mark, operand_level, postfix_mark, selection_mark}

-- A declarator (C11 6.7.6) as a whole; or a direct one, which begins with no `*`, and which brackets or parameters may follow.
pub data DeclaratorKind : Type 0 where
  whole : DeclaratorKind
  direct : DeclaratorKind

-- after a `*`: `const` and `restrict`, any number of them
pub data AreQualifiers (ts : List Token) : ℕ → ℕ → List Qualifier → Type 0 where
  none : {at : ℕ} → AreQualifiers ts at at []
  const : {from to : ℕ} {rest : List Qualifier} →
      IsWord ts from word.Const → AreQualifiers ts (from + 1) to rest → AreQualifiers ts from to (q.Const ∷ rest)
  restrict : {from to : ℕ} {rest : List Qualifier} →
      IsWord ts from word.Restrict → AreQualifiers ts (from + 1) to rest → AreQualifiers ts from to (q.Restrict ∷ rest)

module _ (text : List ℕ) (ts : List Token) where
  -- Whether a declarator in parentheses may begin with this token. In a parameter `(` with a type after it begins a list of
  -- parameters, and no name in parentheses (C11 6.7.6.3p11).
  pub data MayEnclose : Naming → Scope → ℕ → Type 0 where
    with_a_name : {scope : Scope} {at : ℕ} → MayEnclose naming.Named scope at
    in_a_parameter : {scope : Scope} {at : ℕ} → (IsName ts at → IsType scope (name_at text ts at) → ⊥) → MayEnclose naming.NamedOrNot scope at
    without_a_name : {scope : Scope} {at : ℕ} → MayEnclose naming.NotNamed scope at

  mutual
    -- `IsExpression depth level ..`: outside parentheses it is at this level or a tighter one.
    pub data IsExpression : ℕ → ℕ → Scope → Scope → ℕ → ℕ → Expression → Type 0 where
      -- a name that is no type
      name : {depth level from : ℕ} {scope : Scope} → level ≤ tightness of.Primary →
          IsName ts from → (IsType scope (name_at text ts from) → ⊥) →
          IsExpression (suc depth) level scope scope from (from + 1) (e.Name (place_at ts from))
      number : {depth level from value : ℕ} {scope : Scope} {type : NumType} → level ≤ tightness of.Primary →
          kind_at ts from ≡ Some (k.Number value type) →
          IsExpression (suc depth) level scope scope from (from + 1) (e.Number (place_at ts from) value type)
      character : {depth level from : ℕ} {scope : Scope} {value : ℤ} → level ≤ tightness of.Primary →
          kind_at ts from ≡ Some (k.Char value) →
          IsExpression (suc depth) level scope scope from (from + 1) (e.Character (place_at ts from) value)
      -- string literals in a row are one node
      strings : {depth level from to : ℕ} {scope : Scope} → level ≤ tightness of.Primary →
          AreStrings ts from to →
          IsExpression (suc depth) level scope scope from to (e.Strings (place_at ts from) to)
      -- `( expr )`
      parentheses : {depth level from to : ℕ} {scope after : Scope} {inner : Expression} → level ≤ tightness of.Primary →
          IsMark ts from mark.LeftParen → IsExpression depth (tightness of.Comma) scope after (from + 1) to inner → IsMark ts to mark.RightParen →
          IsExpression (suc depth) level scope after from (to + 1) (e.Parentheses (place_at ts from) inner)
      -- `postfix [ expr ]`
      index : {depth level from at to : ℕ} {scope between after : Scope} {array place : Expression} → level ≤ tightness of.Postfix →
          IsExpression depth (tightness of.Postfix) scope between from at array → IsMark ts at mark.LeftBracket →
          IsExpression depth (tightness of.Comma) between after (at + 1) to place → IsMark ts to mark.RightBracket →
          IsExpression (suc depth) level scope after from (to + 1) (e.Index (place_at ts from) array place)
      -- `postfix ( )`
      call_without : {depth level from at : ℕ} {scope after : Scope} {function : Expression} → level ≤ tightness of.Postfix →
          IsExpression depth (tightness of.Postfix) scope after from at function → IsMark ts at mark.LeftParen → IsMark ts (at + 1) mark.RightParen →
          IsExpression (suc depth) level scope after from (at + 2) (e.Call (place_at ts from) function [])
      -- `postfix ( list(assign) )`
      call : {depth level from at to : ℕ} {scope between after : Scope} {function : Expression} {arguments : List Expression} → level ≤ tightness of.Postfix →
          IsExpression depth (tightness of.Postfix) scope between from at function → IsMark ts at mark.LeftParen →
          AreExpressions depth between after (at + 1) to arguments → IsMark ts to mark.RightParen →
          IsExpression (suc depth) level scope after from (to + 1) (e.Call (place_at ts from) function arguments)
      -- `postfix . NAME` and `postfix -> NAME`: any name, also one that is a type elsewhere
      select : {depth level from at : ℕ} {scope after : Scope} {operand : Expression} (how : Selection) → level ≤ tightness of.Postfix →
          IsExpression depth (tightness of.Postfix) scope after from at operand → IsMark ts at (selection_mark how) → IsName ts (at + 1) →
          IsExpression (suc depth) level scope after from (at + 2) (e.Select (place_at ts from) how operand (at + 1))
      -- `postfix ++` and `postfix --`
      postfix : {depth level from at : ℕ} {scope after : Scope} {operand : Expression} (op : Postfix) → level ≤ tightness of.Postfix →
          IsExpression depth (tightness of.Postfix) scope after from at operand → IsMark ts at (postfix_mark op) →
          IsExpression (suc depth) level scope after from (at + 1) (e.Postfix (place_at ts from) op operand)
      -- `++` or `--` before a unary, another operator before a cast
      prefix : {depth level from to : ℕ} {scope after : Scope} {operand : Expression} (op : Prefix) → level ≤ tightness of.Unary →
          IsMark ts from (prefix_mark op) → IsExpression depth (tightness (operand_level op)) scope after (from + 1) to operand →
          IsExpression (suc depth) level scope after from to (e.Prefix (place_at ts from) op operand)
      -- `sizeof unary`
      size_of : {depth level from to : ℕ} {scope after : Scope} {operand : Expression} → level ≤ tightness of.Unary →
          IsWord ts from word.Sizeof → IsExpression depth (tightness of.Unary) scope after (from + 1) to operand →
          IsExpression (suc depth) level scope after from to (e.SizeOf (place_at ts from) operand)
      -- `sizeof ( typename )`
      size_of_type : {depth level from to : ℕ} {scope after : Scope} {type : TypePhrase} → level ≤ tightness of.Unary →
          IsWord ts from word.Sizeof → IsMark ts (from + 1) mark.LeftParen → IsTypeName depth scope after (from + 2) to type →
          IsMark ts to mark.RightParen →
          IsExpression (suc depth) level scope after from (to + 1) (e.SizeOfType (place_at ts from) type)
      -- `( typename ) cast`
      cast_to : {depth level from at to : ℕ} {scope between after : Scope} {type : TypePhrase} {operand : Expression} → level ≤ tightness of.Cast →
          IsMark ts from mark.LeftParen → IsTypeName depth scope between (from + 1) at type → IsMark ts at mark.RightParen →
          IsExpression depth (tightness of.Cast) between after (at + 1) to operand →
          IsExpression (suc depth) level scope after from to (e.Cast (place_at ts from) type operand)
      -- an operator between two operands: those of one level group to the left
      binary : {depth level from at to : ℕ} {scope between after : Scope} {left right : Expression} (op : Binary) → level ≤ rank op →
          IsExpression depth (rank op) scope between from at left → IsMark ts at (binary_mark op) →
          IsExpression depth (rank op + 1) between after (at + 1) to right →
          IsExpression (suc depth) level scope after from to (e.Binary (place_at ts from) op left right)
      -- `binary ? expr : cond`
      conditional : {depth level from at middle to : ℕ} {scope one two after : Scope} {test then otherwise : Expression} → level ≤ tightness of.Conditional →
          IsExpression depth (tightness of.LogicalOr) scope one from at test → IsMark ts at mark.Question →
          IsExpression depth (tightness of.Comma) one two (at + 1) middle then → IsMark ts middle mark.Colon →
          IsExpression depth (tightness of.Conditional) two after (middle + 1) to otherwise →
          IsExpression (suc depth) level scope after from to (e.Conditional (place_at ts from) test then otherwise)
      -- `unary = assign`, and the other assignments
      assignment : {depth level from at to : ℕ} {scope between after : Scope} {left right : Expression} (op : Assignment) → level ≤ tightness of.Assignment →
          IsExpression depth (tightness of.Unary) scope between from at left → IsMark ts at (assignment_mark op) →
          IsExpression depth (tightness of.Assignment) between after (at + 1) to right →
          IsExpression (suc depth) level scope after from to (e.Assign (place_at ts from) op left right)
      -- `assign , assign ..`: all of them are one node
      comma : {depth level from at to : ℕ} {scope between after : Scope} {first : Expression} {rest : List Expression} → level ≤ tightness of.Comma →
          IsExpression depth (tightness of.Assignment) scope between from at first → IsMark ts at mark.Comma →
          AreExpressions depth between after (at + 1) to rest →
          IsExpression (suc depth) level scope after from to (e.Comma (place_at ts from) (first ∷ rest))

    -- `list(assign)`
    pub data AreExpressions : ℕ → Scope → Scope → ℕ → ℕ → List Expression → Type 0 where
      last_expression : {depth from to : ℕ} {scope after : Scope} {only : Expression} →
          IsExpression depth (tightness of.Assignment) scope after from to only → AreExpressions depth scope after from to (only ∷ [])
      more_expressions : {depth from at to : ℕ} {scope between after : Scope} {first : Expression} {rest : List Expression} →
          IsExpression depth (tightness of.Assignment) scope between from at first → IsMark ts at mark.Comma →
          AreExpressions depth between after (at + 1) to rest → AreExpressions depth scope after from to (first ∷ rest)

    -- `specs abstract?`
    pub data IsTypeName : ℕ → Scope → Scope → ℕ → ℕ → TypePhrase → Type 0 where
      type_name : {depth from at to : ℕ} {scope between after : Scope} {roles : List Role} {specs : Specs} {declarator : Declarator}
          {own : Option Scope} →
          IsSpecs depth scope between roles from at specs → IsDeclarator naming.NotNamed whole depth between after at to None own declarator →
          IsTypeName depth scope after from to (record { place = place_at ts from; specs = specs; declarator = declarator })

    -- Declaration specifiers with exactly one type. `roles` is what each of them does.
    pub data IsSpecs : ℕ → Scope → Scope → List Role → ℕ → ℕ → Specs → Type 0 where
      specs : {depth from to : ℕ} {scope after : Scope} {roles : List Role} {all : List Specifier} →
          AreSpecifiers depth scope after [] roles from to all → HoldsOneType roles →
          IsSpecs depth scope after roles from to (record { place = place_at ts from; words = all })

    -- specifiers one after another: after those with the roles `earlier`, up to all `roles`
    pub data AreSpecifiers : ℕ → Scope → Scope → List Role → List Role → ℕ → ℕ → List Specifier → Type 0 where
      no_specifiers : {depth at : ℕ} {scope : Scope} {roles : List Role} → AreSpecifiers depth scope scope roles roles at at []
      more_specifiers : {depth from at to : ℕ} {scope between after : Scope} {earlier roles : List Role} {role : Role} {first : Specifier}
          {rest : List Specifier} →
          IsSpecifier depth scope between earlier role from at first →
          AreSpecifiers depth between after (earlier ++ role ∷ []) roles at to rest →
          AreSpecifiers depth scope after earlier roles from to (first ∷ rest)

    pub data IsSpecifier : ℕ → Scope → Scope → List Role → Role → ℕ → ℕ → Specifier → Type 0 where
      -- `typedef`, `extern`, `static`, `register`, `auto`
      storage : {depth from : ℕ} {scope : Scope} {earlier : List Role} (which : Storage) → IsWord ts from (storage_word which) →
          IsSpecifier depth scope scope earlier (storage_role which) from (from + 1) (s.Storage (place_at ts from) which)
      -- `const`, `restrict`, `inline`
      qualifier : {depth from : ℕ} {scope : Scope} {earlier : List Role} (which : Qualifier) → IsWord ts from (qualifier_word which) →
          IsSpecifier depth scope scope earlier modifies from (from + 1) (s.Qualifier (place_at ts from) which)
      -- `void`, `char`, `short`, `int`, `long`, `signed`, `unsigned`
      basic : {depth from : ℕ} {scope : Scope} {earlier : List Role} (which : BasicWord) → IsWord ts from (basic_word which) →
          IsSpecifier depth scope scope earlier (spells which) from (from + 1) (s.Basic (place_at ts from) which)
      -- `struct NAME? { member+ }`, and `union`: the list is a node
      members : {depth from at to : ℕ} {scope after : Scope} {earlier : List Role} {tag : Option ℕ} {all : List Member} (which : Aggregate) →
          IsWord ts from (aggregate_word which) → IsOptionalName ts (from + 1) at tag → IsMark ts at mark.LeftBrace →
          AreMembers depth scope after (at + 1) to all → IsMark ts to mark.RightBrace →
          IsSpecifier (suc depth) scope after earlier is_type from (to + 1) (s.Members (place_at ts from) which tag all)
      -- `struct NAME`, and `union`: any name
      tag : {depth from : ℕ} {scope : Scope} {earlier : List Role} (which : Aggregate) →
          IsWord ts from (aggregate_word which) → IsName ts (from + 1) →
          IsSpecifier depth scope scope earlier is_type from (from + 2) (s.Tag (place_at ts from) which (from + 1))
      -- `enum NAME? { list(..) }`, with or without a comma at its end
      enumerators : {depth from at middle to : ℕ} {scope after : Scope} {earlier : List Role} {tag : Option ℕ} {all : List Enumerator} →
          IsWord ts from word.Enum → IsOptionalName ts (from + 1) at tag → IsMark ts at mark.LeftBrace →
          AreEnumerators depth scope after (at + 1) middle all → ClosesList ts middle to →
          IsSpecifier depth scope after earlier is_type from to (s.Enumerators (place_at ts from) tag all)
      -- `enum NAME`
      enum_tag : {depth from : ℕ} {scope : Scope} {earlier : List Role} → IsWord ts from word.Enum → IsName ts (from + 1) →
          IsSpecifier depth scope scope earlier is_type from (from + 2) (s.EnumTag (place_at ts from) (from + 1))
      -- a name that is a type, where none came before
      named_type : {depth from : ℕ} {scope : Scope} {earlier : List Role} →
          IsName ts from → IsType scope (name_at text ts from) → HoldsNoType earlier →
          IsSpecifier depth scope scope earlier is_type from (from + 1) (s.TypedefName (place_at ts from))

    -- `member+`
    pub data AreMembers : ℕ → Scope → Scope → ℕ → ℕ → List Member → Type 0 where
      last_member : {depth from to : ℕ} {scope after : Scope} {only : Member} →
          IsMember depth scope after from to only → AreMembers depth scope after from to (only ∷ [])
      more_members : {depth from at to : ℕ} {scope between after : Scope} {first : Member} {rest : List Member} →
          IsMember depth scope between from at first → AreMembers depth between after at to rest →
          AreMembers depth scope after from to (first ∷ rest)

    -- `specs list(declarator) ;`
    pub data IsMember : ℕ → Scope → Scope → ℕ → ℕ → Member → Type 0 where
      member : {depth from at to : ℕ} {scope between after : Scope} {roles : List Role} {specs : Specs} {declarators : List Declarator} →
          IsSpecs depth scope between roles from at specs → AreDeclarators depth between after at to declarators → IsMark ts to mark.Semicolon →
          IsMember depth scope after from (to + 1) (record { place = place_at ts from; specs = specs; declarators = declarators })

    -- `list(declarator)` of members, whose names hide nothing
    pub data AreDeclarators : ℕ → Scope → Scope → ℕ → ℕ → List Declarator → Type 0 where
      last_declarator : {depth from to : ℕ} {scope after : Scope} {name : Name} {own : Option Scope} {only : Declarator} →
          IsDeclarator naming.Named whole depth scope after from to (Some name) own only → AreDeclarators depth scope after from to (only ∷ [])
      more_declarators : {depth from at to : ℕ} {scope between after : Scope} {name : Name} {own : Option Scope} {first : Declarator}
          {rest : List Declarator} →
          IsDeclarator naming.Named whole depth scope between from at (Some name) own first → IsMark ts at mark.Comma →
          AreDeclarators depth between after (at + 1) to rest → AreDeclarators depth scope after from to (first ∷ rest)

    -- `list(NAME (= cond)?)`
    pub data AreEnumerators : ℕ → Scope → Scope → ℕ → ℕ → List Enumerator → Type 0 where
      last_enumerator : {depth from to : ℕ} {scope after : Scope} {only : Enumerator} →
          IsEnumerator depth scope after from to only → AreEnumerators depth scope after from to (only ∷ [])
      more_enumerators : {depth from at to : ℕ} {scope between after : Scope} {first : Enumerator} {rest : List Enumerator} →
          IsEnumerator depth scope between from at first → IsMark ts at mark.Comma →
          AreEnumerators depth between after (at + 1) to rest → AreEnumerators depth scope after from to (first ∷ rest)

    -- An enumeration constant, which may have the name of a type: from after its enumerator on it hides that (C11 6.2.1p7).
    pub data IsEnumerator : ℕ → Scope → Scope → ℕ → ℕ → Enumerator → Type 0 where
      -- NAME: its value is one more than that before it
      without_value : {depth from : ℕ} {scope : Scope} → IsName ts from →
          IsEnumerator depth scope ((name_at text ts from, declares.Ordinary) ∷ scope) from (from + 1)
          (record { place = place_at ts from; value = None })
      -- `NAME = cond`
      with_value : {depth from to : ℕ} {scope after : Scope} {value : Expression} → IsName ts from → IsMark ts (from + 1) mark.Equal →
          IsExpression depth (tightness of.Conditional) scope after (from + 2) to value →
          IsEnumerator depth scope ((name_at text ts from, declares.Ordinary) ∷ after) from to
          (record { place = place_at ts from; value = Some value })

    -- `IsDeclarator how kind depth scope after from to name own declarator`: `name` is what it declares, and `own` what the
    -- first list of parameters after the name declares, if there is one.
    pub data IsDeclarator : Naming → DeclaratorKind → ℕ → Scope → Scope → ℕ → ℕ → Option Name → Option Scope → Declarator → Type 0 where
      -- NAME, any name, since a type came before
      declared_name : {kind : DeclaratorKind} {depth from : ℕ} {scope : Scope} → IsName ts from →
          IsDeclarator naming.Named kind (suc depth) scope scope from (from + 1) (Some (name_at text ts from)) None
          (d.Name (place_at ts from))
      -- NAME of a parameter
      parameter_name : {kind : DeclaratorKind} {depth from : ℕ} {scope : Scope} → IsName ts from →
          IsDeclarator naming.NamedOrNot kind (suc depth) scope scope from (from + 1) (Some (name_at text ts from)) None
          (d.Name (place_at ts from))
      -- the name that is left out: it has no token, and does not count
      no_name : {kind : DeclaratorKind} {depth at : ℕ} {scope : Scope} → IsDeclarator naming.NotNamed kind depth scope scope at at None None d.Unnamed
      no_parameter_name : {kind : DeclaratorKind} {depth at : ℕ} {scope : Scope} →
          IsDeclarator naming.NamedOrNot kind depth scope scope at at None None d.Unnamed
      -- `*` with qualifiers, and a declarator
      pointer : {how : Naming} {depth from at to : ℕ} {scope after : Scope} {name : Option Name} {own : Option Scope} {qualifiers : List Qualifier}
          {inner : Declarator} →
          IsMark ts from mark.Star → AreQualifiers ts (from + 1) at qualifiers →
          IsDeclarator how whole depth scope after at to name own inner →
          IsDeclarator how whole (suc depth) scope after from to name own (d.Pointer (place_at ts from) qualifiers inner)
      -- `( declarator )`, which is not empty: `()` is a list of parameters
      in_parentheses : {how : Naming} {kind : DeclaratorKind} {depth from to : ℕ} {scope after : Scope} {name : Option Name} {own : Option Scope}
          {inner : Declarator} →
          IsMark ts from mark.LeftParen → MayEnclose how scope (from + 1) →
          IsDeclarator how whole depth scope after (from + 1) to name own inner → from + 1 < to → IsMark ts to mark.RightParen →
          IsDeclarator how kind (suc depth) scope after from (to + 1) name own (d.Parentheses (place_at ts from) inner)
      -- `direct [ ]`
      open_array : {how : Naming} {kind : DeclaratorKind} {depth from at : ℕ} {scope after : Scope} {name : Option Name} {own : Option Scope}
          {inner : Declarator} →
          IsDeclarator how direct depth scope after from at name own inner → IsMark ts at mark.LeftBracket → IsMark ts (at + 1) mark.RightBracket →
          IsDeclarator how kind (suc depth) scope after from (at + 2) name own (d.Array (place_at ts from) inner None)
      -- `direct [ cond ]`
      array : {how : Naming} {kind : DeclaratorKind} {depth from at to : ℕ} {scope between after : Scope} {name : Option Name} {own : Option Scope}
          {inner : Declarator} {size : Expression} →
          IsDeclarator how direct depth scope between from at name own inner → IsMark ts at mark.LeftBracket →
          IsExpression depth (tightness of.Conditional) between after (at + 1) to size → IsMark ts to mark.RightBracket →
          IsDeclarator how kind (suc depth) scope after from (to + 1) name own (d.Array (place_at ts from) inner (Some size))
      -- `direct ( params )`: the scope of its parameters ends with it
      function : {how : Naming} {kind : DeclaratorKind} {depth from at to : ℕ} {scope after parameters : Scope} {name : Option Name} {own : Option Scope}
          {inner : Declarator} {all : List Parameter} →
          IsDeclarator how direct depth scope after from at name own inner → IsMark ts at mark.LeftParen →
          AreParameters depth after parameters (at + 1) to all → IsMark ts to mark.RightParen →
          IsDeclarator how kind (suc depth) scope after from (to + 1) name (first_of own parameters) (d.Function (place_at ts from) inner all)

    -- `AreParameters depth scope own from to all`: `own` is what they declare.
    pub data AreParameters : ℕ → Scope → Scope → ℕ → ℕ → List Parameter → Type 0 where
      -- `()`
      no_parameters : {depth at : ℕ} {scope : Scope} → AreParameters depth scope [] at at []
      -- `(void)` is the empty list
      only_void : {depth at : ℕ} {scope : Scope} → IsWord ts at word.Void → IsMark ts (at + 1) mark.RightParen →
          AreParameters depth scope [] at (at + 1) []
      parameters : {depth from to : ℕ} {scope own : Scope} {all : List Parameter} →
          (IsWord ts from word.Void → IsMark ts (from + 1) mark.RightParen → ⊥) →
          AreSomeParameters depth scope (own ++ scope) from to all → AreParameters depth scope own from to all

    -- `list(specs (declarator | abstract)?)`
    pub data AreSomeParameters : ℕ → Scope → Scope → ℕ → ℕ → List Parameter → Type 0 where
      last_parameter : {depth from to : ℕ} {scope after : Scope} {only : Parameter} →
          IsParameter depth scope after from to only → AreSomeParameters depth scope after from to (only ∷ [])
      more_parameters : {depth from at to : ℕ} {scope between after : Scope} {first : Parameter} {rest : List Parameter} →
          IsParameter depth scope between from at first → IsMark ts at mark.Comma →
          AreSomeParameters depth between after (at + 1) to rest → AreSomeParameters depth scope after from to (first ∷ rest)

    -- `specs declarator`, whose name is in scope after it, or `specs abstract?`. No parameter declares a type, also not with `typedef`.
    pub data IsParameter : ℕ → Scope → Scope → ℕ → ℕ → Parameter → Type 0 where
      with_name : {depth from at to : ℕ} {scope between after : Scope} {roles : List Role} {name : Name} {own : Option Scope} {specs : Specs}
          {declarator : Declarator} →
          IsSpecs depth scope between roles from at specs →
          IsDeclarator naming.NamedOrNot whole depth between after at to (Some name) own declarator →
          IsParameter depth scope ((name, declares.Ordinary) ∷ after) from to
          (record { place = place_at ts from; specs = specs; declarator = declarator })
      without_name : {depth from at to : ℕ} {scope between after : Scope} {roles : List Role} {own : Option Scope} {specs : Specs}
          {declarator : Declarator} →
          IsSpecs depth scope between roles from at specs → IsDeclarator naming.NamedOrNot whole depth between after at to None own declarator →
          IsParameter depth scope after from to (record { place = place_at ts from; specs = specs; declarator = declarator })
