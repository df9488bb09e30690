-- Statements and blocks.
--
-- Each `if`, `while`, `do`, `for` and `switch` is a scope, and so is each statement that is a part of one (C11 6.8.4p3, 6.8.5p5),
-- and each block: after it is in scope what was before. Counted is each statement; a declaration is not.
use Rattle.std.specs.Prelude.{ℕ, suc, ◌+◌, List, [], ◌∷◌, Option, Some, None}
use Rattle.c_tokens.specs.declared.kind.Keyword.TheVariants as word
use Rattle.c_tokens.specs.declared.kind.Mark.TheVariants as mark
use Rattle.c_tokens.specs.declared.token.Token.{Token}
use Rattle.c_grammar.specs.declared.words.Level.TheVariants as of
use Rattle.c_grammar.specs.declared.phrases.Expression.{Expression}
use Rattle.c_grammar.specs.declared.statements.Declaration.{Declaration}
use Rattle.c_grammar.specs.declared.statements.Block.{Block}
use Rattle.c_grammar.specs.declared.statements.BlockItem.{BlockItem}
use Rattle.c_grammar.specs.declared.statements.BlockItem.TheVariants as item
use Rattle.c_grammar.specs.declared.statements.ForStart.{ForStart}
use Rattle.c_grammar.specs.declared.statements.ForStart.TheVariants as begin
use Rattle.c_grammar.specs.declared.statements.Statement.{Statement}
use Rattle.c_grammar.specs.declared.statements.Statement.TheVariants as s
use Rattle.c_grammar.specs.Tokens.{place_at, IsMark, IsWord}
use Rattle.c_grammar.specs.Scope.{Scope}
use Rattle.c_grammar.specs.Operators.{tightness}
use Rattle.c_grammar.specs.Phrases.{IsExpression}
use Rattle.c_grammar.specs.Initialisers.{IsDeclaration}

module _ (text : List ℕ) (ts : List Token) where
  -- `expr?`
  pub data IsOptional : ℕ → Scope → Scope → ℕ → ℕ → Option Expression → Type 0 where
    absent : {depth at : ℕ} {scope : Scope} → IsOptional depth scope scope at at None
    present : {depth from to : ℕ} {scope after : Scope} {value : Expression} →
        IsExpression text ts depth (tightness of.Comma) scope after from to value → IsOptional depth scope after from to (Some value)

  -- `declaration`, or `expr? ;`
  pub data IsForStart : ℕ → Scope → Scope → ℕ → ℕ → ForStart → Type 0 where
    declaration : {depth from to : ℕ} {scope after : Scope} {first : Declaration} →
        IsDeclaration text ts depth scope after from to first → IsForStart depth scope after from to (begin.Declaration first)
    expression : {depth from to : ℕ} {scope after : Scope} {first : Option Expression} →
        IsOptional depth scope after from to first → IsMark ts to mark.Semicolon →
        IsForStart depth scope after from (to + 1) (begin.Expression first)

  mutual
    -- `{ (declaration | statement)* }`
    pub data IsBlock : ℕ → Scope → ℕ → ℕ → Block → Type 0 where
      block : {depth from to : ℕ} {scope : Scope} {all : List BlockItem} →
          IsMark ts from mark.LeftBrace → AreItems depth scope (from + 1) to all → IsMark ts to mark.RightBrace →
          IsBlock (suc depth) scope from (to + 1) (record { place = place_at ts from; items = all })

    pub data AreItems : ℕ → Scope → ℕ → ℕ → List BlockItem → Type 0 where
      no_items : {depth at : ℕ} {scope : Scope} → AreItems depth scope at at []
      declaration_first : {depth from at to : ℕ} {scope between : Scope} {first : Declaration} {rest : List BlockItem} →
          IsDeclaration text ts depth scope between from at first → AreItems depth between at to rest →
          AreItems depth scope from to (item.Declaration first ∷ rest)
      statement_first : {depth from at to : ℕ} {scope between : Scope} {first : Statement} {rest : List BlockItem} →
          IsStatement depth scope between from at first → AreItems depth between at to rest →
          AreItems depth scope from to (item.Statement first ∷ rest)

    pub data IsStatement : ℕ → Scope → Scope → ℕ → ℕ → Statement → Type 0 where
      -- a block is the statement that it is
      of_block : {depth from to : ℕ} {scope : Scope} {inner : Block} →
          IsBlock depth scope from to inner → IsStatement depth scope scope from to (s.Block inner)
      -- `;`
      empty : {depth from : ℕ} {scope : Scope} → IsMark ts from mark.Semicolon →
          IsStatement (suc depth) scope scope from (from + 1) (s.Empty (place_at ts from))
      -- `expr ;`
      expression : {depth from to : ℕ} {scope after : Scope} {value : Expression} →
          IsExpression text ts depth (tightness of.Comma) scope after from to value → IsMark ts to mark.Semicolon →
          IsStatement (suc depth) scope after from (to + 1) (s.Expression (place_at ts from) value)
      -- `if ( expr ) statement` with no `else` after it: an `else` belongs to the nearest `if` (C11 6.8.4.1p3)
      if_alone : {depth from at to : ℕ} {scope one two : Scope} {test : Expression} {then : Statement} →
          IsWord ts from word.If → IsMark ts (from + 1) mark.LeftParen → IsExpression text ts depth (tightness of.Comma) scope one (from + 2) at test →
          IsMark ts at mark.RightParen → IsStatement depth one two (at + 1) to then → (IsWord ts to word.Else → ⊥) →
          IsStatement (suc depth) scope scope from to (s.If (place_at ts from) test then)
      -- `if ( expr ) statement else statement`
      if_else : {depth from at middle to : ℕ} {scope one two three : Scope} {test : Expression} {then otherwise : Statement} →
          IsWord ts from word.If → IsMark ts (from + 1) mark.LeftParen → IsExpression text ts depth (tightness of.Comma) scope one (from + 2) at test →
          IsMark ts at mark.RightParen → IsStatement depth one two (at + 1) middle then → IsWord ts middle word.Else →
          IsStatement depth one three (middle + 1) to otherwise →
          IsStatement (suc depth) scope scope from to (s.IfElse (place_at ts from) test then otherwise)
      -- `while ( expr ) statement`
      while : {depth from at to : ℕ} {scope one two : Scope} {test : Expression} {body : Statement} →
          IsWord ts from word.While → IsMark ts (from + 1) mark.LeftParen → IsExpression text ts depth (tightness of.Comma) scope one (from + 2) at test →
          IsMark ts at mark.RightParen → IsStatement depth one two (at + 1) to body →
          IsStatement (suc depth) scope scope from to (s.While (place_at ts from) test body)
      -- `do statement while ( expr ) ;`
      do_while : {depth from at to : ℕ} {scope one two : Scope} {body : Statement} {test : Expression} →
          IsWord ts from word.Do → IsStatement depth scope one (from + 1) at body → IsWord ts at word.While →
          IsMark ts (at + 1) mark.LeftParen → IsExpression text ts depth (tightness of.Comma) scope two (at + 2) to test →
          IsMark ts to mark.RightParen → IsMark ts (to + 1) mark.Semicolon →
          IsStatement (suc depth) scope scope from (to + 2) (s.Do (place_at ts from) body test)
      -- `for ( (declaration | expr? ;) expr? ; expr? ) statement`
      for : {depth from at middle last to : ℕ} {scope one two three four : Scope} {start : ForStart} {test step : Option Expression}
          {body : Statement} →
          IsWord ts from word.For → IsMark ts (from + 1) mark.LeftParen → IsForStart depth scope one (from + 2) at start →
          IsOptional depth one two at middle test → IsMark ts middle mark.Semicolon →
          IsOptional depth two three (middle + 1) last step → IsMark ts last mark.RightParen →
          IsStatement depth three four (last + 1) to body →
          IsStatement (suc depth) scope scope from to (s.For (place_at ts from) start test step body)
      -- `switch ( expr ) block`
      switch : {depth from at to : ℕ} {scope one : Scope} {value : Expression} {body : Block} →
          IsWord ts from word.Switch → IsMark ts (from + 1) mark.LeftParen → IsExpression text ts depth (tightness of.Comma) scope one (from + 2) at value →
          IsMark ts at mark.RightParen → IsBlock depth one (at + 1) to body →
          IsStatement (suc depth) scope scope from to (s.Switch (place_at ts from) value body)
      -- `case cond :`, by itself
      case : {depth from to : ℕ} {scope after : Scope} {value : Expression} →
          IsWord ts from word.Case → IsExpression text ts depth (tightness of.Conditional) scope after (from + 1) to value → IsMark ts to mark.Colon →
          IsStatement (suc depth) scope after from (to + 1) (s.Case (place_at ts from) value)
      -- `default :`, by itself
      default : {depth from : ℕ} {scope : Scope} → IsWord ts from word.Default → IsMark ts (from + 1) mark.Colon →
          IsStatement (suc depth) scope scope from (from + 2) (s.Default (place_at ts from))
      -- `break ;`
      break : {depth from : ℕ} {scope : Scope} → IsWord ts from word.Break → IsMark ts (from + 1) mark.Semicolon →
          IsStatement (suc depth) scope scope from (from + 2) (s.Break (place_at ts from))
      -- `continue ;`
      continue : {depth from : ℕ} {scope : Scope} → IsWord ts from word.Continue → IsMark ts (from + 1) mark.Semicolon →
          IsStatement (suc depth) scope scope from (from + 2) (s.Continue (place_at ts from))
      -- `return expr? ;`
      return : {depth from to : ℕ} {scope after : Scope} {value : Option Expression} →
          IsWord ts from word.Return → IsOptional depth scope after (from + 1) to value → IsMark ts to mark.Semicolon →
          IsStatement (suc depth) scope after from (to + 1) (s.Return (place_at ts from) value)
