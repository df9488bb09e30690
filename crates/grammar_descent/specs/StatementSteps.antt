-- Statements and blocks are read.
use Rattle.std.specs.Prelude.{ℕ, zero, suc, ◌+◌, List, [], ◌∷◌, ◌++◌, length, Option, Some, None, if◌then◌else◌}
use Rattle.c_tokens.specs.declared.kind.Keyword.TheVariants as word
use Rattle.c_tokens.specs.declared.kind.Mark.{Mark}
use Rattle.c_tokens.specs.declared.kind.Mark.TheVariants as mark
use Rattle.c_tokens.specs.declared.kind.Kind.{Kind}
use Rattle.c_tokens.specs.declared.kind.Kind.TheVariants as k
use Rattle.c_tokens.specs.declared.token.Token.{Token}
use Rattle.c_grammar.specs.declared.phrases.Expression.{Expression}
use Rattle.c_grammar.specs.declared.statements.Block.{Block}
use Rattle.c_grammar.specs.declared.statements.BlockItem.{BlockItem}
use Rattle.c_grammar.specs.declared.statements.BlockItem.TheVariants as item
use Rattle.c_grammar.specs.declared.statements.ForStart.{ForStart}
use Rattle.c_grammar.specs.declared.statements.ForStart.TheVariants as begin
use Rattle.c_grammar.specs.declared.statements.Statement.{Statement}
use Rattle.c_grammar.specs.declared.statements.Statement.TheVariants as node
use Rattle.c_grammar.specs.Tokens.{kind_at, place_at}
use Rattle.c_grammar.specs.declared.words.Level.TheVariants as of
use Rattle.c_grammar.specs.Operators.{tightness}
use Rattle.grammar_descent.specs.Reading.{State, Reading, ◌>>=◌, when, mark_at, word_at, past, Readers}
use Rattle.grammar_descent.specs.Types.{begins_specs}
use Rattle.grammar_descent.specs.InitialiserSteps.{expression_at, declaration}

-- Where a scope that began in the one state ends in the other: the names are in scope that were before.
abbrev pub back : State → State → State
back before after = record { at = after.at; scope = before.scope }

-- `depth` is that of the parts.
module _ (text : List ℕ) (ts : List Token) (phrases : ℕ → Readers) (depth : ℕ) where
  -- an expression and the mark after it
  unfoldable pub expression_before : ℕ → Mark → Reading Expression
  expression_before level m s = expression_at ts phrases depth level s >>= λ f. when ts f.1.at (k.Mark m) (Some (f.0, past f.1 1))

  -- an expression, or nothing, and the mark after it
  unfoldable pub optional_before : Mark → Reading (Option Expression)
  optional_before m s = if mark_at ts s.at m then Some (None, past s 1) else (expression_before (tightness of.Comma) m s >>= λ f. Some (Some f.0, f.1))

  -- an expression in parentheses after a word
  unfoldable pub condition : Reading Expression
  condition s = when ts (s.at + 1) (k.Mark mark.LeftParen) (expression_before (tightness of.Comma) mark.RightParen (past s 2))

  unfoldable pub for_start : Reading ForStart
  for_start s =
      if begins_specs text ts s.scope s.at
      then (declaration ts phrases depth s >>= λ f. Some (begin.Declaration f.0, f.1))
      else (optional_before mark.Semicolon s >>= λ f. Some (begin.Expression f.0, f.1))

  -- a word and the mark after it
  unfoldable pub word_before : Mark → Statement → State → Option (Statement × State)
  word_before m whole s = when ts (s.at + 1) (k.Mark m) (Some (whole, past s 2))

  unfoldable pub expression_statement : Reading Statement
  expression_statement s = expression_before (tightness of.Comma) mark.Semicolon s >>= λ f. Some (node.Expression (place_at ts s.at) f.0, f.1)

  unfoldable pub case_label : Reading Statement
  case_label s = expression_before (tightness of.Conditional) mark.Colon (past s 1) >>= λ f. Some (node.Case (place_at ts s.at) f.0, f.1)

  unfoldable pub return_statement : Reading Statement
  return_statement s = optional_before mark.Semicolon (past s 1) >>= λ f. Some (node.Return (place_at ts s.at) f.0, f.1)

  -- `inner` reads what is nested less deep.
  module _ (inner : Reading Statement) where
    -- a declaration or a statement
    unfoldable pub item_of : Reading BlockItem
    item_of s =
        if begins_specs text ts s.scope s.at
        then (declaration ts phrases depth s >>= λ f. Some (item.Declaration f.0, f.1))
        else (inner s >>= λ f. Some (item.Statement f.0, f.1))

    -- up to the brace after them
    unfoldable pub items : ℕ → List BlockItem → Reading (List BlockItem)
    items zero found s = None
    items (suc n) found s =
        if mark_at ts s.at mark.RightBrace then Some (found, past s 1)
        else (item_of s >>= λ next. items n (found ++ next.0 ∷ []) next.1)

    unfoldable pub block_of : Reading Block
    block_of s = when ts s.at (k.Mark mark.LeftBrace) (items (length ts) [] (past s 1) >>= λ all.
        Some (record { place = place_at ts s.at; items = all.0 }, back s all.1))

    unfoldable pub block_statement : Reading Statement
    block_statement s = block_of s >>= λ f. Some (node.Block f.0, f.1)

    -- After the first part of an `if`: an `else` that follows it is its own. What the first part declares ends with it.
    unfoldable pub else_after : State → Expression × State → Statement × State → Option (Statement × State)
    else_after s test first =
        if word_at ts first.1.at word.Else
        then (inner (past (back test.1 first.1) 1) >>= λ other. Some (node.IfElse (place_at ts s.at) test.0 first.0 other.0, back s other.1))
        else Some (node.If (place_at ts s.at) test.0 first.0, back s first.1)

    unfoldable pub if_statement : Reading Statement
    if_statement s = condition s >>= λ test. inner test.1 >>= else_after s test

    unfoldable pub while_statement : Reading Statement
    while_statement s = condition s >>= λ test. inner test.1 >>= λ body. Some (node.While (place_at ts s.at) test.0 body.0, back s body.1)

    unfoldable pub do_statement : Reading Statement
    do_statement s = inner (past s 1) >>= λ body. when ts body.1.at (k.Word word.While) (condition (back s body.1) >>= λ test.
        when ts test.1.at (k.Mark mark.Semicolon) (Some (node.Do (place_at ts s.at) body.0 test.0, back s (past test.1 1))))

    unfoldable pub for_statement : Reading Statement
    for_statement s = when ts (s.at + 1) (k.Mark mark.LeftParen) (for_start (past s 2) >>= λ start. optional_before mark.Semicolon start.1 >>= λ test.
        optional_before mark.RightParen test.1 >>= λ step. inner step.1 >>= λ body.
        Some (node.For (place_at ts s.at) start.0 test.0 step.0 body.0, back s body.1))

  unfoldable pub switch_statement : Reading Block → Reading Statement
  switch_statement block s = condition s >>= λ value. block value.1 >>= λ body. Some (node.Switch (place_at ts s.at) value.0 body.0, back s body.1)

  -- by the first token
  abbrev pub statement_by : Reading Statement → Reading Block → State → Option Kind → Option (Statement × State)
  statement_by inner block s (Some (k.Mark mark.LeftBrace)) = block_statement inner s
  statement_by inner block s (Some (k.Mark mark.Semicolon)) = Some (node.Empty (place_at ts s.at), past s 1)
  statement_by inner block s (Some (k.Word word.If)) = if_statement inner s
  statement_by inner block s (Some (k.Word word.While)) = while_statement inner s
  statement_by inner block s (Some (k.Word word.Do)) = do_statement inner s
  statement_by inner block s (Some (k.Word word.For)) = for_statement inner s
  statement_by inner block s (Some (k.Word word.Switch)) = switch_statement block s
  statement_by inner block s (Some (k.Word word.Case)) = case_label s
  statement_by inner block s (Some (k.Word word.Default)) = word_before mark.Colon (node.Default (place_at ts s.at)) s
  statement_by inner block s (Some (k.Word word.Break)) = word_before mark.Semicolon (node.Break (place_at ts s.at)) s
  statement_by inner block s (Some (k.Word word.Continue)) = word_before mark.Semicolon (node.Continue (place_at ts s.at)) s
  statement_by inner block s (Some (k.Word word.Return)) = return_statement s
  statement_by inner block s _ = expression_statement s

module _ (text : List ℕ) (ts : List Token) (phrases : ℕ → Readers) where
  unfoldable mutual
    pub statement : ℕ → Reading Statement
    statement zero s = None
    statement (suc depth) s = statement_by text ts phrases depth (statement depth) (block depth) s (kind_at ts s.at)

    pub block : ℕ → Reading Block
    block zero s = None
    block (suc depth) s = block_of text ts phrases depth (statement depth) s
