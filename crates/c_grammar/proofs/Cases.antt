-- Expressions and statements that are read by hand, where no name but `T` is a type.
use Rattle.std.specs.Prelude.{ℕ, List, [], ◌∷◌, Some, None, codes, refl}
use Rattle.std.proofs.Common.{arith}
use Rattle.c_tokens.specs.declared.kind.Keyword.TheVariants as word
use Rattle.c_tokens.specs.declared.kind.Mark.TheVariants as mark
use Rattle.c_tokens.specs.declared.kind.NumType.TheVariants as n
use Rattle.c_tokens.specs.declared.kind.Kind.TheVariants as k
use Rattle.c_tokens.specs.declared.token.Token.{Token}
use Rattle.c_grammar.specs.declared.words.Level.TheVariants as of
use Rattle.c_grammar.specs.declared.words.Binary.TheVariants as binary
use Rattle.c_grammar.specs.declared.words.Prefix.TheVariants as prefix
use Rattle.c_grammar.specs.declared.words.BasicWord.TheVariants as b
use Rattle.c_grammar.specs.declared.phrases.Expression.TheVariants as e
use Rattle.c_grammar.specs.declared.phrases.Specifier.TheVariants as s
use Rattle.c_grammar.specs.declared.phrases.Declarator.TheVariants as d
use Rattle.c_grammar.specs.declared.statements.Initialiser.TheVariants as i
use Rattle.c_grammar.specs.declared.statements.ForStart.TheVariants as begin
use Rattle.c_grammar.specs.declared.statements.Statement.TheVariants as st
use Rattle.c_tokens.specs.Names.{written, spelling}
use Rattle.token_texts.specs.Names.{name_at}
use Rattle.c_grammar.specs.Tokens.{kind_at, place_at}
use Rattle.c_grammar.specs.Words.{by_itself}
use Rattle.c_grammar.specs.Scope.{declared}
use Rattle.c_grammar.specs.Operators.{tightness}
use Rattle.c_grammar.specs.Phrases.{IsExpression}
use Rattle.c_grammar.specs.Phrases as phrase
use Rattle.c_grammar.specs.Initialisers as init
use Rattle.c_grammar.specs.Statements.{IsStatement}
use Rattle.c_grammar.specs.Statements as statement
use Rattle.c_grammar.proofs.CaseTokens.{token, place, T, an_int, x_is_no_type, y_is_no_type, no_type_in_nothing}

-- `(T)-x`
abbrev cast_text : List ℕ
cast_text = codes "(T)-x"

abbrev cast_tokens : List Token
cast_tokens =
    token (k.Mark mark.LeftParen) 0 1 ∷ token k.Name 1 2 ∷ token (k.Mark mark.RightParen) 2 3 ∷ token (k.Mark mark.Minus) 3 4 ∷ token k.Name 4 5 ∷ []

pub a_cast : IsExpression cast_text cast_tokens 3 (tightness of.Comma) T T 0 5
    (e.Cast (place 0)
    (record { place = place 1; specs = record { place = place 1; words = s.TypedefName (place 1) ∷ [] }; declarator = d.Unnamed })
    (e.Prefix (place 3) prefix.Minus (e.Name (place 4))))
unfolding kind_at place_at name_at written spelling
a_cast =
    phrase.cast_to (omega arith) refl
    (phrase.type_name
    (phrase.specs
    (phrase.more_specifiers (phrase.named_type refl declared (record { no_word = refl; no_whole = refl })) phrase.no_specifiers)
    (by_itself refl refl))
    phrase.no_name)
    refl (phrase.prefix prefix.Minus (omega arith) refl (phrase.name (omega arith) refl x_is_no_type))

-- `(x)-y`
abbrev difference_text : List ℕ
difference_text = codes "(x)-y"

abbrev difference_tokens : List Token
difference_tokens =
    token (k.Mark mark.LeftParen) 0 1 ∷ token k.Name 1 2 ∷ token (k.Mark mark.RightParen) 2 3 ∷ token (k.Mark mark.Minus) 3 4 ∷ token k.Name 4 5 ∷ []

pub a_difference : IsExpression difference_text difference_tokens 3 (tightness of.Comma) T T 0 5
    (e.Binary (place 0) binary.Subtract (e.Parentheses (place 0) (e.Name (place 1))) (e.Name (place 4)))
unfolding kind_at place_at name_at written spelling
a_difference =
    phrase.binary binary.Subtract (omega arith)
    (phrase.parentheses (omega arith) refl (phrase.name (omega arith) refl x_is_no_type) refl) refl
    (phrase.name (omega arith) refl y_is_no_type)

-- `a ? b, c : d`
abbrev conditional_text : List ℕ
conditional_text = codes "a ? b, c : d"

abbrev conditional_tokens : List Token
conditional_tokens =
    token k.Name 0 1 ∷ token (k.Mark mark.Question) 2 3 ∷ token k.Name 4 5 ∷ token (k.Mark mark.Comma) 5 6 ∷ token k.Name 7 8 ∷
    token (k.Mark mark.Colon) 9 10 ∷ token k.Name 11 12 ∷ []

pub a_conditional : IsExpression conditional_text conditional_tokens 3 (tightness of.Comma) [] [] 0 7
    (e.Conditional (place 0) (e.Name (place 0))
    (e.Comma (place 2) (e.Name (place 2) ∷ e.Name (place 4) ∷ []))
    (e.Name (place 6)))
unfolding kind_at place_at name_at written spelling
a_conditional =
    phrase.conditional (omega arith) (phrase.name (omega arith) refl no_type_in_nothing) refl
    (phrase.comma (omega arith) (phrase.name (omega arith) refl no_type_in_nothing) refl
    (phrase.last_expression (phrase.name (omega arith) refl no_type_in_nothing)))
    refl (phrase.name (omega arith) refl no_type_in_nothing)

-- `if (a) if (b) ; else ;`
abbrev nearest_text : List ℕ
nearest_text = codes "if (a) if (b) ; else ;"

abbrev nearest_tokens : List Token
nearest_tokens =
    token (k.Word word.If) 0 2 ∷ token (k.Mark mark.LeftParen) 3 4 ∷ token k.Name 4 5 ∷ token (k.Mark mark.RightParen) 5 6 ∷
    token (k.Word word.If) 7 9 ∷ token (k.Mark mark.LeftParen) 10 11 ∷ token k.Name 11 12 ∷ token (k.Mark mark.RightParen) 12 13 ∷
    token (k.Mark mark.Semicolon) 14 15 ∷ token (k.Word word.Else) 16 20 ∷ token (k.Mark mark.Semicolon) 21 22 ∷ []

-- the `else` belongs to the inner `if`
pub to_the_nearest : IsStatement nearest_text nearest_tokens 3 [] [] 0 11
    (st.If (place 0) (e.Name (place 2))
    (st.IfElse (place 4) (e.Name (place 6)) (st.Empty (place 8)) (st.Empty (place 10))))
unfolding kind_at place_at name_at written spelling
to_the_nearest =
    statement.if_alone refl refl (phrase.name (omega arith) refl no_type_in_nothing) refl
    (statement.if_else refl refl (phrase.name (omega arith) refl no_type_in_nothing) refl (statement.empty refl) refl (statement.empty refl))
    (λ sees. grind (arith, sees))

-- `for (int i = 0; ; ) ;`
abbrev loop_text : List ℕ
loop_text = codes "for (int i = 0; ; ) ;"

abbrev loop_tokens : List Token
loop_tokens =
    token (k.Word word.For) 0 3 ∷ token (k.Mark mark.LeftParen) 4 5 ∷ token (k.Word word.Int) 5 8 ∷ token k.Name 9 10 ∷
    token (k.Mark mark.Equal) 11 12 ∷ token (k.Number 0 n.Int) 13 14 ∷ token (k.Mark mark.Semicolon) 14 15 ∷ token (k.Mark mark.Semicolon) 16 17 ∷
    token (k.Mark mark.RightParen) 18 19 ∷ token (k.Mark mark.Semicolon) 20 21 ∷ []

pub a_loop : IsStatement loop_text loop_tokens 3 [] [] 0 10
    (st.For (place 0)
    (begin.Declaration (record {
      place = place 2;
      specs = record { place = place 2; words = s.Basic (place 2) b.Int ∷ [] };
      declarators =
          (record { place = place 3; declarator = d.Name (place 3); value = Some (i.Value (e.Number (place 5) 0 n.Int)) }) ∷ [];
    }))
    None None (st.Empty (place 9)))
unfolding kind_at place_at name_at written spelling
a_loop =
    statement.for refl refl
    (statement.declaration
    (init.of_names (phrase.specs (phrase.more_specifiers (phrase.basic b.Int refl) phrase.no_specifiers) an_int)
    (init.last (init.with_value (phrase.declared_name refl) refl (init.value (phrase.number (omega arith) refl)))) refl))
    statement.absent refl statement.absent refl (statement.empty refl)
